-- Second declarations of a name among the members, parameters and formals of a class. What is declared is given by
-- a list of numbers, one for each name: 0 for a name that isn't declared, else the number of what declares it and 1.
use Rattle.std.specs.Prelude.{ℕ, ◌+◌, ◌==◌, Bool, false, not, cond, min, List, [], ◌∷◌, ◌++◌, map, slice_set, slice_index_or}
use Rattle.lang_base.specs.declared.refusal.Kind.TheVariants as kind
use Rattle.lang_base.specs.declared.refusal.Refusal.{Refusal}
use Rattle.syntax_tree.specs.declared.class.Class.{Class}
use Rattle.syntax_tree.specs.declared.class.Formal.{Formal}
use Rattle.syntax_tree.specs.declared.class.Method.{Method}
use Rattle.syntax_tree.specs.declared.region.Named.{Named}
use Rattle.syntax_tree.specs.declared.region.ParamTree.{ParamTree}
use Rattle.decl_headers.specs.declared.members.Declared.{Declared}
use Rattle.decl_headers.specs.Passes.{fault_if, is_constructor_result}

-- what stands for an owner
abbrev pub mark_of : ℕ → ℕ
mark_of owner = min (owner + 1) 4294967295

abbrev pub marks : Declared → List ℕ
marks declared = declared.owners.items

-- nothing declares the name; what is beyond all names is no name
abbrev pub is_free : List ℕ → ℕ → Bool
is_free owners name = slice_index_or owners name 1 == 0

-- the name is declared by this owner
abbrev pub is_owned : List ℕ → ℕ → ℕ → Bool
is_owned owners name owner = slice_index_or owners name 0 == mark_of owner

-- the owner declares the name, unless something does already
abbrev pub entered : List ℕ → ℕ → ℕ → List ℕ
entered owners name owner = cond (is_free owners name) (slice_set owners name (mark_of owner)) owners

-- the owner declares the name no more
abbrev pub left : List ℕ → ℕ → ℕ → List ℕ
left owners name owner = cond (is_owned owners name owner) (slice_set owners name 0) owners

-- with all these names
abbrev pub all_entered : List ℕ → ℕ → List Named → List ℕ
all_entered owners owner [] = owners
all_entered owners owner (named ∷ more) = all_entered (entered owners named.name owner) owner more

abbrev pub all_left : List ℕ → ℕ → List Named → List ℕ
all_left owners owner [] = owners
all_left owners owner (named ∷ more) = all_left (left owners named.name owner) owner more

-- each name that is declared already where its turn comes
abbrev pub second_names : List ℕ → ℕ → List Named → List Refusal
second_names owners owner [] = []
second_names owners owner (named ∷ more) =
    fault_if (not (is_free owners named.name)) kind.Duplicate named.place ++ second_names (entered owners named.name owner) owner more

abbrev pub param_names : List ParamTree → List Named
param_names params = map (λ param. record { name = param.name; place = param.place }) params

abbrev pub formal_names : List Formal → List Named
formal_names formals = map (λ formal. record { name = formal.name; place = formal.place }) formals

-- a constructor that isn't named as its class
abbrev pub misnamed : Class → Method → List Refusal
misnamed class method =
    fault_if (cond (is_constructor_result method.result) (not (method.name == class.name)) false) kind.Unknown method.place
