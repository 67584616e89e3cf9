-- What is wrong in the members of a program's classes: the second pass. A second name of one kind where the first one
-- is visible, and a constructor that isn't named as its class. What a class inherits are the region names and the
-- fields of its superclasses; of two of one name, one inherited, the subclass's is the second.
use Rattle.std.specs.Prelude.{ℕ, ◌≡◌, ◌==◌, nat_lt, Bool, true, cond, List, [], ◌∷◌, ◌++◌, map, length, slice_get, Option}
use Rattle.std.specs.List.{list_any, list_all, flat_map, range_with_len}
use Rattle.std.specs.Option.{option_map_or}
use Rattle.lang_base.specs.declared.refusal.Kind.TheVariants as kind
use Rattle.lang_base.specs.declared.refusal.Refusal.{Refusal}
use Rattle.syntax_tree.specs.declared.class.Class.{Class}
use Rattle.syntax_tree.specs.declared.class.Field.{Field}
use Rattle.syntax_tree.specs.declared.class.Member.{Member}
use Rattle.syntax_tree.specs.declared.class.Member.TheVariants as member
use Rattle.syntax_tree.specs.declared.class.Method.{Method}
use Rattle.syntax_tree.specs.declared.region.Named.{Named}
use Rattle.decl_headers.specs.Members.{param_names, formal_names, misnamed}
use Rattle.decl_headers.specs.Passes.{fault_if, is_constructor_result}
use Rattle.decl_headers.specs.Rounds.{superclasses}
use Rattle.decl_headers.specs.Way.{IsCounted}

-- what a member declares of each kind, its names where they stand
abbrev pub regions_in : Member → List Named
regions_in (member.Regions is_atomic names) = names
regions_in (member.Field field) = []
regions_in (member.Method method) = []

abbrev pub field_name : Field → Named
field_name field = record { name = field.name; place = field.place }

abbrev pub fields_in : Member → List Named
fields_in (member.Regions is_atomic names) = []
fields_in (member.Field field) = field_name field ∷ []
fields_in (member.Method method) = []

abbrev pub method_in : Member → List Method
method_in (member.Regions is_atomic names) = []
method_in (member.Field field) = []
method_in (member.Method method) = method ∷ []

abbrev pub method_name : Method → Named
method_name method = record { name = method.name; place = method.place }

abbrev pub method_names : List Method → List Named
method_names methods = flat_map (λ method. cond (is_constructor_result method.result) [] (method_name method ∷ [])) methods

abbrev pub constructor_names : List Method → List Named
constructor_names methods = flat_map (λ method. cond (is_constructor_result method.result) (method_name method ∷ []) []) methods

-- what a class declares of each kind
abbrev pub own_params : Class → List Named
own_params class = param_names class.params.list

abbrev pub own_regions : Class → List Named
own_regions class = flat_map regions_in class.members

abbrev pub own_fields : Class → List Named
own_fields class = flat_map fields_in class.members

abbrev pub own_methods : Class → List Method
own_methods class = flat_map method_in class.members

abbrev pub names_of : List Named → List ℕ
names_of found = map (λ named. named.name) found

abbrev pub is_known : List ℕ → ℕ → Bool
is_known known name = list_any (λ one. one == name) known

-- each name that is known already or stands before it in the list too
abbrev pub second_of : List ℕ → List Named → List Refusal
second_of known [] = []
second_of known (named ∷ more) = fault_if (is_known known named.name) kind.Duplicate named.place ++ second_of (named.name ∷ known) more

-- in a method or constructor; the region parameters of its class are visible
abbrev pub wrong_in_method : Class → Method → List Refusal
wrong_in_method class method =
    misnamed class method ++ (second_of (names_of (own_params class)) (param_names method.params.list) ++ second_of [] (formal_names method.formals))

-- in a class that inherits these region names and these fields
abbrev pub wrong_in_class : List ℕ → List ℕ → Class → List Refusal
wrong_in_class regions fields class =
    second_of [] (own_params class) ++ (second_of regions (own_regions class) ++ (second_of fields (own_fields class)
    ++ (second_of [] (method_names (own_methods class)) ++ (second_of [] (constructor_names (own_methods class))
    ++ flat_map (wrong_in_method class) (own_methods class)))))

-- the names of a kind that some classes declare
abbrev pub names_in : (Class → List Named) → List Class → List ℕ → List ℕ
names_in own classes numbers = flat_map (λ at. option_map_or (λ class. names_of (own class)) (slice_get classes at) []) numbers

-- in the class of a number
abbrev pub wrong_at : List Class → List (Option ℕ) → ℕ → List Refusal
wrong_at classes parents at =
    let above = superclasses parents at in
    option_map_or (λ class. wrong_in_class (names_in own_regions classes above) (names_in own_fields classes above) class) (slice_get classes at) []

-- in the classes one after the other
abbrev pub second_faults : List Class → List (Option ℕ) → List Refusal
second_faults classes parents = flat_map (wrong_at classes parents) (range_with_len 0 (length classes))

-- every name that is declared is one of so many
abbrev pub are_below : ℕ → List Named → Bool
are_below count found = list_all (λ named. nat_lt named.name count) found

abbrev pub declared_in_method : Method → List Named
declared_in_method method = method_name method ∷ (param_names method.params.list ++ formal_names method.formals)

abbrev pub declared_in : Class → List Named
declared_in class = own_params class ++ (own_regions class ++ (own_fields class ++ flat_map declared_in_method (own_methods class)))

abbrev pub AreNamed : ℕ → List Class → Type 0
AreNamed count classes = list_all (λ class. are_below count (declared_in class)) classes ≡ true

-- there are fewer classes than numbers, and every name that they declare is one of so many
abbrev pub AreCounted : ℕ → List Class → Type 0
AreCounted count classes = IsCounted classes × AreNamed count classes
