-- What a tree declares, by number, and what a name means in a class. A class, a region name, and a method or a constructor has its
-- position in the text as its number.
use Rattle.std.specs.Prelude.{◌≡◌, ℕ, suc, ◌+◌, Bool, List, [], ◌∷◌, ◌++◌, map, length, Option, Some, option_map, slice_get, slice_index_or}
use Rattle.std.specs.List.{flat_map}
use Rattle.std.specs.Option.{option_map_or}
use Rattle.syntax_tree.specs.declared.class.Class.{Class}
use Rattle.syntax_tree.specs.declared.class.Field.{Field}
use Rattle.syntax_tree.specs.declared.class.Member.{Member}
use Rattle.syntax_tree.specs.declared.class.Member.TheVariants as member
use Rattle.syntax_tree.specs.declared.class.Method.{Method}
use Rattle.syntax_tree.specs.declared.class.MethodResult.TheVariants.{Constructor}
use Rattle.syntax_tree.specs.declared.class.Program.{Program}
use Rattle.syntax_tree.specs.declared.region.Params.{Params}
use Rattle.lang_typed.specs.Names.{ProgramNames}
use Rattle.lang_typed.specs.Plain.{PlainProgram, PlainParent}
use Rattle.lang_typed.specs.Scope.{class_at, parent_of}

-- a region name, and a method or a constructor, with the class that declares it
pub record OwnRegion : Type 0 where
  pub class : ℕ
  pub name : ℕ
  pub is_atomic : Bool

pub record OwnMethod : Type 0 where
  pub class : ℕ
  pub method : Method

abbrev pub member_regions : ℕ → Member → List OwnRegion
member_regions c (member.Regions is_atomic names) = map (λ named. record { class = c; name = named.name; is_atomic = is_atomic }) names
member_regions c (member.Field field) = []
member_regions c (member.Method method) = []

abbrev pub member_fields : Member → List Field
member_fields (member.Regions is_atomic names) = []
member_fields (member.Field field) = field ∷ []
member_fields (member.Method method) = []

abbrev pub member_methods : ℕ → Member → List OwnMethod
member_methods c (member.Regions is_atomic names) = []
member_methods c (member.Field field) = []
member_methods c (member.Method method) = record { class = c; method = method } ∷ []

-- the fields that a class declares
abbrev pub own_fields : Class → List Field
own_fields class = flat_map member_fields class.members

-- the region names, and the methods and constructors, of classes from a number on
abbrev pub regions_from : ℕ → List Class → List OwnRegion
regions_from c [] = []
regions_from c (class ∷ classes) = flat_map (member_regions c) class.members ++ regions_from (suc c) classes

abbrev pub methods_from : ℕ → List Class → List OwnMethod
methods_from c [] = []
methods_from c (class ∷ classes) = flat_map (member_methods c) class.members ++ methods_from (suc c) classes

abbrev pub all_regions : Program → List OwnRegion
all_regions tree = regions_from 0 tree.classes

abbrev pub all_methods : Program → List OwnMethod
all_methods tree = methods_from 0 tree.classes

-- how a name is spelled, and the name of a method
abbrev pub spelled : Program → ℕ → List ℕ
spelled tree name = slice_index_or tree.names name []

abbrev pub method_name : Program → ℕ → Option ℕ
method_name tree n = option_map (λ own. own.method.name) (slice_get (all_methods tree) n)

-- the class of a number has the name
abbrev pub ClassNamed : Program → ℕ → ℕ → Type 0
ClassNamed tree name c = (class : Class) × (slice_get tree.classes c ≡ Some class) × (class.name ≡ name)

-- a class itself declares the region name, or the method, of a number by this name; a constructor is declared by none
abbrev pub DeclaresRegion : Program → ℕ → ℕ → ℕ → Type 0
DeclaresRegion tree name c n = (is_atomic : Bool) × (slice_get (all_regions tree) n ≡ Some (record { class = c; name = name; is_atomic = is_atomic }))

abbrev pub IsMethodOf : Program → Method → ℕ → ℕ → Type 0
IsMethodOf tree method c n = slice_get (all_methods tree) n ≡ Some (record { class = c; method = method })

abbrev pub DeclaresMethod : Program → ℕ → ℕ → ℕ → Type 0
DeclaresMethod tree name c n = (method : Method) × IsMethodOf tree method c n × (method.result ≡ Constructor → ⊥) × (method.name ≡ name)

abbrev pub DeclaresConstructor : Program → ℕ → ℕ → Type 0
DeclaresConstructor tree c n = (method : Method) × IsMethodOf tree method c n × (method.result ≡ Constructor)

-- how many fields a class has from its superclass; they come before those that it declares
abbrev pub inherited_fields : PlainProgram → ℕ → ℕ
inherited_fields P c = option_map_or (λ p. option_map_or (λ k. length k.fields) (class_at P p.class) 0) (parent_of P c) 0

-- a class itself declares the field in a slot by this name
abbrev pub DeclaresField : Program → PlainProgram → ℕ → ℕ → ℕ → Type 0
DeclaresField tree P name c slot =
    (class : Class) × (field : Field) × (i : ℕ) × (slice_get tree.classes c ≡ Some class) × (slice_get (own_fields class) i ≡ Some field)
    × (field.name ≡ name) × (slot ≡ inherited_fields P c + i)

-- what a name means in a class: what the class itself declares by it, else what it means in the superclass
pub data MeansIn (P : PlainProgram) (Declares : ℕ → ℕ → Type 0) : ℕ → ℕ → Type 0 where
  its_own : {c n : ℕ} → Declares c n → MeansIn P Declares c n
  inherited : {c n : ℕ} {p : PlainParent} →
      ((m : ℕ) → Declares c m → ⊥) → parent_of P c ≡ Some p → MeansIn P Declares p.class n → MeansIn P Declares c n

-- the names of all that has a number
abbrev pub params_spelled : Program → Params → List (List ℕ)
params_spelled tree params = map (λ param. spelled tree param.name) params.list

abbrev pub names_in : Program → ProgramNames
names_in tree = record {
  classes = map (λ class. record { name = spelled tree class.name; params = params_spelled tree class.params }) tree.classes;
  members = map (λ own. record { name = spelled tree own.method.name; params = params_spelled tree own.method.params }) (all_methods tree);
  regions = map (λ region. record { class = region.class; name = spelled tree region.name }) (all_regions tree);
}
