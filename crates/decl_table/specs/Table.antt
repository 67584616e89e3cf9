-- What the class table says: of a name in a class, what the nearest class says that declares it, the class itself
-- first and then its superclasses.
use Rattle.std.specs.Prelude.{ℕ, zero, suc, ◌+◌, Bool, false, ◌==◌, cond, List, [], map, slice_get, slice_index_or, Option, None, Some, option_map, option_and_then}
use Rattle.std.specs.Option.{option_map_or}
use Rattle.lang_base.specs.declared.effect.Constraint.{Constraint}
use Rattle.lang_base.specs.declared.region.Rpl.{Rpl}
use Rattle.lang_base.specs.declared.ty.Super.{Super}
use Rattle.lang_base.specs.declared.ty.Ty.{Ty}
use Rattle.lang_base.specs.Regions.{substituted}
use Rattle.lang_base.specs.Types.{PlainType, plain_type}
use Rattle.lang_base.specs.Types.PlainType.{class}
use Rattle.decl_headers.specs.declared.header.Headers.{Headers}
use Rattle.decl_headers.specs.Headers.{nearest, upwards, class_count}
use Rattle.decl_table.specs.declared.rows.FieldRow.{FieldRow}
use Rattle.decl_table.specs.declared.rows.MethodRow.{MethodRow}
use Rattle.decl_table.specs.Places.{entry_at, field_place, method_number, constructor_number, super_place}

-- the classes of a program with their members
pub record PlainTable : Type 0 where
  pub headers : Headers
  -- the constraints of each class
  pub given : List (List Constraint)
  -- one row for each class with a superclass, in the order of classes
  pub supers : List Super
  -- the fields and the methods with constructors of all classes, in the order of the text
  pub fields : List FieldRow
  pub methods : List MethodRow
  -- of each method and constructor, the number of the method that it overrides
  pub overrides : List (Option ℕ)
  -- its row among the methods of its class, those of superclasses first; a constructor has none
  pub rows : List ℕ
  -- and whether an nd construct is reached through it
  pub forks : List Bool

abbrev pub headers_of : PlainTable → Headers
headers_of table = table.headers

-- the field which the class itself declares, by its place among all fields
abbrev pub own_field : PlainTable → ℕ → ℕ → Option ℕ
own_field table at name = field_place table.fields at name

-- all fields, those of a class in the order of the text
abbrev pub fields_of : PlainTable → List FieldRow
fields_of table = table.fields

-- the field that a name means in a class
abbrev pub field_of : PlainTable → ℕ → ℕ → Option FieldRow
field_of table at name =
    option_and_then (λ place. slice_get table.fields place) (nearest (λ above. own_field table above name) (upwards table.headers at))

-- all methods and constructors, by their numbers
abbrev pub methods_of : PlainTable → List MethodRow
methods_of table = table.methods

abbrev pub numbered : PlainTable → ℕ → Option MethodRow
numbered table id = slice_get table.methods id

-- the method which the class itself declares, by its number
abbrev pub own_method : PlainTable → ℕ → ℕ → Option ℕ
own_method table at name = method_number table.methods at name

-- the method that a name means in a class
abbrev pub method_of : PlainTable → ℕ → ℕ → Option MethodRow
method_of table at name =
    option_and_then (numbered table) (nearest (λ above. own_method table above name) (upwards table.headers at))

-- the constructor which the class itself declares
abbrev pub constructor_of : PlainTable → ℕ → Option MethodRow
constructor_of table at = option_and_then (numbered table) (constructor_number table.methods at)

-- the method that a method overrides
abbrev pub overridden_by : PlainTable → ℕ → Option ℕ
overridden_by table id = entry_at table.overrides id

-- the row of a method among the methods of its class
abbrev pub row_of : PlainTable → ℕ → ℕ
row_of table id = slice_index_or table.rows id 0

-- an nd construct is reached through the method
abbrev pub is_forking : PlainTable → ℕ → Bool
is_forking table id = slice_index_or table.forks id false

-- the constraints of a class
abbrev pub given_of : PlainTable → ℕ → List Constraint
given_of table at = option_map_or (λ given. given) (slice_get table.given at) []

-- the constraints of all classes, by their numbers
abbrev pub all_given : PlainTable → List (List Constraint)
all_given table = table.given

-- the superclasses with their region arguments, one row for each class that has one
abbrev pub supers_of : PlainTable → List Super
supers_of table = table.supers

-- the superclass of a class with its region arguments
abbrev pub parent_type_of : PlainTable → ℕ → Option Ty
parent_type_of table at = option_map (λ row. row.parent) (option_and_then (λ place. slice_get table.supers place) (super_place table.supers at))

-- the class of a class type, and its region arguments
abbrev pub class_number : PlainType → Option ℕ
class_number (class number paths) = Some number
class_number t = None

abbrev pub class_paths : PlainType → List Rpl
class_paths (class number paths) = paths
class_paths t = []

-- the region arguments that a class gives its superclass
abbrev pub parent_args_of : PlainTable → ℕ → List Rpl
parent_args_of table at = option_map_or (λ parent. class_paths (plain_type parent)) (parent_type_of table at) []

-- what follows from the class and the region arguments of a class type
abbrev pub of_class_type : {A : Type 0} → (ℕ → List Rpl → Option A) → PlainType → Option A
of_class_type next t = option_and_then (λ number. next number (class_paths t)) (class_number t)

-- the region arguments of `owner` as a supertype of a class with these arguments, at most so many steps up
abbrev pub args_above : PlainTable → ℕ → ℕ → List Rpl → ℕ → Option (List Rpl)
args_above table zero at args owner = None
args_above table (suc n) at args owner =
    cond (at == owner) (Some args)
    (option_and_then (of_class_type (λ above paths. args_above table n above (map (substituted args) paths) owner))
    (option_map plain_type (parent_type_of table at)))

abbrev pub args_at : PlainTable → ℕ → List Rpl → ℕ → Option (List Rpl)
args_at table at args owner = args_above table (class_count table.headers + 1) at args owner
