-- What is in scope around an expression.
use Rattle.std.specs.Prelude.{◌≡◌, ℕ, zero, suc, ◌+◌, ◌<◌, ◌==◌, Bool, true, false, ◌&&◌, cond, nat_lt, List, [], ◌∷◌, ◌++◌, map, length, take, fold, slice_get, is_some, Option, Some, None, option_and_then}
use Rattle.std.specs.Option.{option_map_or}
use Rattle.lang_base.specs.declared.effect.Constraint.{Constraint}
use Rattle.lang_base.specs.declared.region.Head.TheVariants.{Param}
use Rattle.lang_base.specs.declared.region.Rpl.{Rpl}
use Rattle.lang_base.specs.declared.ty.Super.{Super}
use Rattle.lang_base.specs.declared.ty.Ty.{Ty}
use Rattle.lang_base.specs.Types.{PlainType, plain_type}
use Rattle.lang_base.specs.Types.{PlainType as ty}
use Rattle.syntax_tree.specs.Plain.{PlainExpr, expression, ExprForm, local}
use Rattle.decl_headers.specs.Numbers.{as_number}
use Rattle.decl_headers.specs.declared.header.ParamRow.{ParamRow}
use Rattle.decl_resolve.specs.declared.scope.Site.TheVariants as site
use Rattle.decl_resolve.specs.Classes.{params_in}
use Rattle.decl_resolve.specs.Names.{Names}
use Rattle.decl_resolve.specs.Scopes.{PlainScope, param_meant}
use Rattle.decl_resolve.specs.Scoped.{no_names, place_in, value_in, values_in, with_name, names_left}
use Rattle.decl_table.specs.declared.rows.MethodRow.{MethodRow}
use Rattle.decl_table.specs.declared.table.Table.{Table}
use Rattle.decl_table.specs.Table.{headers_of, given_of, all_given, numbered}
use Rattle.decl_table.specs.Table.{supers_of as superclasses}
use Rattle.body_exprs.specs.declared.env.Env.{Env}
use Rattle.body_exprs.specs.declared.env.LocalRow.{LocalRow}
use Rattle.body_exprs.specs.declared.env.Mark.{Mark}
use Rattle.body_exprs.specs.Typed.{is_int, AreTaken}

abbrev pub table_of : Env → Table
table_of env = env.table

-- the locals in scope, in the order of their declarations
abbrev pub locals_in : Env → List LocalRow
locals_in env = env.rows

-- the local of that name: the last, where there are two
abbrev pub local_of : Env → ℕ → Option LocalRow
local_of env name = option_and_then (λ place. slice_get (locals_in env) place) (place_in env.variables name)

-- the slot of the index variable of that name
abbrev pub index_variable_of : Env → ℕ → Option ℕ
index_variable_of env name = option_and_then (λ variable. variable) (value_in env.variables name)

-- a local that is a part of an array
abbrev pub as_part : LocalRow → Option LocalRow
as_part row = cond row.is_part (Some row) None

-- the part of an array that an expression names
abbrev pub part_in : Env → ExprForm → Option LocalRow
part_in env (local name) = option_and_then as_part (local_of env name)
part_in env form = None

abbrev pub part_of : Env → PlainExpr → Option LocalRow
part_of env (expression place form) = part_in env form

-- the name is `length`
abbrev pub is_length_name : Env → ℕ → Bool
is_length_name env name = option_map_or (λ length_name. length_name == name) env.length false

-- the constraints in force
abbrev pub given_in : Env → List Constraint
given_in env = env.given

-- the declarations of the local regions in scope, in their order
abbrev pub regions_in : Env → List ℕ
regions_in env = values_in env.regions

-- a local region in scope has the name
abbrev pub has_region : Env → ℕ → Bool
has_region env name = is_some (place_in env.regions name)

-- the superclasses of all classes
abbrev pub supers_of : Env → List Super
supers_of env = env.supers

-- what is around a region path or a type in a body
abbrev pub scope_of : Env → PlainScope
scope_of env = record {
  headers = headers_of (table_of env);
  class = env.class;
  params = env.params;
  variables = env.variables;
  regions = env.regions;
  given = env.given;
  classes_given = all_given (table_of env);
  site = site.Body;
}

-- a region parameter of the class or the method has the name
abbrev pub is_param_name : Env → ℕ → Bool
is_param_name env name = is_some (param_meant (scope_of env) name)

-- how many local regions the member has declared so far
abbrev pub declared_in : Env → ℕ
declared_in env = env.declared

-- how many slots the member has so far: that of `this`, and those of all that was declared, in scope still or not
abbrev pub slots_in : Env → ℕ
slots_in env = env.slots

-- a further part of an array, local or local region has numbers of 32 bits
abbrev pub HasRoom : Env → Type 0
HasRoom env = (env.slots + 4 < 4294967295) × (env.declared < 4294967295)

-- how much is in scope
abbrev pub mark_of : Env → Mark
mark_of env = record { locals = length (locals_in env); regions = length (regions_in env) }

-- a final int may stand in an index
abbrev pub index_slot : LocalRow → Option ℕ
index_slot row = cond (row.is_final && is_int (plain_type row.ty)) (Some row.slot) None

-- the first region parameters, each as a path
abbrev pub param_paths : ℕ → List Rpl
param_paths zero = []
param_paths (suc n) = param_paths n ++ (record { head = Param (as_number n); elems = [] }) ∷ []

-- how many region parameters the class has
abbrev pub class_arity : Env → ℕ
class_arity env = length (params_in (headers_of (table_of env)) env.class)

-- the class with its own region parameters
abbrev pub this_type_of : Env → PlainType
this_type_of env = ty.class env.class (param_paths (class_arity env))

-- a local in the next slot, and a part of an array, which has four slots from there on
abbrev pub local_row : Env → ℕ → Ty → Bool → LocalRow
local_row env name t is_final = record { name = name; slot = slots_in env; ty = t; is_final = is_final; is_part = false }

abbrev pub part_row : Env → ℕ → Ty → LocalRow
part_row env name t = record { name = name; slot = slots_in env; ty = t; is_final = true; is_part = true }

-- a further row is in scope; a final int may stand in an index
abbrev pub with_row_in : Env → LocalRow → Env
with_row_in env row = record env { rows = env.rows ++ row ∷ []; variables = with_name env.variables row.name (index_slot row) }

-- a further local, and a further part, is in scope, and its slots are never given again
abbrev pub with_local : Env → ℕ → Ty → Bool → Env
with_local env name t is_final = record (with_row_in env (local_row env name t is_final)) { slots = env.slots + 1 }

abbrev pub with_part : Env → ℕ → Ty → Env
with_part env name t = record (with_row_in env (part_row env name t)) { slots = env.slots + 4 }

-- a further local region is in scope
abbrev pub with_region : Env → ℕ → Env
with_region env name = record env { regions = with_name env.regions name env.declared; declared = env.declared + 1 }

-- there is a slot of 32 bits for a further local or part, and a number for a further local region
abbrev pub has_room : Env → Bool
has_room env = nat_lt (slots_in env + 4) 4294967295 && nat_lt (declared_in env) 4294967295

-- a further local, part of an array or local region is in scope, where there is room for it
abbrev pub local_declared : Env → ℕ → Ty → Bool → Env
local_declared env name t is_final = cond (has_room env) (with_local env name t is_final) env

abbrev pub part_declared : Env → ℕ → Ty → Env
part_declared env name t = cond (has_room env) (with_part env name t) env

abbrev pub region_declared : Env → ℕ → Env
region_declared env name = cond (has_room env) (with_region env name) env

-- only what was in scope at the mark still is
abbrev pub left_to : Env → Mark → Env
left_to env mark = record env {
  rows = take mark.locals env.rows;
  variables = names_left env.variables mark.locals;
  regions = names_left env.regions mark.regions;
}

-- around no class yet: what the table says of all of them, and which name is `length`
pub record IsFresh (table : Table) (length_name : Option ℕ) (env : Env) : Type 0 where
  pub table_is : table_of env ≡ table
  pub supers_are : AreTaken (superclasses table) (supers_of env)
  pub length_is : env.length ≡ length_name

-- nothing is in scope, and `this` has the one slot that there is
abbrev pub bare : Env → Env
bare env = record env { params = no_names; rows = []; variables = no_names; slots = 1; regions = no_names; declared = 0 }

-- of each region parameter, whether it is declared atomic
abbrev pub atomic_of : List ParamRow → List Bool
atomic_of params = map (λ param. param.atomic) params

-- the same of those of a class
abbrev pub class_params : Table → ℕ → List Bool
class_params table class = atomic_of (params_in (headers_of table) class)

-- around the members of a class: its constraints are in force
abbrev pub at_class : Env → ℕ → Env
at_class env class = record (bare env) {
  class = class;
  method = 0;
  given = given_of (table_of env) class;
  class_given = length (given_of (table_of env) class);
  atomic_params = class_params (table_of env) class;
  class_params = length (class_params (table_of env) class);
}

-- region parameters by their names, with whether each is atomic
abbrev pub params_named : List ParamRow → Names Bool
params_named rows = fold (λ names row. with_name names row.name row.atomic) no_names rows

-- with the region parameters and the constraints of a method
abbrev pub with_row : Env → Option MethodRow → Env
with_row env None = env
with_row env (Some row) = record env {
  params = params_named row.regions;
  given = env.given ++ row.given;
  atomic_params = env.atomic_params ++ atomic_of row.regions;
}

-- around the members of the class that was entered, after a method of it too
abbrev pub at_members : Env → Env
at_members env = record (bare env) { method = 0; given = take env.class_given env.given; atomic_params = take env.class_params env.atomic_params }

-- around the body of a method or a constructor of the class
abbrev pub at_method : Env → ℕ → Env
at_method env method = with_row (record (at_members env) { method = method }) (numbered (table_of env) method)
