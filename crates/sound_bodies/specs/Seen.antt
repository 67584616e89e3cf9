-- What is around a place of a body for the checker, and in scope there for the judgement; and what the class table and the
-- program that is put together of it say alike.
use Rattle.std.specs.Prelude.{◌≡◌, ◌≤◌, ◌<◌, ℕ, Bool, true, false, IsTrue, List, [], ◌∷◌, map, length, slice_index_or, Option, Some, option_map, option_and_then}
use Rattle.lang_base.specs.declared.region.Rpl.{Rpl}
use Rattle.lang_base.specs.declared.ty.Super.{Super}
use Rattle.lang_base.specs.declared.ty.Ty.{Ty}
use Rattle.lang_base.specs.Regions.{substituted}
use Rattle.lang_base.specs.Types.{PlainType, plain_type, type_with, mentions_param, superclass}
use Rattle.lang_base.specs.Types.{PlainType as ty}
use Rattle.decl_headers.specs.Headers.{class_of, region_of, atomic_regions}
use Rattle.decl_resolve.specs.declared.scope.ParamFound.{ParamFound}
use Rattle.decl_resolve.specs.Classes.{params_in}
use Rattle.decl_resolve.specs.Scoped.{value_in}
use Rattle.decl_resolve.specs.Scopes.{param_meant}
use Rattle.decl_table.specs.declared.rows.FieldRow.{FieldRow}
use Rattle.decl_table.specs.declared.rows.MethodRow.{MethodRow}
use Rattle.decl_table.specs.declared.table.Table.{Table}
use Rattle.body_check.specs.declared.node.Around.{Around}
use Rattle.decl_table.specs.Table.{numbered, headers_of, given_of, field_of, method_of, row_of, constructor_of, args_at, is_forking}
use Rattle.lang_typed.specs.Plain.{PlainProgram, PlainClass, PlainField, PlainMember, PlainParent}
use Rattle.lang_typed.specs.Scope.{Scope, Local, variable, frozen, constant, part, reserved, Above, IsBelow, class_at, member_at, field_at, row_at}
use Rattle.lang_typed.specs.Scope.{parent_of as parent_in}
use Rattle.lang_typed.specs.Types.{Known, Readable}
use Rattle.body_exprs.specs.declared.env.Env.{Env}
use Rattle.body_exprs.specs.declared.env.LocalRow.{LocalRow}
use Rattle.body_exprs.specs.Env.{table_of, supers_of, given_in, scope_of, local_of, index_variable_of, index_slot, this_type_of}
use Rattle.body_exprs.specs.Partial.{mentions_partial, rigid_in_partial}

-- the type of a value that can be declared: neither `void` nor that of `null`
abbrev pub can_stand : PlainType → Bool
can_stand ty.void = false
can_stand ty.null = false
can_stand t = true

abbrev pub AllStand : List Ty → Type 0
AllStand [] = Unit {0}
AllStand (t ∷ ts) = (can_stand (plain_type t) ≡ true) × AllStand ts

-- the region parameters that a type mentions have numbers of 32 bits
abbrev pub HasNumbers : PlainType → Type 0
HasNumbers t = (p : ℕ) → IsTrue (mentions_param p t) → p ≤ 4294967295

abbrev pub AllHaveNumbers : List Ty → Type 0
AllHaveNumbers [] = Unit {0}
AllHaveNumbers (t ∷ ts) = HasNumbers (plain_type t) × AllHaveNumbers ts

-- each superclass is that of the program's class
abbrev pub SupersAgree : PlainProgram → List Super → Type 0
SupersAgree P supers = (c : ℕ) (t : PlainType) → superclass supers c ≡ Some t → (p : PlainParent) × (parent_in P c ≡ Some p) × (t ≡ ty.class p.class p.args)

-- a field of a class, of which the one that declares it is a supertype with these arguments
pub record FieldSeen (P : PlainProgram) (class : ℕ) (args owned : List Rpl) (row : FieldRow) : Type 0 where
  pub field : PlainField
  pub is : field_at P class row.slot ≡ Some field
  pub ty : type_with args field.ty ≡ type_with owned (plain_type row.ty)
  pub region : substituted args field.region ≡ substituted owned row.rpl
  pub readable : rigid_in_partial (plain_type row.ty) 0 owned ≡ false → Readable args field.ty
  pub known : mentions_partial (plain_type row.ty) 0 owned ≡ false → Known args field.ty
  pub stands : can_stand (plain_type row.ty) ≡ true

-- a method or a constructor
pub record MemberSeen (P : PlainProgram) (row : MethodRow) : Type 0 where
  pub member : PlainMember
  pub is : member_at P row.id ≡ Some member
  pub class : member.class ≡ row.owner
  pub params : member.params ≡ map (λ param. param.atomic) row.regions
  pub given : member.given ≡ row.given
  pub formals : member.formals ≡ map plain_type row.params
  pub result : member.result ≡ plain_type row.result
  pub summary : member.summary ≡ row.summary
  pub stand : AllStand row.params

-- a method of a class, of which the one that declares it is a supertype with these arguments: it has its row there, and
-- where no nd construct is reached through it, none is through any that stands in that row below
pub record MethodSeen (P : PlainProgram) (table : Table) (member_nd_free : ℕ → Bool) (class : ℕ) (args owned : List Rpl) (row : MethodRow) : Type 0 where
  pub seen : MemberSeen P row
  pub in_row : row_at P class (row_of table row.id) ≡ Some row.id
  pub above : Above P class args row.owner owned
  pub formals_numbered : AllHaveNumbers row.params
  pub result_numbered : HasNumbers (plain_type row.result)
  pub nd_free : is_forking table row.id ≡ false → (d m : ℕ) → IsBelow P d class → row_at P d (row_of table row.id) ≡ Some m → IsTrue (member_nd_free m)

-- a class, and its constructor, where it has one
pub record ClassSeen (P : PlainProgram) (table : Table) (member_nd_free : ℕ → Bool) (at : ℕ) : Type 0 where
  pub class : PlainClass
  pub is : class_at P at ≡ Some class
  pub params : class.params ≡ map (λ param. param.atomic) (params_in (headers_of table) at)
  pub given : class.given ≡ given_of table at
  pub constructor : class.constructor ≡ option_map (λ row. row.id) (constructor_of table at)
  pub member : (row : MethodRow) → constructor_of table at ≡ Some row → MemberSeen P row
  pub nd_free : (row : MethodRow) → constructor_of table at ≡ Some row → is_forking table row.id ≡ false → IsTrue (member_nd_free row.id)

-- what the table says of a name is so in the program
pub record Tells (P : PlainProgram) (table : Table) (member_nd_free : ℕ → Bool) : Type 0 where
  pub fields : (class name : ℕ) (args owned : List Rpl) (row : FieldRow) → field_of table class name ≡ Some row → args_at table class args row.owner ≡ Some owned → FieldSeen P class args owned row
  pub methods : (class name : ℕ) (args owned : List Rpl) (row : MethodRow) → method_of table class name ≡ Some row → args_at table class args row.owner ≡ Some owned →
      MethodSeen P table member_nd_free class args owned row
  pub classes : (name at : ℕ) → class_of (headers_of table) name ≡ Some at → ClassSeen P table member_nd_free at
  pub regions : (class name number : ℕ) → region_of (headers_of table) class name ≡ Some number → number < length P.region_names
  pub atomic : P.region_names ≡ atomic_regions (headers_of table)

-- what the slot of a local holds, where a piece of the body may read it or not, and assign it or not
pub data RowIs (reads assigns : Bool) (row : LocalRow) : Option Local → Type 0 where
  is_part : {t : PlainType} {a : Rpl} → row.is_part ≡ true → row.is_final ≡ true → plain_type row.ty ≡ ty.array t a false → RowIs reads assigns row (Some (part t a))
  is_constant : row.is_part ≡ false → row.is_final ≡ true → RowIs reads assigns row (Some (constant (plain_type row.ty)))
  is_variable : row.is_part ≡ false → row.is_final ≡ false → RowIs reads assigns row (Some (variable (plain_type row.ty)))
  -- one that is declared around a branch, which it doesn't assign
  is_frozen : row.is_part ≡ false → row.is_final ≡ false → assigns ≡ false → RowIs reads assigns row (Some (frozen (plain_type row.ty)))
  -- one that a branch beside it assigns
  is_reserved : row.is_part ≡ false → row.is_final ≡ false → reads ≡ false → assigns ≡ false → RowIs reads assigns row (Some reserved)

-- what is around a piece of a body is in scope, of whose outer locals it is said which it may read, and which it may assign
pub record Sees (P : PlainProgram) (L : Scope) (env : Env) (reads assigns : ℕ → Bool) : Type 0 where
  pub given : L.given ≡ given_in env
  pub supers : SupersAgree P (supers_of env)
  pub self : L.local 0 ≡ Some (frozen (this_type_of env))
  pub locals : (name : ℕ) (row : LocalRow) → local_of env name ≡ Some row → RowIs (reads name) (assigns name) row (L.local row.slot)
  pub declared : (name : ℕ) (row : LocalRow) → local_of env name ≡ Some row → row.is_final ≡ false → can_stand (plain_type row.ty) ≡ true
  pub indices : (name : ℕ) → index_variable_of env name ≡ option_and_then index_slot (local_of env name)
  pub params : (name : ℕ) (param : ParamFound) → param_meant (scope_of env) name ≡ Some param → (param.number < length L.atomic) × (slice_index_or L.atomic param.number false ≡ param.atomic)
  pub regions : (name number : ℕ) → value_in env.regions name ≡ Some number → IsTrue (L.regions number)

-- what a `return` gives: a value of the type that the member gives, or none where it gives none; none stands in a branch or an
-- atomic block
pub record Returns (L : Scope) (env : Env) (around : Around) : Type 0 where
  pub value : around.enclosed ≡ false → around.has_result ≡ true → (row : MethodRow) × (numbered (table_of env) env.method ≡ Some row) × (L.result ≡ Some (plain_type row.result)) × (can_stand (plain_type row.result) ≡ true)
  pub nothing : around.enclosed ≡ false → around.has_result ≡ false → L.result ≡ Some ty.void

-- the locals in scope stand beside their names, and have slots of their own after that of `this`; and the local regions
-- beside theirs
pub record InStep (env : Env) : Type 0 where
  pub names : env.variables.names ≡ map (λ row. row.name) env.rows
  pub values : env.variables.values ≡ map index_slot env.rows
  pub some_slot : 0 < env.slots
  pub slots : (name : ℕ) (row : LocalRow) → local_of env name ≡ Some row → row.slot < env.slots
  pub apart : (x y : ℕ) (row other : LocalRow) → local_of env x ≡ Some row → local_of env y ≡ Some other → row.slot ≡ other.slot → x ≡ y
  pub regions : length env.regions.names ≡ length env.regions.values
