-- The rows of the class table, as the text says them, and what is wrong in what they are read from.
use Rattle.std.specs.Prelude.{ℕ, ◌+◌, List, [], ◌∷◌, ◌++◌, map, length}
use Rattle.std.specs.List.{flat_map}
use Rattle.std.specs.Option.{option_map_or}
use Rattle.lang_base.specs.declared.effect.Constraint.{Constraint}
use Rattle.lang_base.specs.declared.refusal.Refusal.{Refusal}
use Rattle.syntax_tree.specs.declared.class.Class.{Class}
use Rattle.syntax_tree.specs.declared.class.Field.{Field}
use Rattle.syntax_tree.specs.declared.class.Member.{Member}
use Rattle.syntax_tree.specs.declared.class.Member.TheVariants as member
use Rattle.syntax_tree.specs.declared.class.Method.{Method}
use Rattle.decl_headers.specs.declared.header.Headers.{Headers}
use Rattle.decl_headers.specs.Gathered.{param_row}
use Rattle.decl_headers.specs.Headers.{header_of, parent_of}
use Rattle.decl_headers.specs.Numbers.{as_number}
use Rattle.decl_headers.specs.Passes.{is_constructor_result}
use Rattle.decl_resolve.specs.Scopes.{PlainScope}
use Rattle.decl_table.specs.Plain.{PlainSuper, PlainField, PlainMethod}
use Rattle.decl_classes.specs.Around.{method_names, class_scope, with_names, with_given}
use Rattle.decl_classes.specs.Signatures.{constraints_meant, constraints_faults, known_type, known_type_faults, region_of_field, field_region_faults, formal_types, formal_faults, result_type, result_faults, summary_meant, summary_faults, parent_meant, parent_faults}

-- a field with this slot
abbrev pub field_row : PlainScope → ℕ → Field → PlainField
field_row scope slot field = record {
  name = field.name;
  slot = slot;
  owner = scope.class;
  ty = known_type scope field.ty;
  rpl = region_of_field scope field.region;
}

abbrev pub field_faults : PlainScope → Field → List Refusal
field_faults scope field = known_type_faults scope field.ty ++ field_region_faults scope field.region

-- what is around the constraints of a method, where this is around the signatures of its class
abbrev pub method_scope : PlainScope → Method → PlainScope
method_scope scope method = with_names (method_names method) scope

-- its constraints
abbrev pub method_given : PlainScope → Method → List Constraint
method_given scope method = constraints_meant (method_scope scope method) method.params.given

-- what is around the rest of it: its constraints are in force too
abbrev pub said_scope : PlainScope → Method → PlainScope
said_scope scope method = with_given (method_given scope method) (method_scope scope method)

-- a method or a constructor with this number
abbrev pub method_row : PlainScope → ℕ → Method → PlainMethod
method_row scope id method = record {
  id = id;
  owner = scope.class;
  name = method.name;
  place = method.place;
  is_constructor = is_constructor_result method.result;
  regions = map param_row method.params.list;
  given = method_given scope method;
  params = formal_types (said_scope scope method) method.formals;
  result = result_type (said_scope scope method) method.result;
  summary = summary_meant (said_scope scope method) method.summary;
}

-- what is wrong in its types and its summary
abbrev pub said_faults : PlainScope → Method → List Refusal
said_faults scope method = formal_faults scope method.formals ++ result_faults scope method.result ++ summary_faults scope method.summary

abbrev pub method_faults : PlainScope → Method → List Refusal
method_faults scope method = constraints_faults (method_scope scope method) method.params.given ++ said_faults (said_scope scope method) method

-- the row of a member that is a field, and the slot of the next field after it
abbrev pub own_fields : PlainScope → ℕ → Member → List PlainField
own_fields scope slot (member.Regions is_atomic names) = []
own_fields scope slot (member.Field field) = field_row scope slot field ∷ []
own_fields scope slot (member.Method method) = []

abbrev pub next_slot : ℕ → Member → ℕ
next_slot slot (member.Regions is_atomic names) = slot
next_slot slot (member.Field field) = as_number (slot + 1)
next_slot slot (member.Method method) = slot

-- the row of a member that is a method or a constructor
abbrev pub own_methods : PlainScope → ℕ → Member → List PlainMethod
own_methods scope id (member.Regions is_atomic names) = []
own_methods scope id (member.Field field) = []
own_methods scope id (member.Method method) = method_row scope id method ∷ []

abbrev pub member_faults : PlainScope → Member → List Refusal
member_faults scope (member.Regions is_atomic names) = []
member_faults scope (member.Field field) = field_faults scope field
member_faults scope (member.Method method) = method_faults scope method

-- the fields of members, of which the first has this slot
abbrev pub fields_from : PlainScope → ℕ → List Member → List PlainField
fields_from scope slot [] = []
fields_from scope slot (member ∷ members) = own_fields scope slot member ++ fields_from scope (next_slot slot member) members

-- the methods and constructors of members, where so many stand before them in the text
abbrev pub methods_from : PlainScope → ℕ → List Member → List PlainMethod
methods_from scope count [] = []
methods_from scope count (member ∷ members) =
    let own = own_methods scope (as_number count) member in
    own ++ methods_from scope (count + length own) members

-- the slot of the first field that a class itself declares: as many come before it as its superclass has
abbrev pub first_slot : Headers → ℕ → ℕ
first_slot headers number = option_map_or (λ parent. option_map_or (λ header. header.fields) (header_of headers parent) 0) (parent_of headers number) 0

-- the superclass of a class that has one
abbrev pub super_rows : PlainScope → Class → List PlainSuper
super_rows scope class =
    option_map_or (λ tree. option_map_or (λ parent. record { class = scope.class; parent = parent_meant scope tree parent } ∷ []) (parent_of scope.headers scope.class) []) class.parent []

abbrev pub super_faults : PlainScope → Class → List Refusal
super_faults scope class =
    option_map_or (λ tree. option_map_or (parent_faults scope tree) (parent_of scope.headers scope.class) []) class.parent []

-- of classes, counted on from a number: their superclasses, fields, and methods with constructors
abbrev pub supers_meant : Headers → List (List Constraint) → ℕ → List Class → List PlainSuper
supers_meant headers all at [] = []
supers_meant headers all at (class ∷ classes) =
    super_rows (class_scope headers all (as_number at)) class ++ supers_meant headers all (at + 1) classes

abbrev pub fields_meant : Headers → List (List Constraint) → ℕ → List Class → List PlainField
fields_meant headers all at [] = []
fields_meant headers all at (class ∷ classes) =
    fields_from (class_scope headers all (as_number at)) (first_slot headers (as_number at)) class.members ++ fields_meant headers all (at + 1) classes

abbrev pub methods_meant : Headers → List (List Constraint) → ℕ → ℕ → List Class → List PlainMethod
methods_meant headers all at count [] = []
methods_meant headers all at count (class ∷ classes) =
    let own = methods_from (class_scope headers all (as_number at)) count class.members in
    own ++ methods_meant headers all (at + 1) (count + length own) classes

-- what is wrong in the signatures of a class, and of classes
abbrev pub class_faults : PlainScope → Class → List Refusal
class_faults scope class = super_faults scope class ++ flat_map (member_faults scope) class.members

abbrev pub signature_faults : Headers → List (List Constraint) → ℕ → List Class → List Refusal
signature_faults headers all at [] = []
signature_faults headers all at (class ∷ classes) =
    class_faults (class_scope headers all (as_number at)) class ++ signature_faults headers all (at + 1) classes

-- the constraints of classes, counted on from a number, and what is wrong in them: no constraints are in force there
abbrev pub all_constraints : Headers → ℕ → List Class → List (List Constraint)
all_constraints headers at [] = []
all_constraints headers at (class ∷ classes) =
    constraints_meant (class_scope headers [] (as_number at)) class.params.given ∷ all_constraints headers (at + 1) classes

abbrev pub all_constraint_faults : Headers → ℕ → List Class → List Refusal
all_constraint_faults headers at [] = []
all_constraint_faults headers at (class ∷ classes) =
    constraints_faults (class_scope headers [] (as_number at)) class.params.given ++ all_constraint_faults headers (at + 1) classes
