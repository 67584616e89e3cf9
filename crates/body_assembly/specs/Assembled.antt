-- The typed program that a class table and the bodies of its members are put together to.
use Rattle.std.specs.Prelude.{ℕ, Bool, List, [], ◌∷◌, map, Option, option_map, unwrap_or}
use Rattle.std.specs.Option.{option_map_or}
use Rattle.lang_base.specs.Types.{plain_type}
use Rattle.decl_headers.specs.Headers.{header_of, parent_of, regions_of}
use Rattle.decl_headers.specs.Inheriting.{of_each_class}
use Rattle.decl_headers.specs.Numbers.{as_number}
use Rattle.lang_typed.specs.Plain.{TypedStmts, stmts_of, plain_stmt, PlainParent, PlainClass, PlainMember, PlainProgram}
use Rattle.lang_typed.specs.Plain.{PlainField as TypedField}
use Rattle.lang_typed.specs.Plain.{plain_field as typed_field}
use Rattle.lang_typed.specs.Plain.{class_with}
use Rattle.lang_typed.specs.declared.program.Class.{Class}
use Rattle.decl_table.specs.declared.rows.MethodRow.{MethodRow}
use Rattle.decl_table.specs.Inherited.{declared_fields, fields_in, members_in}
use Rattle.decl_table.specs.Main.{main_class, main_method}
use Rattle.decl_table.specs.Plain.{PlainField}
use Rattle.decl_table.specs.Table.{PlainTable, headers_of, given_of, methods_of, constructor_of, parent_args_of}
use Rattle.body_assembly.specs.declared.body.MemberBody.{MemberBody}

-- a body: its statements, and how many slots and local regions it has
pub record PlainBody : Type 0 where
  pub slots : ℕ
  pub local_regions : ℕ
  pub stmts : TypedStmts

abbrev pub plain_body : MemberBody → PlainBody
plain_body b = record { slots = b.slots; local_regions = b.local_regions; stmts = stmts_of (map plain_stmt b.stmts) }

abbrev pub field_of : PlainField → TypedField
field_of f = record { ty = f.ty; region = f.rpl }

-- the superclass of a class, with the region arguments that the class gives it
abbrev pub parent_at : PlainTable → ℕ → Option PlainParent
parent_at table number = option_map (λ above. record { class = above; args = parent_args_of table number }) (parent_of (headers_of table) number)

-- a class with these fields and rows
abbrev pub class_from : PlainTable → ℕ → List TypedField → List ℕ → PlainClass
class_from table number fields rows = record {
  params = option_map_or (λ header. map (λ param. param.atomic) header.params) (header_of (headers_of table) number) [];
  given = given_of table number;
  parent = parent_at table number;
  fields = fields;
  rows = rows;
  constructor = option_map (λ row. row.id) (constructor_of table number);
}

-- the class at a position of the text: all fields by slot, and the members in all rows
abbrev pub class_of : PlainTable → ℕ → PlainClass
class_of table at = class_from table (as_number at) (map field_of (fields_in table at)) (members_in table at)

-- a class with the fields that it declares itself alone
abbrev pub own_class : Class → PlainClass
own_class c = class_with (map typed_field c.fields) c

abbrev pub own_class_of : PlainTable → ℕ → PlainClass
own_class_of table at = class_from table (as_number at) (map field_of (declared_fields table at)) (members_in table at)

-- a member of this signature, with its body
abbrev pub member_of : MethodRow → PlainBody → PlainMember
member_of row b = record {
  class = row.owner;
  params = map (λ param. param.atomic) row.regions;
  given = row.given;
  formals = map plain_type row.params;
  result = plain_type row.result;
  summary = row.summary;
  slots = b.slots;
  local_regions = b.local_regions;
  body = b.stmts;
}

-- members, each with its body
abbrev pub members_of : List MethodRow → List PlainBody → List PlainMember
members_of [] bodies = []
members_of (row ∷ rows) [] = []
members_of (row ∷ rows) (b ∷ bodies) = member_of row b ∷ members_of rows bodies

abbrev pub program_of : PlainTable → List (List ℕ) → Bool → List PlainBody → PlainProgram
program_of table names uses_nd bodies = record {
  classes = of_each_class (headers_of table) (class_of table);
  members = members_of (methods_of table) bodies;
  region_names = map (λ row. row.is_atomic) (regions_of (headers_of table));
  main_class = unwrap_or (main_class table) 0;
  main_member = unwrap_or (main_method table names) 0;
  uses_nd = uses_nd;
}
