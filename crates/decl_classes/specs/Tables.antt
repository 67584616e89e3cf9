-- The class table of a program: the rows that its text says, what each method overrides, and what reaches an nd construct.
use Rattle.std.specs.Prelude.{[], map}
use Rattle.lang_base.specs.declared.ty.Super.{Super}
use Rattle.lang_base.specs.declared.ty.Ty.{Ty, roll-Ty}
use Rattle.lang_base.specs.declared.ty.Ty.TheOpen.{Ty-F}
use Rattle.lang_base.specs.Types.{PlainType}
use Rattle.lang_base.specs.Types.{PlainType as ty}
use Rattle.syntax_tree.specs.declared.class.Program.{Program}
use Rattle.decl_headers.specs.Gathered.{headers_in}
use Rattle.decl_table.specs.declared.rows.FieldRow.{FieldRow}
use Rattle.decl_table.specs.declared.rows.MethodRow.{MethodRow}
use Rattle.decl_table.specs.declared.table.Table.{Table}
use Rattle.decl_table.specs.Overridden.{overridden_in}
use Rattle.decl_table.specs.Plain.{PlainSuper, PlainField, PlainMethod}
use Rattle.decl_table.specs.RowNumbers.{rows_on_way}
use Rattle.decl_table.specs.Table.{headers_of, methods_of}
use Rattle.decl_reach.specs.Edges.{forks_in}
use Rattle.decl_classes.specs.Rows.{all_constraints, supers_meant, fields_meant, methods_meant}

-- the type of a plain type
abbrev pub type_of : PlainType → Ty
type_of ty.int = roll-Ty Ty-F.Int
type_of ty.boolean = roll-Ty Ty-F.Bool
type_of ty.void = roll-Ty Ty-F.Void
type_of ty.null = roll-Ty Ty-F.Null
type_of (ty.class number args) = roll-Ty (Ty-F.Class number args)
type_of (ty.array elem rpl named) = roll-Ty (Ty-F.Array (type_of elem) rpl named)

-- the row of a plain row
abbrev pub super_of : PlainSuper → Super
super_of row = record { class = row.class; parent = type_of row.parent }

abbrev pub field_of : PlainField → FieldRow
field_of row = record { name = row.name; slot = row.slot; owner = row.owner; ty = type_of row.ty; rpl = row.rpl }

abbrev pub method_of : PlainMethod → MethodRow
method_of row = record {
  id = row.id;
  owner = row.owner;
  name = row.name;
  place = row.place;
  is_constructor = row.is_constructor;
  regions = row.regions;
  given = row.given;
  params = map type_of row.params;
  result = type_of row.result;
  summary = row.summary;
}

-- what the signatures of a program say
abbrev pub signed_table : Program → Table
signed_table program =
    let headers = headers_in program in
    let given = all_constraints headers 0 program.classes in
    record {
      headers = headers;
      given = given;
      supers = map super_of (supers_meant headers given 0 program.classes);
      fields = map field_of (fields_meant headers given 0 program.classes);
      methods = map method_of (methods_meant headers given 0 0 program.classes);
      overrides = [];
      rows = [];
      forks = [];
    }

-- with what each method overrides
abbrev pub overriding_table : Program → Table
overriding_table program = let table = signed_table program in record table { overrides = map (overridden_in table) (methods_of table) }

-- and with the row of each method
abbrev pub numbered_table : Program → Table
numbered_table program = let table = overriding_table program in record table { rows = rows_on_way (headers_of table) (methods_of table) table.overrides }

-- and with what forks: the whole class table
abbrev pub table_of : Program → Table
table_of program = let table = numbered_table program in record table { forks = forks_in table program.classes }
