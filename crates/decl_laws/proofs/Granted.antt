-- What a program and a table have, where it is given that table: no pass finds a fault, and the table is what the text says.
use Rattle.std.proofs.Common.{◌≡◌, ◌↔◌, ◌++◌, ℕ, IsTrue, List, map, length, None, Ok, refl, subst}
use Rattle.std.specs.List.{flat_map}
use Rattle.syntax_tree.specs.declared.class.Class.{Class}
use Rattle.syntax_tree.specs.declared.class.Program.{Program}
use Rattle.decl_headers.specs.First.{first_faults, parents_in}
use Rattle.decl_headers.specs.Gathered.{headers_in}
use Rattle.decl_headers.specs.Passes.{first_of}
use Rattle.decl_headers.specs.Second.{second_faults}
use Rattle.decl_headers.proofs.Gathered.{went_on}
use Rattle.decl_table.specs.declared.table.Table.{Table}
use Rattle.decl_table.specs.Overridden.{overridden_in}
use Rattle.decl_table.specs.Plain.{plain_super, plain_field, plain_method}
use Rattle.decl_table.specs.RowNumbers.{rows_on_way}
use Rattle.decl_table.specs.Table.{headers_of, all_given, supers_of, fields_of, methods_of, is_forking}
use Rattle.decl_reach.specs.Bodies.{class_marks, override_edges}
use Rattle.decl_reach.specs.Edges.{call_edges, edges_in, without_forks}
use Rattle.decl_reach.proofs.Reaching.{IsAfter, length_reaching, reaching_after}
use Rattle.decl_classes.specs.Build.{text_faults, table_faults, check_table}
use Rattle.decl_classes.specs.Rows.{all_constraints, supers_meant, fields_meant, methods_meant}
use Rattle.decl_classes.specs.Tables.{numbered_table, table_of}
use Rattle.decl_classes.proofs.Back.{supers_there, fields_there, methods_there}
use Rattle.decl_laws.specs.Rows.{HasRows}

-- the signatures are free of faults, and the table has exactly the rows that they say
pub record IsReadOf (classes : List Class) (table : Table) : Type 0 where
  pub free : first_of (text_faults (headers_of table) classes) ≡ None
  pub given : all_given table ≡ all_constraints (headers_of table) 0 classes
  pub supers : map plain_super (supers_of table) ≡ supers_meant (headers_of table) (all_given table) 0 classes
  pub fields : map plain_field (fields_of table) ≡ fields_meant (headers_of table) (all_given table) 0 classes
  pub methods : map plain_method (methods_of table) ≡ methods_meant (headers_of table) (all_given table) 0 0 classes

-- the table tells of each method and constructor whether an nd construct is reached through it
pub record TellsForking (classes : List Class) (table : Table) : Type 0 where
  pub as_many : length table.forks ≡ length (flat_map class_marks classes)
  pub each : (id : ℕ) → IsTrue (is_forking table id) ↔ IsAfter (flat_map class_marks classes) (call_edges (without_forks table) 0 0 classes ++ override_edges table (methods_of table)) id

pub record Granted (program : Program) (table : Table) : Type 0 where
  pub first : first_of (first_faults program.classes) ≡ None
  pub second : first_of (second_faults program.classes (parents_in program.classes)) ≡ None
  pub headers : headers_of table ≡ headers_in program
  pub read : IsReadOf program.classes table
  pub overridden : table.overrides ≡ map (overridden_in table) (methods_of table)
  pub rows : table.rows ≡ rows_on_way (headers_of table) (methods_of table) table.overrides
  pub reached : TellsForking program.classes table
  pub whole : first_of (table_faults table program.names) ≡ None

pub granted_of : (program : Program) (table : Table) → check_table program ≡ Ok table → Granted program table
granted_of program table h =
    let a = went_on (first_of (first_faults program.classes)) _ table h in
    let b = went_on (first_of (second_faults program.classes (parents_in program.classes))) _ table a.1 in
    let c = went_on (first_of (text_faults (headers_in program) program.classes)) _ table b.1 in
    let d = went_on (first_of (table_faults (table_of program) program.names)) _ table c.1 in
    let same : table_of program ≡ table = cc d.1 in
    subst (Granted program) same (record {
      first = a.0;
      second = b.0;
      headers = refl;
      read = record { free = c.0; given = refl; supers = supers_there _; fields = fields_there _; methods = methods_there _ };
      overridden = refl;
      rows = refl;
      reached = record {
        as_many = length_reaching (edges_in (numbered_table program) program.classes) (flat_map class_marks program.classes);
        each = reaching_after (edges_in (numbered_table program) program.classes) (flat_map class_marks program.classes);
      };
      whole = d.0;
    })

pub granted : {program : Program} {table : Table} → HasRows program table → Granted program table
granted {program = program} {table = table} has = granted_of program table has.has_table
