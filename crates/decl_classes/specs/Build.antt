-- The class table that a program is given, or the fault that is refused where it is given none.
use Rattle.std.specs.Prelude.{ℕ, List, ◌++◌, Result, Ok}
use Rattle.lang_base.specs.declared.refusal.Refusal.{Refusal}
use Rattle.syntax_tree.specs.declared.class.Class.{Class}
use Rattle.syntax_tree.specs.declared.class.Program.{Program}
use Rattle.decl_headers.specs.declared.header.Headers.{Headers}
use Rattle.decl_headers.specs.First.{first_faults, parents_in}
use Rattle.decl_headers.specs.Gathered.{headers_in}
use Rattle.decl_headers.specs.Passes.{first_of, refused_or}
use Rattle.decl_headers.specs.Second.{second_faults}
use Rattle.decl_table.specs.declared.table.Table.{Table}
use Rattle.decl_table.specs.Main.{main_faults}
use Rattle.decl_table.specs.Table.{methods_of}
use Rattle.decl_classes.specs.Overriding.{override_faults}
use Rattle.decl_classes.specs.Rows.{all_constraints, all_constraint_faults, signature_faults}
use Rattle.decl_classes.specs.Tables.{table_of}

-- what is wrong in all signatures, those of constraints of classes included
abbrev pub text_faults : Headers → List Class → List Refusal
text_faults headers classes = all_constraint_faults headers 0 classes ++ signature_faults headers (all_constraints headers 0 classes) 0 classes

-- what is wrong in a table as a whole: methods that don't fit those that they override, and its `Main`
abbrev pub table_faults : Table → List (List ℕ) → List Refusal
table_faults table names = override_faults table (methods_of table) ++ main_faults table names

-- of the faults of classes by themselves the first is refused; where there is none, of those of their members; else of
-- those of signatures; else of those of the table as a whole; and where there is none of these either the table is given
abbrev pub check_table : Program → Result Table Refusal
check_table program =
    refused_or (first_of (first_faults program.classes)) (
    refused_or (first_of (second_faults program.classes (parents_in program.classes))) (
    refused_or (first_of (text_faults (headers_in program) program.classes)) (
    refused_or (first_of (table_faults (table_of program) program.names)) (
    Ok (table_of program)))))
