-- What the checker has accepted: a class table without faults, and bodies that pass.
use Rattle.std.specs.Prelude.{◌≡◌, ◌≤◌, List, length, Ok}
use Rattle.decl_headers.specs.Second.{AreCounted}
use Rattle.syntax_tree.specs.declared.class.Program.{Program}
use Rattle.decl_table.specs.declared.table.Table.{Table}
use Rattle.syntax_tree.specs.Size.{program_size}
use Rattle.decl_classes.specs.Build.{check_table}
use Rattle.body_assembly.specs.Assembled.{PlainBody}
use Rattle.body_check.specs.Methods.{BodiesChecking}
use Rattle.decl_laws.specs.Rows.{HasRows}

-- the program is given this table, and all bodies pass, of which these were made
pub record IsAccepted (program : Program) (table : Table) (bodies : List PlainBody) : Type 0 where
  pub rows : HasRows program table
  pub checked : BodiesChecking program table (Ok bodies)

-- a program of no more nodes than a number counts has rows, where it is given a table
abbrev pub SmallHasRows : Type 0
SmallHasRows =
    (program : Program) (table : Table) → AreCounted (length program.names) program.classes → check_table program ≡ Ok table → program_size program ≤ 4294967295 → HasRows program table
