use Rattle.std.proofs.Common.{◌≡◌, ◌==◌, ◌&&◌, drop}
use Rattle.std.specs.List.{find}
use Rattle.decl_table.specs.Main.{is_main}
use Rattle.decl_table.specs.Table.{methods_of}
use Rattle.decl_table.proofs.beginning.main_method.Given as goal

abbrev pub invariant-loop-row : goal.invariant-loop-row
invariant-loop-row l =
    find (λ row. (row.owner == l.class) && is_main l.names row) (drop l.row-index l.row-items) ≡ find (λ row. (row.owner == l.class) && is_main l.names row) (methods_of l.table)
