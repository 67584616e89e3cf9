use Rattle.std.proofs.Common.{◌≡◌, drop}
use Rattle.decl_table.specs.RowNumbers.{with_all_rows}
use Rattle.decl_table.proofs.row_numbers.number_own.Given as goal

abbrev pub invariant-loop-method : goal.invariant-loop-method
invariant-loop-method l =
    with_all_rows l.overrides (record { next = l.next; rows = l.rows }) (drop l.method-index l.own)
    ≡ with_all_rows l.overrides (record { next = l.first; rows = l.initial.rows }) l.own
