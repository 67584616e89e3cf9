use Rattle.std.proofs.Common.{◌≡◌, drop}
use Rattle.decl_table.specs.RowNumbers.{all_counted, no_counts}
use Rattle.decl_table.proofs.row_numbers.on_way.Given as goal

abbrev pub invariant-loop-step : goal.invariant-loop-step
invariant-loop-step l =
    all_counted l.headers l.lists l.overrides (record { counts = l.counts.items; rows = l.rows.items }) (drop l.step-index l.steps)
    ≡ all_counted l.headers l.lists l.overrides (no_counts l.headers l.methods) l.steps
