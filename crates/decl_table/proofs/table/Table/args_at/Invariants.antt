use Rattle.std.proofs.Common.{◌≡◌, ◌-◌, ◌+◌, length}
use Rattle.decl_table.specs.Table.{args_above, args_at}
use Rattle.decl_table.proofs.table.Table.args_at.Given as goal

abbrev pub invariant-loop-step : goal.invariant-loop-step
invariant-loop-step l =
    args_above l.self (length l.self.headers.rows + 1 - l._step) l.at l.current l.owner ≡ args_at l.self l.class l.args l.owner
