use Rattle.std.proofs.Common.{◌-◌, ◌+◌, ◌≤◌, length}
use Rattle.exec_machine.specs.Keeping.{most_events}
use Rattle.exec_run.specs.rounds.Rounds.{RoundsOn}
use Rattle.exec_run.proofs.rounds.rounding.run_rounds.Given as goal

abbrev pub invariant-loop-alloc : goal.invariant-loop-alloc
invariant-loop-alloc g l =
    RoundsOn l.fn.machine l.rounds l.machine × (l.rounds + length l.fn.machine.schedule ≤ length l.machine.schedule)

abbrev pub decreases-loop-alloc : goal.decreases-loop-alloc
decreases-loop-alloc g l = most_events - length l.machine.schedule
