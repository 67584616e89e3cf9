use Rattle.std.proofs.Common.{◌≤◌, length}
use Rattle.exec_run.specs.Seeding.{SeededOn}
use Rattle.exec_run.proofs.seeding.finish_seeded.Given as goal

abbrev pub invariant-loop-step : goal.invariant-loop-step
invariant-loop-step l = SeededOn l.fn.machine l.fn.seed l.state l.machine × (l._step ≤ length l.machine.schedule)
