use Rattle.std.proofs.Common.{◌≤◌, length}
use Rattle.exec_machine.specs.Keeping.{GreedilyOn}
use Rattle.exec_machine.proofs.machine.Machine.finish.Given as goal

abbrev pub invariant-loop-step : goal.invariant-loop-step
invariant-loop-step l = GreedilyOn l.fn.self l.self × (l._step ≤ length l.self.schedule)
