use Rattle.std.proofs.Common.{◌≤◌}
use Rattle.exec_run.specs.desk.Bursts.{GoesOnBy}
use Rattle.exec_run.proofs.desk.burst.make_burst.Given as goal

abbrev pub invariant-loop-events : goal.invariant-loop-events
invariant-loop-events l = (1 ≤ l.events) × GoesOnBy l.fn.machine l.task l.events l.machine
