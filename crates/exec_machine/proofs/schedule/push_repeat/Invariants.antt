use Rattle.std.proofs.Common.{◌≡◌, ◌++◌, replicate}
use Rattle.exec_machine.proofs.schedule.push_repeat.Given as goal

abbrev pub invariant-loop-copy : goal.invariant-loop-copy
invariant-loop-copy l = l.tasks ≡ l.fn.tasks ++ replicate l._copy l.repeat.task
