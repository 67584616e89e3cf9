use Rattle.exec_run.specs.history.Replaying.{HasMade}
use Rattle.exec_run.proofs.history.replaying.follow.Given as goal

abbrev pub invariant-loop-at : goal.invariant-loop-at
invariant-loop-at l = HasMade l.fn.machine.code l.fn.machine.limits l.fn.machine.argument l.schedule l.at l.machine
