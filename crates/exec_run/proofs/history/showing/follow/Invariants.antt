use Rattle.exec_run.specs.history.Replaying.{HasMade}
use Rattle.exec_run.proofs.history.showing.follow.Given as goal

abbrev pub invariant-loop-at : goal.invariant-loop-at
invariant-loop-at l = HasMade l.fn.machine.played.code l.fn.machine.played.limits l.fn.machine.played.argument l.schedule l.at l.at_work.played
