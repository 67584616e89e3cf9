use Rattle.std.proofs.Common.{◌-◌}
use Rattle.lang_typed.specs.Plain.{plain_program}
use Rattle.exec_walker.proofs.Starting.{Reached}
use Rattle.exec_walker.proofs.whole.walked.Given as goal

abbrev pub invariant-loop-walker : goal.invariant-loop-walker
invariant-loop-walker l = Reached (plain_program l.program) l.fn.argument l.fn.limits l.walker

abbrev pub decreases-loop-walker : goal.decreases-loop-walker
decreases-loop-walker l = l.walker.store.limit - l.walker.store.steps
