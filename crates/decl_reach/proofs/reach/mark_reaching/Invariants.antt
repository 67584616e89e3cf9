use Rattle.std.proofs.Common.{[]}
use Rattle.decl_reach.proofs.Marking.{Marking}
use Rattle.decl_reach.proofs.reach.mark_reaching.Given as goal

abbrev pub invariant-loop-step : goal.invariant-loop-step
invariant-loop-step l = Marking l.fn.marks l.edges l.marks l.pending l._step 0 []
