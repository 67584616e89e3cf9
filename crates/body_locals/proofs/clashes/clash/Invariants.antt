use Rattle.lang_base.specs.Pairs.{NoneBefore}
use Rattle.body_locals.specs.Clash.{Clash}
use Rattle.body_locals.proofs.clashes.clash.Given as goal

abbrev pub invariant-loop-i : goal.invariant-loop-i
invariant-loop-i l = NoneBefore Clash l.branches l.i
