use Rattle.lang_base.specs.Pairs.{NoneBetween}
use Rattle.body_locals.specs.Clash.{Clash}
use Rattle.body_locals.proofs.clashes.clash_after.Given as goal

abbrev pub invariant-loop-j : goal.invariant-loop-j
invariant-loop-j l = NoneBetween Clash l.branches l.fn.i l.j
