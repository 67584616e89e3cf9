use Rattle.region_interfere.specs.Kept.{kept, FirstThinned}
use Rattle.region_interfere.proofs.thin.thin_all.Given as goal

abbrev pub invariant-loop-i : goal.invariant-loop-i
invariant-loop-i l = FirstThinned (kept l.kinds) l.branches l.left l.i
