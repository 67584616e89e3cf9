use Rattle.std.proofs.Common.{◌≡◌, drop}
use Rattle.lang_base.specs.Types.{all_within}
use Rattle.region_types.proofs.subtyping.all_within.Given as goal

abbrev pub invariant-loop-i : goal.invariant-loop-i
invariant-loop-i l = all_within (drop l.i l.inner) (drop l.i l.outer) ≡ all_within l.inner l.outer
