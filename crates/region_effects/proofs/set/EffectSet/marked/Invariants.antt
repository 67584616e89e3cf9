use Rattle.std.proofs.Common.{◌≡◌, true, drop, map}
use Rattle.lang_base.specs.Effects.{gathered, with_mark, all_marked}
use Rattle.region_effects.proofs.set.EffectSet.marked.Given as goal

abbrev pub invariant-loop-e : goal.invariant-loop-e
invariant-loop-e l = gathered l.set (map (with_mark true) (drop l.e-index l.e-items)) ≡ all_marked true l.e-items
