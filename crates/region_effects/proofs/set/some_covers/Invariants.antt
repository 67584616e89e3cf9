use Rattle.std.proofs.Common.{◌≡◌, drop}
use Rattle.lang_base.specs.Effects.{some_covers}
use Rattle.region_effects.proofs.set.some_covers.Given as goal

abbrev pub invariant-loop-e : goal.invariant-loop-e
invariant-loop-e l = some_covers (drop l.e-index l.effects) l.f ≡ some_covers l.effects l.f
