use Rattle.std.proofs.Common.{◌≡◌, drop}
use Rattle.lang_base.specs.Effects.{set_covers}
use Rattle.region_effects.proofs.set.EffectSet.set_covers.Given as goal

abbrev pub invariant-loop-f : goal.invariant-loop-f
invariant-loop-f l = set_covers l.self (drop l.f-index l.f-items) ≡ set_covers l.self l.f-items
