use Rattle.std.proofs.Common.{◌≡◌, drop}
use Rattle.lang_base.specs.Effects.{has_effect}
use Rattle.region_effects.proofs.set.among.Given as goal

abbrev pub invariant-loop-f : goal.invariant-loop-f
invariant-loop-f l = has_effect (drop l.f-index l.effects) l.e ≡ has_effect l.effects l.e
