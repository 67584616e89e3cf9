use Rattle.std.proofs.Common.{◌≡◌, drop, []}
use Rattle.lang_base.specs.Effects.{gathered}
use Rattle.region_effects.proofs.set.hashed.Given as goal

abbrev pub invariant-loop-e : goal.invariant-loop-e
invariant-loop-e l = gathered l.set.keys (drop l.e-index l.effects) ≡ gathered [] l.effects
