use Rattle.std.proofs.Common.{◌∙◌, sym}
use Rattle.region_effects.proofs.Covered.{covers-refl}
use Rattle.region_effects.proofs.Sets.{has-covers}
use Rattle.region_effects.proofs.set.EffectSet.covers_beside.Goals as goal

pub returns-then-has : goal.returns-then-has
returns-then-has c = λ _. has-covers c.args.self.now c.args.f.now c.args.f.now (sym c.has.ensures ∙ c.if-has.true) (covers-refl c.args.f.now)

pub returns-then-has-2 : goal.returns-then-has-2
returns-then-has-2 c = λ _. has-covers c.args.self.now _ c.args.f.now (sym c.has-then-covers.ensures ∙ c.if-has-2.true) (sym c.covers.ensures ∙ c.if-covers.true)
