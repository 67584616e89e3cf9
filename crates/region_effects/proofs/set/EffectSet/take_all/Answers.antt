use Rattle.std.proofs.Common.{◌≡◌, ◌∙◌, [], sym, ap, subst}
use Rattle.lang_base.specs.Effects.{gathered}
use Rattle.region_effects.specs.Listed.{listed}
use Rattle.region_effects.proofs.Sets.{gathered-distinct}
use Rattle.region_effects.proofs.set.EffectSet.take_all.Goals as goal

pub returns-then-is_empty : goal.returns-then-is_empty
returns-then-is_empty c =
    let empty : c.args.self.now ≡ [] = c.is_empty.ensures.0 c.if-is_empty.true in
    let whole = subst (λ es. gathered [] es ≡ es) c.other.view_is (gathered-distinct (listed c.other.inside.effects) c.other.invariant) in
    sym (ap (λ es. gathered es c.args.other) empty ∙ whole)
