use Rattle.std.proofs.Common.{◌∙◌, [], ap, sym}
use Rattle.lang_base.specs.Effects.{added, gathered}
use Rattle.region_effects.specs.Listed.{listed}
use Rattle.region_effects.proofs.Sets.{inserted, gathered-distinct}
use Rattle.region_effects.proofs.set.EffectSet.add_to_many.Goals as goal

pub returns-clause-ok : goal.returns-clause-ok
returns-clause-ok c =
    let e = c.args.e in
    c.in_ok-insert.ensures.keys ∙ inserted c.in_ok-many.many.keys e
    ∙ ap (λ es. added es e)
    (c.in_ok-many.ensures ∙ ap (gathered []) (c.as_slice.ensures ∙ sym c.self.view_is)
    ∙ gathered-distinct (listed c.self.inside.effects) c.self.invariant
    ∙ c.self.view_is)
