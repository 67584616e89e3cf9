use Rattle.std.proofs.Common.{◌∙◌, ap, sym}
use Rattle.lang_base.specs.Effects.{has_effect}
use Rattle.region_effects.specs.Listed.{listed}
use Rattle.region_effects.proofs.Sets.{any-has}
use Rattle.region_effects.proofs.set.EffectSet.has.Goals as goal

pub returns-in-Many : goal.returns-in-Many
returns-in-Many c =
    let e = c.args.e.now in
    c.contains.ensures ∙ any-has c.in-Many.effects.keys e
    ∙ ap (λ kept. has_effect (listed kept) e) (sym c.in-Many.is)
    ∙ ap (λ es. has_effect es e) c.self.view_is
