use Rattle.std.proofs.Common.{◌∙◌, ◌+◌, ◌∷◌, drop, ap, sym}
use Rattle.std.proofs.lemmas.List.{drop_more}
use Rattle.lang_base.specs.Effects.{added, gathered}
use Rattle.region_effects.proofs.Sets.{inserted}
use Rattle.region_effects.proofs.set.hashed.Goals as goal

pub loop-e-preserved : goal.loop-e-preserved
loop-e-preserved c =
    let all = c.args.effects.now in
    let keys = c.loop-e.set.keys in
    let i = c.loop-e.e-index in
    let e = c.e-item.result in
    ap (λ ks. gathered ks (drop (i + 1) all)) (c.in_ok-insert.ensures.keys ∙ inserted keys c.in_ok-copy.field-0 ∙ ap (λ d. added keys d) c.in_ok-copy.ensures)
    ∙ ap (λ rest. gathered keys rest) (ap (λ y. y ∷ drop (i + 1) all) c.e-item.is ∙ sym (drop_more all i e c.loop-e-test.true))
    ∙ c.loop-e.invariant
