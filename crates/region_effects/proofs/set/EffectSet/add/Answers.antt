use Rattle.std.proofs.Common.{◌∙◌, ap, sym, subst}
use Rattle.std.specs.List.{IsDistinct}
use Rattle.lang_base.specs.Effects.{has_effect, added}
use Rattle.region_effects.specs.Listed.{listed, effect_eq}
use Rattle.region_effects.proofs.Sets.{inserted, distinct-push}
use Rattle.region_effects.proofs.set.EffectSet.add.Goals as goal

pub invariant_of-self-then-len-lt-FEW : goal.invariant_of-self-then-len-lt-FEW
invariant_of-self-then-len-lt-FEW c =
    let new = ap (λ es. has_effect es c.args.e) (sym c.as_slice.ensures) ∙ sym c.among.ensures ∙ c.if-among.false in
    subst (IsDistinct effect_eq) (sym c.in_ok-push-in-Few.ensures.ok)
    (distinct-push c.in-Few.effects c.args.e (subst (λ kept. IsDistinct effect_eq (listed kept)) c.in-Few.is c.self.invariant) new)

pub returns-in-Many-clause-ok : goal.returns-in-Many-clause-ok
returns-in-Many-clause-ok c =
    let e = c.args.e in
    c.in_ok-insert-in-Many.ensures.keys ∙ inserted c.in-Many.effects.keys e
    ∙ ap (λ kept. added (listed kept) e) (sym c.in-Many.is)
    ∙ ap (λ es. added es e) c.self.view_is
