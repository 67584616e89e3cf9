use Rattle.std.proofs.Common.{◌∙◌, ◌++◌, ap, sym, inl, inr, ⊎_elim}
use Rattle.std.proofs.lemmas.List.{append-nil}
use Rattle.body_infer.proofs.Reading.{nothing_left}
use Rattle.body_infer.proofs.walk.summary_kept.Goals as goal

pub returns : goal.returns
returns c =
    let at = c.loop-item in
    let none = nothing_left at.item-iterator.b.rest.now at.item-iterator.a.rest.now (⊎_elim (λ h. inl h.1.0) (λ h. inr h.1.0) c.in-None.ensures.steps) in
    let whole = ap (λ es. at.all ++ es) none ∙ append-nil at.all in
    sym whole ∙ at.invariant
