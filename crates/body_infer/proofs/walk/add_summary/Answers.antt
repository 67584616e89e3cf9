use Rattle.std.proofs.Common.{◌∙◌, ◌++◌, ap, sym, inl, inr, ⊎_elim}
use Rattle.std.proofs.lemmas.List.{append-nil}
use Rattle.lang_typed.specs.Effects.{summary_with}
use Rattle.body_infer.specs.Walked.{all_done}
use Rattle.body_infer.proofs.Reading.{nothing_left}
use Rattle.body_infer.proofs.walk.add_summary.Goals as goal

pub returns : goal.returns
returns c =
    let at = c.loop-item in
    let none = nothing_left at.item-iterator.b.rest.now at.item-iterator.a.rest.now (⊎_elim (λ h. inl h.1.0) (λ h. inr h.1.0) c.in-None.ensures.steps) in
    let whole = ap (λ es. all_done at.out ++ summary_with c.args.args.now es) none ∙ append-nil (all_done at.out) in
    sym whole ∙ at.invariant
