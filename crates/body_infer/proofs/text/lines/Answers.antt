use Rattle.std.proofs.Common.{◌∙◌, ◌++◌, ap, sym, inl, inr, ⊎_elim}
use Rattle.std.proofs.lemmas.List.{append-nil}
use Rattle.lang_typed.specs.Names.{names_of}
use Rattle.body_infer.proofs.Telling.{no_lines}
use Rattle.body_infer.proofs.text.lines.Goals as goal

pub returns : goal.returns
returns c =
    let at = c.loop-member in
    let none =
    no_lines (names_of c.args.program.now) at.member-iterator.b.rest.now at.member-iterator.a.rest.now (⊎_elim (λ h. inl h.1.0) (λ h. inr h.1.0) c.in-None.ensures.steps) in
    sym (ap (λ text. at.out ++ text) none ∙ append-nil at.out) ∙ at.invariant
