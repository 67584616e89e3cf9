use Rattle.std.proofs.Common.{◌∙◌, ap, sym}
use Rattle.body_infer.specs.Sought.{PlainSought, plain_sought, sought_in}
use Rattle.body_infer.proofs.Seeking.{along_last, along_none, field_found, sought_along}
use Rattle.body_infer.proofs.fields.field_of.Goals as goal

pub loop-at-preserved : goal.loop-at-preserved
loop-at-preserved c =
    let classes = c.args.program.now.classes in
    let before = plain_sought c.loop-at.sought in
    ap (sought_along classes c.pop.new.self) c.in_ok-sought.ensures
    ∙ sym (along_last classes c.pop.new.self c.in-Some.at before)
    ∙ ap (λ l. sought_along classes l before) (sym c.in-Some.ensures) ∙ c.loop-at.invariant

pub returns : goal.returns
returns c =
    let classes = c.args.program.now.classes in
    let after = plain_sought c.loop-at.sought in
    ap (λ (s : PlainSought). s.found)
    (c.in_ok-made.ensures
    ∙ ap (sought_in c.args.row.now) (sym (along_none classes after) ∙ ap (λ l. sought_along classes l after) (sym c.in_default.ensures.0) ∙ c.loop-at.invariant))
    ∙ field_found classes c.args.row.now c.args.slot
