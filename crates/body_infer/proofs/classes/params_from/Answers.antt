use Rattle.std.proofs.Common.{◌∙◌, ◌++◌, ◌∷◌, [], ap}
use Rattle.lang_base.specs.declared.region.Head.TheVariants.{Param}
use Rattle.body_infer.proofs.Reading.{params_more}
use Rattle.body_infer.proofs.classes.params_from.Goals as goal

pub loop-at-preserved : goal.loop-at-preserved
loop-at-preserved c =
    params_more c.args.first c.args.count c.loop-at.at c.loop-at.all c.push.new.self c.loop-at-test.true
    (c.in_ok-push.ensures.ok ∙ ap (λ es. c.loop-at.all ++ (record { head = Param c.in_ok-number_after.field-0; elems = es }) ∷ []) c.new.ensures
    ∙ ap (λ p. c.loop-at.all ++ (record { head = Param p; elems = [] }) ∷ []) c.in_ok-number_after.ensures)
    ∙ c.loop-at.invariant
