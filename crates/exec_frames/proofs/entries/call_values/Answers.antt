use Rattle.std.proofs.Common.{arith, sym, ap, ◌∙◌, ◌∷◌, ◌++◌, [], map}
use Rattle.std.proofs.lemmas.List.{map-append}
use Rattle.exec_frames.specs.Names.{plain_value}
use Rattle.exec_frames.proofs.Dropped.{none_yet, one_more, all_down}
use Rattle.exec_frames.proofs.entries.call_values.Goals as goal

pub loop-at-init : goal.loop-at-init
loop-at-init c =
    ap (map plain_value) c.in_ok-push.ensures.ok ∙ ap (λ l. map plain_value (l ++ c.args.receiver ∷ [])) c.new-values.ensures
    ∙ ap (λ l. plain_value c.args.receiver ∷ l) (sym (none_yet plain_value c.min-many.result c.args.stack.now))

pub loop-at-preserved : goal.loop-at-preserved
loop-at-preserved c =
    ap (map plain_value) c.in_ok-push-2.ensures.ok ∙ map-append plain_value c.loop-at.values (c.in-Some.value.now ∷ [])
    ∙ ap (λ l. l ++ plain_value c.in-Some.value.now ∷ []) c.loop-at.invariant
    ∙ ap (λ l. plain_value c.args.receiver ∷ l) (sym (one_more plain_value c.loop-at.at c.min-many.result c.args.stack.now c.in-Some.value.now (omega arith) (sym c.in-Some.ensures)))

pub returns : goal.returns
returns c =
    c.loop-at.invariant
    ∙ ap (λ l. plain_value c.args.receiver ∷ l) (all_down plain_value c.min-many.result c.min-many.result c.args.actuals c.loop-at.at c.args.stack.now
    (omega arith) (λ h. omega (arith, h)) (omega arith) (omega arith))
