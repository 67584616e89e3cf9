use Rattle.std.proofs.Common.{◌≡◌, ◌∙◌, ℕ, suc, ◌+◌, ◌-◌, ◌++◌, ◌∷◌, [], length, ap, sym, arith, append_assoc}
use Rattle.lang_typed.specs.Inherited.{superclasses}
use Rattle.lang_typed.proofs.FirstValues.{one_above}
use Rattle.lang_typed.proofs.inherited.superclasses.Goals as goal

pub loop-step-preserved : goal.loop-step-preserved
loop-step-preserved c =
    let classes = c.args.program.now.classes in
    let n : ℕ = length classes - (c.loop-step._step + 1) in
    let more : length classes - c.loop-step._step ≡ suc n = omega (arith, c.loop-step-test.true, c.len-step-end.ensures) in
    let all = c.loop-step.all in
    let number = c.in-Some.parent.class.number in
    ap (λ xs. xs ++ superclasses classes n c.in-Some-get.above.now.parent) c.in_ok-push.ensures.ok
    ∙ append_assoc all (number ∷ []) (superclasses classes n c.in-Some-get.above.now.parent)
    ∙ ap (λ l. all ++ l) (sym (one_above classes n c.in-Some.parent c.loop-step.below.now.parent c.in-Some-get.above.now c.in-Some.is (sym c.in-Some-get.ensures.value)))
    ∙ ap (λ k. all ++ superclasses classes k c.loop-step.below.now.parent) (sym more) ∙ c.loop-step.invariant
