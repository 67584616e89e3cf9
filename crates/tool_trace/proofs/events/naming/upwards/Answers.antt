use Rattle.std.proofs.Common.{◌≡◌, ◌∙◌, ℕ, suc, ◌-◌, ◌+◌, ◌++◌, ◌∷◌, [], length, sym, ap, arith, append_assoc}
use Rattle.lang_typed.specs.Plain.{plain_program}
use Rattle.lang_typed.specs.Scope.{parent_of}
use Rattle.tool_trace.specs.events.Names.{upwards}
use Rattle.tool_trace.proofs.events.Along.{one_up, none_up}
use Rattle.tool_trace.proofs.events.naming.upwards.Goals as goal

pub loop-step-preserved : goal.loop-step-preserved
loop-step-preserved c =
    let P = plain_program c.args.program.now in
    let n : ℕ = length c.args.program.now.classes - (c.loop-step._step + 1) in
    let more : length c.args.program.now.classes - c.loop-step._step ≡ suc n = omega (arith, c.loop-step-test.true, c.len-step-end.ensures) in
    ap (λ all. all ++ upwards P n c.in-Some.above) c.in_ok-push.ensures.ok
    ∙ append_assoc c.loop-step.all (c.loop-step.at ∷ []) (upwards P n c.in-Some.above)
    ∙ ap (λ rest. c.loop-step.all ++ c.loop-step.at ∷ rest) (sym (one_up P n (parent_of P c.loop-step.at) c.in-Some.above c.in-Some.ensures))
    ∙ ap (λ k. c.loop-step.all ++ upwards P k c.loop-step.at) (sym more) ∙ c.loop-step.invariant

pub returns-in_default : goal.returns-in_default
returns-in_default c =
    let P = plain_program c.args.program.now in
    let n : ℕ = length c.args.program.now.classes - (c.loop-step._step + 1) in
    let more : length c.args.program.now.classes - c.loop-step._step ≡ suc n = omega (arith, c.loop-step-test.true, c.len-step-end.ensures) in
    c.in_ok-push.ensures.ok
    ∙ ap (λ rest. c.loop-step.all ++ c.loop-step.at ∷ rest) (sym (none_up P n (parent_of P c.loop-step.at) c.in_default.ensures))
    ∙ ap (λ k. c.loop-step.all ++ upwards P k c.loop-step.at) (sym more) ∙ c.loop-step.invariant
