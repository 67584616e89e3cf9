use Rattle.std.proofs.Common.{◌≡◌, ◌∙◌, ◌+◌, ◌-◌, suc, length, ap, arith}
use Rattle.lang_typed.specs.Plain.{plain_program, plain_parent}
use Rattle.body_infer.specs.Doing.{seen_within}
use Rattle.body_infer.proofs.Reading.{seen_further}
use Rattle.body_infer.proofs.classes.seen_as.Goals as goal

pub loop-step-preserved : goal.loop-step-preserved
loop-step-preserved c =
    let P = plain_program c.args.program.now in
    let p = plain_parent c.in-Some.parent.now in
    let n = length c.args.program.now.classes - c.loop-step._step in
    let m = length c.args.program.now.classes - (c.loop-step._step + 1) in
    let less : n ≡ suc m = omega (arith, c.loop-step-test.true, c.len-step-end.ensures) in
    ap (λ seen. seen_within m P p.class seen c.args.above) c.in_ok-seen.ensures
    ∙ seen_further P n m c.loop-step.at c.args.above c.loop-step.seen p less c.in-Some.ensures ∙ c.loop-step.invariant
