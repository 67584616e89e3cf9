use Rattle.std.proofs.Common.{◌≡◌, map, ap, ◌∙◌, arith}
use Rattle.std.specs.Option.{option_and_then}
use Rattle.decl_headers.specs.Rounds.{entry_of}
use Rattle.decl_headers.proofs.Cycles.{twice_up}
use Rattle.decl_headers.proofs.rounds.far_up.Goals as goal

pub loop-steps-preserved : goal.loop-steps-preserved
loop-steps-preserved c =
    let jumps = c.loop-steps.jumps in
    let made : c.in_ok-jumps-2.jumps ≡ map (λ jump. option_and_then (entry_of jumps) jump) jumps =
    c.in_ok-jumps-2.ensures ∙ ap (λ xs. map (λ jump. option_and_then (entry_of xs) jump) xs) c.as_slice.ensures in
    record {
      positive = omega arith;
      above = λ at. ap (λ xs. entry_of xs at) made ∙ twice_up c.args.parents.now jumps c.loop-steps.steps c.loop-steps.invariant.above at;
    }
