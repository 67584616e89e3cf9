use Rattle.std.proofs.Common.{◌≡◌, Some, length, sym, ◌∙◌, arith}
use Rattle.decl_headers.specs.Headers.{parent_of}
use Rattle.decl_headers.proofs.Chains.{below_up}
use Rattle.decl_headers.proofs.header.Headers.is_below.Goals as goal

pub loop-step-preserved : goal.loop-step-preserved
loop-step-preserved c =
    let self = c.args.self.now in
    let up : parent_of self c.loop-step.at ≡ Some c.in-Some.above = sym c.parent.ensures ∙ c.in-Some.is in
    sym (below_up (parent_of self) c.args.other (length self.rows) c.loop-step._step c.loop-step.at c.in-Some.above (omega arith) c.if-at-other.false up)
    ∙ c.loop-step.invariant
