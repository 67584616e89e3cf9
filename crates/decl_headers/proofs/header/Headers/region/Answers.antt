use Rattle.std.proofs.Common.{◌≡◌, None, Some, length, sym, ◌∙◌, arith}
use Rattle.decl_headers.specs.Headers.{parent_of, own_region}
use Rattle.decl_headers.proofs.Chains.{nearest_up}
use Rattle.decl_headers.proofs.header.Headers.region.Goals as goal

pub loop-step-preserved : goal.loop-step-preserved
loop-step-preserved c =
    let self = c.args.self.now in
    let none : own_region self c.loop-step.at c.args.name ≡ None = cc in
    let up : parent_of self c.loop-step.at ≡ Some c.in_ok-at.at = sym c.parent.ensures ∙ c.in_ok-at.was in
    sym (nearest_up (parent_of self) (λ at. own_region self at c.args.name) (length self.rows) c.loop-step._step c.loop-step.at c.in_ok-at.at (omega arith) none up)
    ∙ c.loop-step.invariant
