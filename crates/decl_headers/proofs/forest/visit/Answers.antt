use Rattle.decl_headers.proofs.Ways.{step_taken}
use Rattle.decl_headers.proofs.forest.visit.Goals as goal

pub loop-step-preserved : goal.loop-step-preserved
loop-step-preserved c = λ n ends.
    step_taken c.args.lists.now n c.in-Some.step c.loop-step.steps.items c.push-in-Some.new.self.items c.loop-step.pending c.pop.new.self c.push_after.new.pending _ c.in-Some.ensures c.in_ok-push-2.ensures.items c.in_ok-push_after.ensures (c.loop-step.invariant n ends)
