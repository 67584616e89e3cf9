use Rattle.body_infer.proofs.Places.{finds_off}
use Rattle.body_infer.proofs.scope.Scope.forget_last.Goals as goal

pub invariant_of-self-2 : goal.invariant_of-self-2
invariant_of-self-2 c =
    finds_off c.pop.new.self c.self.inside.entries c.in-Some.last c.self.inside.places c.insert.new.self c.insert.result
    c.in-Some.ensures c.self.invariant c.insert.ensures.updates c.insert.ensures.absent
