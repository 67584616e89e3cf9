use Rattle.std.proofs.Common.{inl, inr, ⊎_elim}
use Rattle.body_check.specs.Methods.{formals_declared}
use Rattle.body_check.proofs.Methodic.{formals_end}
use Rattle.body_check.proofs.bodies.declare_formals.Goals as goal

pub returns-clause-whole : goal.returns-clause-whole
returns-clause-whole c =
    formals_end c.loop-formal.env c.loop-formal.formal-iterator.a.rest.now c.loop-formal.formal-iterator.b.rest.now
    (formals_declared c.args.env.now c.args.formals.now c.args.types.now) c.loop-formal.invariant.rest
    (⊎_elim (λ h. inl h.1.0) (λ h. inr h.1.0) c.in-None.ensures.steps)
