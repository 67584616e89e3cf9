-- The world is the same.
use Rattle.std.proofs.Common.{sym, subst}
use Rattle.exec_world.specs.declared.world.World.{World}
use Rattle.exec_machine.specs.Keeping.{Plays}
use Rattle.exec_machine.proofs.machine.Machine.next_ready.Goals as goal

pub invariant_of-self : goal.invariant_of-self
invariant_of-self c =
    subst (λ (w : World). Plays c.self.inside.code c.self.inside.limits c.self.inside.argument
    (record { world = w; slots = c.self.inside.run.slots; schedule = c.self.inside.run.schedule; outcome = c.self.inside.run.outcome }))
    (sym c.next_ready.ensures.same) c.self.invariant
