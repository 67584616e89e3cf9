-- The events that a machine has kept are those that its schedule makes.
use Rattle.std.proofs.Common.{subst}
use Rattle.exec_machine.specs.MadeEvents.{PlayedEvents, MakesThese}
use Rattle.exec_machine.proofs.MadeEvents.{makes_these}
use Rattle.exec_machine.proofs.event_machine.EventMachine.into_made.Goals as goal

pub returns-clause-all : goal.returns-clause-all
returns-clause-all c =
    subst (λ (t : PlayedEvents). MakesThese t.played c.self.inside.made) c.self.view_is
    (makes_these c.self.inside.code c.self.inside.limits c.self.inside.argument c.self.inside.run c.self.inside.made c.self.invariant)
