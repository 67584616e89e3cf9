-- Tasks that have gone further stand for the same.
use Rattle.exec_machine.proofs.Playing.{kept_tasks, plays_with}
use Rattle.exec_machine.proofs.machine.Machine.prepare.Goals as goal

pub prepare-requires-clause-stand : goal.prepare-requires-clause-stand
prepare-requires-clause-stand g c = λ κs lives.
    kept_tasks c.self.inside.code c.self.inside.limits c.self.inside.argument c.self.inside.run c.self.invariant

pub invariant_of-self : goal.invariant_of-self
invariant_of-self g c =
    plays_with c.self.inside.code c.self.inside.limits c.self.inside.argument c.self.inside.run c.prepare.new.self c.self.invariant c.prepare.ensures.stand
