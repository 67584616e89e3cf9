-- What a machine keeps is the replay of its schedule.
use Rattle.std.proofs.Common.{subst}
use Rattle.exec_machine.specs.Keeping.{IsReplayed}
use Rattle.exec_machine.proofs.machine.Machine.schedule.Goals as goal

pub returns-clause-replayed : goal.returns-clause-replayed
returns-clause-replayed c =
    subst IsReplayed c.self.view_is (record {
      moment = c.self.invariant.moment;
      leads = c.self.invariant.leads;
      world = c.self.invariant.keeps.world;
      outcome = c.self.invariant.keeps.outcome;
    })
