use Rattle.runs_theorem.proofs.Joined.{machines_come_out}
use Rattle.runs_theorem.proofs.laws.law_guarantee.Goals as goal

pub returns : goal.returns
returns c = machines_come_out c.law_simulation.ensures.records c.law_well_typed.ensures.schedules
