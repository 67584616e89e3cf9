use Rattle.runs_theorem.proofs.Reducing.{machines_are_reduced}
use Rattle.runs_theorem.proofs.laws.law_reduced.Goals as goal

pub returns : goal.returns
returns c = machines_are_reduced c.law_simulation.ensures.records c.law_sound.ensures c.law_reduction.ensures
