use Rattle.runs_theorem.proofs.Inside.{machines_elide_inside}
use Rattle.runs_theorem.proofs.laws.law_inside.Goals as goal

pub returns : goal.returns
returns c = record {
  runs = c.law_reordered.ensures;
  machines = machines_elide_inside c.law_simulation.ensures.records c.law_reordered.ensures c.law_arranged.ensures;
}
