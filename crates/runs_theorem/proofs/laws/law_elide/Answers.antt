use Rattle.runs_theorem.proofs.Greedy.{greedy_machines_elide}
use Rattle.runs_theorem.proofs.laws.law_elide.Goals as goal

pub returns : goal.returns
returns c =
    greedy_machines_elide c.law_simulation.ensures.records c.law_lively.ensures.all_ready c.law_steps.ensures.keeps c.law_greatest.ensures.ended
    c.law_greatest.ensures.over
