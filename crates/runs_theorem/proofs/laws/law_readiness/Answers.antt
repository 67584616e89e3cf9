use Rattle.runs_theorem.proofs.Readiness.{machines_are_ready}
use Rattle.runs_theorem.proofs.laws.law_readiness.Goals as goal

pub returns : goal.returns
returns c = machines_are_ready c.law_simulation.ensures.records c.law_lively.ensures.all_ready c.law_lively.ensures.no_others
