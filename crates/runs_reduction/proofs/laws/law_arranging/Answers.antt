use Rattle.runs_reduction.proofs.Theorems.{arranging}
use Rattle.runs_reduction.proofs.laws.law_arranging.Goals as goal

pub returns : goal.returns
returns c = arranging
