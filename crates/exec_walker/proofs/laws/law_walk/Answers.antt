use Rattle.exec_walker.proofs.Theorems.{ends, stays_over}
use Rattle.exec_walker.proofs.laws.law_walk.Goals as goal

pub returns-clause-ends : goal.returns-clause-ends
returns-clause-ends c = ends

pub returns-clause-limited : goal.returns-clause-limited
returns-clause-limited c = stays_over
