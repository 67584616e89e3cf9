use Rattle.runs_elision.proofs.Scheduled.{elision_is_scheduled}
use Rattle.runs_elision.proofs.Theorems.{elision_is_legal}
use Rattle.runs_elision.proofs.laws.law_elision.Goals as goal

pub returns : goal.returns
returns c = record { legal = elision_is_legal; scheduled = elision_is_scheduled }
