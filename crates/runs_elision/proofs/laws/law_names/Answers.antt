use Rattle.runs_elision.proofs.Known.{names_are_known}
use Rattle.runs_elision.proofs.laws.law_names.Goals as goal

pub returns : goal.returns
returns c = record { known = names_are_known }
