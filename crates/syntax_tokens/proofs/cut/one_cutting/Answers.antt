use Rattle.syntax_tokens.proofs.OneCutting.{cuts-unique, faults-unique, cuts-faultless}
use Rattle.syntax_tokens.proofs.cut.one_cutting.Goals as goal

pub returns : goal.returns
returns c = record { tokens = cuts-unique; faults = faults-unique; either = cuts-faultless }
