use Rattle.exec_progress.proofs.Moments.{code_progresses}
use Rattle.exec_progress.proofs.laws.law_code_progress.Goals as goal

pub returns : goal.returns
returns c = record { goes = code_progresses }
