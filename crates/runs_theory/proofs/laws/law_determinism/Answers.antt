use Rattle.runs_theory.proofs.runs.Finishing.{schedules_agree}
use Rattle.runs_theory.proofs.laws.law_determinism.Goals as goal

pub returns : goal.returns
returns c = record { schedules = λ P D free L ks js o q f g. schedules_agree P D free L ks js o q f g }
