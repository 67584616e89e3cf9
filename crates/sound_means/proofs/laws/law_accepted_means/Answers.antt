use Rattle.sound_means.proofs.Whole.{accepted_means}
use Rattle.sound_means.proofs.laws.law_accepted_means.Goals as goal

pub returns : goal.returns
returns c = record { means = accepted_means }
