use Rattle.code_scheme.proofs.Samples.{samples_stand}
use Rattle.code_scheme.proofs.laws.law_samples.Goals as goal

pub returns : goal.returns
returns c = record { samples = samples_stand }
