use Rattle.region_paths.proofs.Envs.{constraint_carried}
use Rattle.region_paths.proofs.laws.law_constraints.Goals as goal

pub returns : goal.returns
returns c = constraint_carried
