use Rattle.region_paths.proofs.Envs.{no_common, stays_apart}
use Rattle.region_paths.proofs.laws.law_disjoint.Goals as goal

pub returns : goal.returns
returns c = record { no_common = no_common; patterns = stays_apart }
