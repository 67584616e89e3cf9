use Rattle.region_effects.proofs.Covered.{covered_quiet, quiet_no_common, interferes_swap}
use Rattle.region_effects.proofs.laws.law_interference.Goals as goal

pub returns : goal.returns
returns c = record { covered = covered_quiet; no_common = quiet_no_common; symmetric = interferes_swap }
