use Rattle.region_interfere.proofs.Ends.{atomic-within}
use Rattle.region_interfere.proofs.Covered.{covered_clashes_not}
use Rattle.region_interfere.proofs.laws.law_clashes.Goals as goal

pub returns : goal.returns
returns c = record { within = atomic-within; covered = covered_clashes_not }
