use Rattle.runs_reduction.proofs.Theorems.{gathering, still_open}
use Rattle.runs_reduction.proofs.gathered.OneGathered.{one_gathered}
use Rattle.runs_reduction.proofs.laws.law_gathering.Goals as goal

pub returns : goal.returns
returns c = record { gathering = gathering; one = one_gathered; still_open = still_open }
