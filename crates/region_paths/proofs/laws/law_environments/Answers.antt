use Rattle.region_paths.proofs.Putting.{environments_exist}
use Rattle.region_paths.proofs.Reading.{copies_exist}
use Rattle.region_paths.proofs.laws.law_environments.Goals as goal

pub returns : goal.returns
returns c = record { exist = environments_exist; copies = copies_exist }
