use Rattle.region_paths.proofs.Concrete.{matches_concrete}
use Rattle.region_paths.proofs.Putting.{specified_matches_one}
use Rattle.region_paths.proofs.Reading.{matches_by_what_occurs}
use Rattle.region_paths.proofs.laws.law_matching.Goals as goal

pub returns : goal.returns
returns c = record { one = specified_matches_one; concrete = matches_concrete; occurs = matches_by_what_occurs }
