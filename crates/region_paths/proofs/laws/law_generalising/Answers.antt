use Rattle.region_paths.proofs.Putting.{general_matches_more, general_matches_no_more, general_forgets, included_in_general}
use Rattle.region_paths.proofs.laws.law_generalising.Goals as goal

pub returns : goal.returns
returns c = record { more = general_matches_more; no_more = general_matches_no_more; forgets = general_forgets; included = included_in_general }
