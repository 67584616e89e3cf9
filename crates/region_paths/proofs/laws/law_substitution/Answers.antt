use Rattle.region_paths.proofs.Putting.{substitution_matches, substitution_puts_in}
use Rattle.region_paths.proofs.Reading.{known_argument_matches}
use Rattle.region_paths.proofs.laws.law_substitution.Goals as goal

pub returns : goal.returns
returns c = record { matches = substitution_matches; puts_in = substitution_puts_in; known = known_argument_matches }
