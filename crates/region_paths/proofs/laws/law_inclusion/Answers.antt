use Rattle.region_paths.proofs.Fitting.{matches_more}
use Rattle.region_paths.proofs.Inclusion.{within-refl, within-trans}
use Rattle.region_paths.proofs.laws.law_inclusion.Goals as goal

pub returns : goal.returns
returns c = record { sound = matches_more; reflexive = within-refl; transitive = within-trans }
