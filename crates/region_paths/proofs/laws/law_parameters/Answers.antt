use Rattle.region_paths.proofs.Reading.{parameter_matches_itself, own_parameters_put_in}
use Rattle.region_paths.proofs.laws.law_parameters.Goals as goal

pub returns : goal.returns
returns c = record { matches = parameter_matches_itself; own = own_parameters_put_in }
