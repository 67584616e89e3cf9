use Rattle.region_paths.proofs.Reading.{own_index_matches_more, own_index_puts_in, renamed_matches}
use Rattle.region_paths.proofs.laws.law_indices.Goals as goal

pub returns : goal.returns
returns c = record { more = own_index_matches_more; puts_in = own_index_puts_in; renamed = renamed_matches }
