use Rattle.region_paths.proofs.Envs.{apart_swap}
use Rattle.region_paths.proofs.Paths.{apart-within}
use Rattle.region_paths.proofs.laws.law_disjoint_included.Goals as goal

pub returns : goal.returns
returns c = record { included = apart-within; symmetric = apart_swap }
