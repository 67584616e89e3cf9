use Rattle.region_paths.proofs.Concrete.{matches_concrete, within_matches}
use Rattle.region_paths.proofs.Envs.{matches-within}
use Rattle.region_paths.proofs.laws.law_regions_as_paths.Goals as goal

pub returns : goal.returns
returns c = λ given env v a r.
    (λ m. (matches_concrete given env v a r m, matches-within given env v a r m), λ h. within_matches given env v a r h.0 h.1)
