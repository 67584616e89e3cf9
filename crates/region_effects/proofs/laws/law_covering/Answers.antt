use Rattle.region_effects.proofs.Covered.{covers-refl, covers-trans, set_covers-refl, set_covers-trans}
use Rattle.region_effects.proofs.laws.law_covering.Goals as goal

pub returns : goal.returns
returns c = record { reflexive = covers-refl; transitive = covers-trans; set_reflexive = set_covers-refl; set_transitive = set_covers-trans }
