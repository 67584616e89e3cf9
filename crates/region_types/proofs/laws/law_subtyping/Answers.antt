use Rattle.region_types.proofs.Order.{subtype-refl, subtype-trans, subtype-parent}
use Rattle.region_types.proofs.laws.law_subtyping.Goals as goal

pub returns : goal.returns
returns c = record { reflexive = subtype-refl; transitive = subtype-trans; superclass = subtype-parent }
