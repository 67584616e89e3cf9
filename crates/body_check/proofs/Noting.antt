-- Faults that were noted.
use Rattle.std.proofs.Common.{◌≡◌, ◌∙◌, Some, refl, sym}
use Rattle.lang_base.specs.declared.place.Place.{Place}
use Rattle.lang_base.specs.declared.refusal.Kind.{Kind}
use Rattle.lang_base.specs.declared.refusal.Refusal.{Refusal}
use Rattle.decl_headers.specs.declared.faults.Faults.{Faults}
use Rattle.decl_headers.specs.Faults.{noted, reported, reported_of}
use Rattle.body_check.specs.declared.node.Node.{Node}
use Rattle.body_check.specs.Noting.{fault_of, refusal_with, with_fault}

-- one of the faults is reported where one was noted
pub noted_reported : (faults : Faults) (fault : Refusal) → reported (noted faults fault) ≡ Some (reported_of faults.order (reported faults) fault)
unfolding noted
noted_reported faults fault = refl

pub the_reported : (node : Node) (reason : Kind) (place : Place) (q : Refusal) → fault_of (with_fault node reason place) ≡ Some q → refusal_with node reason place ≡ q
the_reported node reason place q is = let same : Some (refusal_with node reason place) ≡ Some q = sym (noted_reported node.faults (record { kind = reason; place = place })) ∙ is in cc
