-- Faults noted one after the other.
use Rattle.std.proofs.Common.{◌≡◌, Bool, true, false, List, [], ◌∷◌, ◌++◌, refl, ap}
use Rattle.lang_base.specs.declared.place.Place.{Place}
use Rattle.lang_base.specs.declared.refusal.Kind.{Kind}
use Rattle.lang_base.specs.declared.refusal.Refusal.{Refusal}
use Rattle.decl_headers.specs.declared.faults.Faults.{Faults}
use Rattle.decl_headers.specs.Faults.{noted, all_noted}
use Rattle.decl_headers.specs.Passes.{fault, fault_if}

pub noted_append : (faults : Faults) (found more : List Refusal) → all_noted faults (found ++ more) ≡ all_noted (all_noted faults found) more
noted_append faults [] more = refl
noted_append faults (x ∷ found) more = noted_append (noted faults x) found more

-- a fault that is there is noted before the others
pub noted_if : (faults : Faults) (b : Bool) (reason : Kind) (place : Place) (more : List Refusal) → b ≡ true → all_noted faults (fault_if b reason place ++ more) ≡ all_noted (noted faults (fault reason place)) more
noted_if faults b reason place more is = ap (λ z. all_noted faults (fault_if z reason place ++ more)) is

-- one that isn't there is not
pub none_if : (faults : Faults) (b : Bool) (reason : Kind) (place : Place) (more : List Refusal) → b ≡ false → all_noted faults (fault_if b reason place ++ more) ≡ all_noted faults more
none_if faults b reason place more is = ap (λ z. all_noted faults (fault_if z reason place ++ more)) is

pub ruleset noting = (noted_append, noted_if, none_if)
