-- Where no fault is reported, none was found.
use Rattle.std.proofs.Common.{◌≡◌, Bool, true, false, ◌&&◌, ◌||◌, not, List, [], ◌∷◌, ◌++◌, flat_map, Option, Some, None, refl}
use Rattle.std.specs.Option.{option_or}
use Rattle.lang_base.specs.declared.place.Place.{Place}
use Rattle.lang_base.specs.declared.refusal.Kind.{Kind}
use Rattle.lang_base.specs.declared.refusal.Refusal.{Refusal}
use Rattle.decl_headers.specs.declared.faults.Faults.{Faults}
use Rattle.decl_headers.specs.Faults.{noted, all_noted, reported, reported_of}
use Rattle.decl_headers.specs.Passes.{fault_if}
use Rattle.decl_resolve.specs.declared.scope.Site.TheVariants as site
use Rattle.decl_resolve.specs.Telling.{parts_reported}

pub noted_reported : (faults : Faults) (fault : Refusal) → reported (noted faults fault) ≡ Some (reported_of faults.order (reported faults) fault)
unfolding noted
noted_reported faults fault = refl

kept_reported : (faults : Faults) (found : List Refusal) (fault : Refusal) → reported faults ≡ Some fault → (later : Refusal) × (reported (all_noted faults found) ≡ Some later)
kept_reported faults [] fault is = (fault, is)
kept_reported faults (one ∷ found) fault is = kept_reported (noted faults one) found (reported_of faults.order (reported faults) one) (noted_reported faults one)

pub none_reported : (faults : Faults) (found : List Refusal) → reported (all_noted faults found) ≡ None → found ≡ []
none_reported faults [] h = refl
none_reported faults (one ∷ found) h =
    let w = kept_reported (noted faults one) found (reported_of faults.order (reported faults) one) (noted_reported faults one) in
    let e = w.1 in absurd (cc)

pub append_none : {A : Type 0} (xs ys : List A) → xs ++ ys ≡ [] → (xs ≡ []) × (ys ≡ [])
append_none [] ys h = (refl, h)
append_none (x ∷ xs) ys h = cc

pub fault_none : (b : Bool) (reason : Kind) (place : Place) → fault_if b reason place ≡ [] → b ≡ false
fault_none true reason place h = cc
fault_none false reason place h = refl

-- no part has a fault
abbrev pub NoFaults : List (List Refusal) → Type 0
NoFaults [] = Unit {0}
NoFaults (part ∷ parts) = (part ≡ []) × NoFaults parts

or_none : (o p : Option Refusal) → option_or o p ≡ None → (o ≡ None) × (p ≡ None)
or_none None p h = (refl, h)
or_none (Some x) p h = cc

pub parts_free : (faults : Faults) (parts : List (List Refusal)) → parts_reported site.Body faults parts ≡ None → NoFaults parts
parts_free faults [] h = tt
parts_free faults (part ∷ parts) h =
    let both = or_none (reported (all_noted faults part)) (parts_reported site.Body (all_noted faults part) parts) h in
    (none_reported faults part both.0, parts_free (all_noted faults part) parts both.1)

pub joined_free : (parts : List (List Refusal)) → flat_map (λ part. part) parts ≡ [] → NoFaults parts
joined_free [] h = tt
joined_free (part ∷ parts) h = let both = append_none part (flat_map (λ part. part) parts) h in (both.0, joined_free parts both.1)

pub free_split : (parts more : List (List Refusal)) → NoFaults (parts ++ more) → NoFaults parts × NoFaults more
free_split [] more h = (tt, h)
free_split (part ∷ parts) more h = let w = free_split parts more h.1 in ((h.0, w.0), w.1)

pub or_false : (a b : Bool) → (a || b) ≡ false → (a ≡ false) × (b ≡ false)
or_false false b h = (refl, h)
or_false true b h = cc

pub last_false : (a b c : Bool) → (a || b || c) ≡ false → c ≡ false
last_false false false c h = h
last_false false true c h = cc
last_false true b c h = cc

pub not_false : (b : Bool) → not b ≡ false → b ≡ true
not_false true h = refl
not_false false h = cc

pub and_split : (a b : Bool) → (a && b) ≡ true → (a ≡ true) × (b ≡ true)
and_split true b h = (refl, h)
and_split false b h = cc
