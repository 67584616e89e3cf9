-- Whether two members of a list stand in a relation, by a test of pairs.
use Rattle.std.proofs.Common.{◌≡◌, suc, Bool, true, false, ◌||◌, List, [], ◌∷◌, ⊎_elim, refl, sym, ◌∙◌, arith}
use Rattle.std.proofs.lemmas.Bool.{false≢true, or_cases}
use Rattle.std.proofs.lemmas.List.Elements.{All-nil, All-cons, All-head, All-tail}
use Rattle.std.proofs.lemmas.List.Kept.{AllPairs-cons}
use Rattle.std.specs.Bool.{Decides}
use Rattle.std.specs.List.{list_any, All, AllPairs}
use Rattle.lang_base.specs.Pairs.{NoPair}

abbrev pub some_pair : {X : Type 0} → (X → X → Bool) → List X → Bool
some_pair test [] = false
some_pair test (x ∷ xs) = list_any (test x) xs || some_pair test xs

-- the test decides the relation
abbrev pub IsTestFor : {X : Type 0} → (X → X → Bool) → (X → X → Type 0) → Type 0
IsTestFor {X} test R = (x y : X) → Decides (test x y) (R x y)

or_none : (a b : Bool) → (a || b) ≡ false → (a ≡ false) × (b ≡ false)
or_none false b e = (refl, e)
or_none true b e = absurd (false≢true (sym e))

none_of : {X : Type 0} (R : X → X → Type 0) (test : X → X → Bool) (x : X) (ys : List X) → IsTestFor test R → list_any (test x) ys ≡ false → All (λ y. ¬ R x y) ys
none_of R test x [] decides e = All-nil (λ y. ¬ R x y)
none_of R test x (y ∷ ys) decides e =
    let parts = or_none (test x y) (list_any (test x) ys) e in
    All-cons (λ z. ¬ R x z) y ys (λ r. false≢true (sym parts.0 ∙ (decides x y).1 r)) (none_of R test x ys decides parts.1)

one_of : {X : Type 0} (R : X → X → Type 0) (test : X → X → Bool) (x : X) (ys : List X) → IsTestFor test R → list_any (test x) ys ≡ true → ¬ All (λ y. ¬ R x y) ys
one_of R test x [] decides e h = false≢true e
one_of R test x (y ∷ ys) decides e h =
    ⊎_elim (λ t. All-head (λ z. ¬ R x z) y ys h ((decides x y).0 t)) (λ t. one_of R test x ys decides t (All-tail (λ z. ¬ R x z) y ys h))
    (or_cases (test x y) (list_any (test x) ys) e)

pub first_pairs : {X : Type 0} (R : X → X → Type 0) (x : X) (xs : List X) → AllPairs R (x ∷ xs) → All (R x) xs
first_pairs R x xs h k d lt = h 0 (suc k) d (omega arith) (omega (arith, lt))

pub later_pairs : {X : Type 0} (R : X → X → Type 0) (x : X) (xs : List X) → AllPairs R (x ∷ xs) → AllPairs R xs
later_pairs R x xs h i j d order lt = h (suc i) (suc j) d (omega (arith, order)) (omega (arith, lt))

pub no_pairs : {X : Type 0} (R : X → X → Type 0) → AllPairs R []
no_pairs R i j d order lt = absurd (omega (arith, lt))

pub no_pair : {X : Type 0} (R : X → X → Type 0) (test : X → X → Bool) (xs : List X) → IsTestFor test R → some_pair test xs ≡ false → NoPair R xs
no_pair R test [] decides e = no_pairs (λ y z. ¬ R y z)
no_pair R test (x ∷ xs) decides e =
    let parts = or_none (list_any (test x) xs) (some_pair test xs) e in
    AllPairs-cons (λ y z. ¬ R y z) x xs (none_of R test x xs decides parts.0) (no_pair R test xs decides parts.1)

pub a_pair : {X : Type 0} (R : X → X → Type 0) (test : X → X → Bool) (xs : List X) → IsTestFor test R → some_pair test xs ≡ true → ¬ NoPair R xs
a_pair R test [] decides e h = false≢true e
a_pair R test (x ∷ xs) decides e h =
    ⊎_elim (λ t. one_of R test x xs decides t (first_pairs (λ y z. ¬ R y z) x xs h))
    (λ t. a_pair R test xs decides t (later_pairs (λ y z. ¬ R y z) x xs h)) (or_cases (list_any (test x) xs) (some_pair test xs) e)

-- what is said of a pair by another test
same_met : {P : Type 0} (met some : Bool) → (met ≡ false → P) → (met ≡ true → ¬ P) → (some ≡ false → P) → (some ≡ true → ¬ P) → met ≡ some
same_met true true a b c d = refl
same_met true false a b c d = absurd (b refl (c refl))
same_met false true a b c d = absurd (d refl (a refl))
same_met false false a b c d = refl

pub met_is : {X : Type 0} (R : X → X → Type 0) (test : X → X → Bool) (xs : List X) (met : Bool) → IsTestFor test R → (met ≡ false → NoPair R xs) →
    (met ≡ true → ¬ NoPair R xs) → met ≡ some_pair test xs
met_is R test xs met decides none some = same_met met (some_pair test xs) none some (no_pair R test xs decides) (a_pair R test xs decides)
