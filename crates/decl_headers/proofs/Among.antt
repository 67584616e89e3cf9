-- What stands in a list.
use Rattle.std.proofs.Common.{ℕ, zero, suc, ◌+◌, ◌<◌, ◌≤◌, List, [], ◌∷◌, ◌++◌, ◌⊎◌, inl, inr, refl, subst, arith}
use Rattle.std.proofs.lemmas.Bool.{cases_eq}
use Rattle.std.specs.List.{flat_map, range_with_len}
use Rattle.decl_headers.specs.Way.{last_first, Each}
use Rattle.decl_headers.proofs.Order.{Among}

pub among_left : {A : Type 0} (x : A) (xs ys : List A) → Among x xs → Among x (xs ++ ys)
among_left x [] ys h = absurd h
among_left x (z ∷ xs) ys (inl e) = inl e
among_left x (z ∷ xs) ys (inr h) = inr (among_left x xs ys h)

pub among_right : {A : Type 0} (x : A) (xs ys : List A) → Among x ys → Among x (xs ++ ys)
among_right x [] ys h = h
among_right x (z ∷ xs) ys h = inr (among_right x xs ys h)

pub among_either : {A : Type 0} (x : A) (xs ys : List A) → Among x (xs ++ ys) → Among x xs ⊎ Among x ys
among_either x [] ys h = inr h
among_either x (z ∷ xs) ys (inl e) = inl (inl e)
among_either x (z ∷ xs) ys (inr h) = elim (among_either x xs ys h) [ inl l ↦ inl (inr l) | inr r ↦ inr r ]

pub among_flat : {A B : Type 0} (f : A → List B) (y : B) (x : A) (xs : List A) → Among x xs → Among y (f x) → Among y (flat_map f xs)
among_flat f y x [] h k = absurd h
among_flat f y x (z ∷ xs) (inl e) k = among_left y (f z) (flat_map f xs) (subst (λ w. Among y (f w)) e k)
among_flat f y x (z ∷ xs) (inr h) k = among_right y (f z) (flat_map f xs) (among_flat f y x xs h k)

pub from_flat : {A B : Type 0} (f : A → List B) (y : B) (xs : List A) → Among y (flat_map f xs) → (x : A) × Among x xs × Among y (f x)
from_flat f y [] h = absurd h
from_flat f y (z ∷ xs) h =
    elim (among_either y (f z) (flat_map f xs) h) [
      | inl here ↦ (z, inl refl, here)
      | inr more ↦ let w = from_flat f y xs more in (w.0, inr w.1, w.2)
    ]

pub among_last : {A : Type 0} (f : ℕ → List A) (y : A) (x : ℕ) (xs : List ℕ) → Among x xs → Among y (f x) → Among y (last_first f xs)
among_last f y x [] h k = absurd h
among_last f y x (z ∷ xs) (inl e) k = among_right y (last_first f xs) (f z) (subst (λ w. Among y (f w)) e k)
among_last f y x (z ∷ xs) (inr h) k = among_left y (last_first f xs) (f z) (among_last f y x xs h k)

pub from_last : {A : Type 0} (f : ℕ → List A) (y : A) (xs : List ℕ) → Among y (last_first f xs) → (x : ℕ) × Among x xs × Among y (f x)
from_last f y [] h = absurd h
from_last f y (z ∷ xs) h =
    elim (among_either y (last_first f xs) (f z) h) [
      | inl more ↦ let w = from_last f y xs more in (w.0, inr w.1, w.2)
      | inr here ↦ (z, inl refl, here)
    ]

pub each_among : (P : ℕ → Type 0) (xs : List ℕ) → ((x : ℕ) → Among x xs → P x) → Each P xs
each_among P [] h = tt
each_among P (x ∷ xs) h = (h x (inl refl), each_among P xs (λ y k. h y (inr k)))

-- so many numbers from one on
pub among_range : (k a n : ℕ) → a ≤ k → k < a + n → Among k (range_with_len a n)
among_range k a zero low high = absurd (omega arith)
among_range k a (suc n) low high = elim (cases_eq k a) [ inl e ↦ inl e | inr ne ↦ inr (among_range k (a + 1) n (omega arith) (omega arith)) ]

pub range_below : (k a n : ℕ) → Among k (range_with_len a n) → k < a + n
range_below k a zero h = absurd h
range_below k a (suc n) (inl e) = omega (arith, e)
range_below k a (suc n) (inr h) = let more = range_below k (a + 1) n h in omega arith
