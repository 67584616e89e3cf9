-- Elements of lists.
use Rattle.std.proofs.Common.{◌≡◌, ◌⊎◌, List, [], ◌∷◌, Contains, inl, inr, ⊎_elim, refl, arith}
use Rattle.std.proofs.lemmas.List.Elements.{Contains-append_cases, Contains-append_right, Contains-push_cases}

pub nothing_in : {A : Type 0} (x : A) → Contains [] x → ⊥
nothing_in x c = let below = c.1 in omega (arith, below)

pub head_in : {A : Type 0} (x : A) (xs : List A) → Contains (x ∷ xs) x
head_in x xs = (0, omega arith, refl)

pub later_in : {A : Type 0} (x : A) (xs : List A) (z : A) → Contains xs z → Contains (x ∷ xs) z
later_in x xs z c = Contains-append_right (x ∷ []) xs z c

one_of : {A : Type 0} (x z : A) → Contains (x ∷ []) z → x ≡ z
one_of x z c = ⊎_elim (λ none. absurd (nothing_in z none)) (λ same. same) (Contains-push_cases [] x z c)

pub in_cases : {A : Type 0} (x : A) (xs : List A) (z : A) → Contains (x ∷ xs) z → (x ≡ z) ⊎ Contains xs z
in_cases x xs z c = ⊎_elim (λ first. inl (one_of x z first)) (λ later. inr later) (Contains-append_cases (x ∷ []) xs z c)
