-- The walk over all pairs of a list: what is known after each step.
use Rattle.std.proofs.Common.{◌≡◌, ℕ, ◌+◌, ◌<◌, ◌≤◌, List, length, get_or, ◌∙◌, subst, below_more, arith}
use Rattle.std.proofs.lemmas.List.{get_or_default}
use Rattle.lang_base.specs.Pairs.{NoPair, NoneBetween, NoneBefore}

at_any : {X : Type 0} (xs : List X) (i : ℕ) (x d : X) → i < length xs → x ≡ get_or xs i x → x ≡ get_or xs i d
at_any xs i x d p e = e ∙ get_or_default xs i x d p

-- what stands of two elements that were read stands of the list at their positions
pub at_read : {X : Type 0} (R : X → X → Type 0) (xs : List X) (i j : ℕ) (x y : X) → i < length xs → j < length xs → x ≡ get_or xs i x → y ≡ get_or xs j y → R x y → (d : X) → R (get_or xs i d) (get_or xs j d)
at_read {X} R xs i j x y p q e f r d =
    subst (λ (v : X). R v (get_or xs j d)) (at_any xs i x d p e) (subst (λ (w : X). R x w) (at_any xs j y d q f) r)

pub none_between-more : {X : Type 0} (R : X → X → Type 0) (xs : List X) (i j : ℕ) (x y : X) → i < length xs → j < length xs → x ≡ get_or xs i x → y ≡ get_or xs j y → ¬ R x y → NoneBetween R xs i j → NoneBetween R xs i (j + 1)
none_between-more {X} R xs i j x y p q e f apart h b d above below =
    below_more
    (λ (k : ℕ). i < k → ¬ R (get_or xs i d) (get_or xs k d))
    j
    (λ k lt gt. h k d gt lt)
    (λ _. at_read (λ (v w : X). ¬ R v w) xs i j x y p q e f apart d)
    b
    below
    above

pub none_between-all : {X : Type 0} (R : X → X → Type 0) (xs : List X) (i j : ℕ) → length xs ≤ j → NoneBetween R xs i j → NoneBetween R xs i (length xs)
none_between-all R xs i j e h b d above below = h b d above (omega arith)

pub none_before-more : {X : Type 0} (R : X → X → Type 0) (xs : List X) (i : ℕ) → NoneBetween R xs i (length xs) → NoneBefore R xs i → NoneBefore R xs (i + 1)
none_before-more R xs i here h a b d below after within =
    below_more
    (λ (k : ℕ). k < b → ¬ R (get_or xs k d) (get_or xs b d))
    i
    (λ k lt gt. h k b d lt gt within)
    (λ gt. here b d gt within)
    a
    below
    after

pub none_before-all : {X : Type 0} (R : X → X → Type 0) (xs : List X) (i : ℕ) → length xs ≤ i → NoneBefore R xs i → NoPair R xs
none_before-all R xs i e h a b d after within = h a b d (omega arith) after within
