-- The first two members of a list, in its order, that stand in a relation.
use Rattle.std.specs.Prelude.{ℕ, ◌<◌, List, length, slice_index_or, AllPairs, Option, MatchOption}

-- no member stands in the relation to a later one
abbrev pub NoPair : {X : Type 0} → (X → X → Type 0) → List X → Type 0
NoPair R xs = AllPairs (λ x y. ¬ R x y) xs

-- the member at i stands in the relation to none between it and j
abbrev pub NoneBetween : {X : Type 0} → (X → X → Type 0) → List X → ℕ → ℕ → Type 0
NoneBetween {X} R xs i j = (b : ℕ) (d : X) → i < b → b < j → ¬ R (slice_index_or xs i d) (slice_index_or xs b d)

-- the member at j is the first after the one at i to which that one stands in the relation
pub record IsFirstAfter {X : Type 0} (R : X → X → Type 0) (xs : List X) (i j : ℕ) : Type 0 where
  pub in_order : i < j
  pub within : j < length xs
  pub holds : (d : X) → R (slice_index_or xs i d) (slice_index_or xs j d)
  pub none_between : NoneBetween R xs i j

-- up to i, no member stands in the relation to a later one
abbrev pub NoneBefore : {X : Type 0} → (X → X → Type 0) → List X → ℕ → Type 0
NoneBefore {X} R xs i = (a b : ℕ) (d : X) → a < i → a < b → b < length xs → ¬ R (slice_index_or xs a d) (slice_index_or xs b d)

-- the members at i and j stand in the relation; no pair that does has an earlier first member, or the same first
-- member and an earlier second
pub record IsFirstPair {X : Type 0} (R : X → X → Type 0) (xs : List X) (i j : ℕ) : Type 0 where
  pub following : IsFirstAfter R xs i j
  pub none_before : NoneBefore R xs i

-- the first member after the one at i, if there is one
abbrev pub FirstAfter : {X : Type 0} → (X → X → Type 0) → List X → ℕ → Option ℕ → Type 0
FirstAfter R xs i answer = MatchOption answer (NoneBetween R xs i (length xs)) (IsFirstAfter R xs i)

-- the first such pair, if there is one
abbrev pub FirstPair : {X : Type 0} → (X → X → Type 0) → List X → Option (ℕ × ℕ) → Type 0
FirstPair R xs answer = MatchOption answer (NoPair R xs) (λ p. IsFirstPair R xs p.0 p.1)
