-- The superclasses of a class one above the other, and which classes are their own superclasses.
use Rattle.std.specs.Prelude.{ℕ, zero, suc, ◌==◌, Bool, true, List, [], ◌∷◌, length, slice_get, slice_set, Option, None, Some, option_and_then}
use Rattle.std.specs.List.{list_any}
use Rattle.std.specs.Option.{option_map_or}
use Rattle.decl_headers.specs.Headers.{chain}

-- what a list has at a place, where it has something there
abbrev pub entry_of : List (Option ℕ) → ℕ → Option ℕ
entry_of entries at = option_and_then (λ entry. entry) (slice_get entries at)

-- the superclasses of a class, the nearest first
abbrev pub superclasses : List (Option ℕ) → ℕ → List ℕ
superclasses parents at = option_map_or (λ above. chain (entry_of parents) (length parents) above) (entry_of parents at) []

-- the class is one of its own superclasses
abbrev pub is_round : List (Option ℕ) → ℕ → Bool
is_round parents at = list_any (λ above. above == at) (superclasses parents at)

-- the superclass of a class so many steps up
abbrev pub up : List (Option ℕ) → ℕ → ℕ → Option ℕ
up parents zero at = Some at
up parents (suc n) at = option_and_then (entry_of parents) (up parents n at)

-- a further class is reported
abbrev pub with_round : List Bool → Option ℕ → List Bool
with_round rounds None = rounds
with_round rounds (Some at) = slice_set rounds at true

abbrev pub all_rounds : List Bool → List (Option ℕ) → List Bool
all_rounds rounds [] = rounds
all_rounds rounds (jump ∷ jumps) = all_rounds (with_round rounds jump) jumps
