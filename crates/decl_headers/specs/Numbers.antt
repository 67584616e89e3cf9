-- Numbers under names, and under names that belong to something.
use Rattle.std.specs.Prelude.{◌≡◌, ℕ, ◌+◌, ◌&&◌, ◌==◌, nat_eq, Bool, cond, min, List, [], ◌∷◌, Option, Some}
use Rattle.indexmap.specs.IndexMap.{get, get_by}
use Rattle.decl_headers.specs.declared.numbers.NameNumbers.{NameNumbers}
use Rattle.decl_headers.specs.declared.numbers.OwnedNumbers.{OwnedNumbers}

-- a position as a number: the position itself, where a number holds it
abbrev pub as_number : ℕ → ℕ
as_number position = min position 4294967295

-- the last place, counted on from a number, that passes a test; else what was found before
abbrev pub last_place : {A : Type 0} → (A → Bool) → ℕ → List A → Option ℕ → Option ℕ
last_place test at [] found = found
last_place test at (x ∷ xs) found = last_place test (at + 1) xs (cond (test x) (Some (as_number at)) found)

-- the number under a name
abbrev pub number_of : NameNumbers → ℕ → Option ℕ
number_of numbers name = get nat_eq numbers.map name

-- the name has the number from now on, and every other name what it had
abbrev pub IsPut : NameNumbers → ℕ → ℕ → NameNumbers → Type 0
IsPut old name number new =
    (other : ℕ) → number_of new other ≡ cond (name == other) (Some number) (number_of old other)

-- the number under a name of an owner
abbrev pub owned_number : OwnedNumbers → ℕ → ℕ → Option ℕ
owned_number numbers owner name = get_by (λ key. (owner == key.owner) && (name == key.name)) numbers.map

-- the name of the owner has the number from now on, and every other what it had
abbrev pub IsOwnedPut : OwnedNumbers → ℕ → ℕ → ℕ → OwnedNumbers → Type 0
IsOwnedPut old owner name number new =
    (other_owner other : ℕ) → owned_number new other_owner other
    ≡ cond ((owner == other_owner) && (name == other)) (Some number) (owned_number old other_owner other)
