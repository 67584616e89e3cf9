-- Where the slots of a scope stand.
use Rattle.std.specs.Prelude.{◌≡◌, ℕ, ◌+◌, ◌==◌, nat_eq, if◌then◌else◌, List, [], ◌∷◌, ◌++◌, map, Option, Some, None}
use Rattle.std.specs.Option.{option_flatten}
use Rattle.indexmap.specs.IndexMap.{IndexMap, get}
use Rattle.body_infer.specs.declared.scope.Entry.{Entry}
use Rattle.body_infer.specs.declared.scope.Placed.{Placed}

abbrev pub placed_in : List Entry → List Placed
placed_in entries = map (λ entry. entry.placed) entries

-- the last place of a slot, counted on from a place; else what was found before
abbrev pub last_place : ℕ → ℕ → Option ℕ → List Entry → Option ℕ
last_place slot at found [] = found
last_place slot at found (entry ∷ entries) = last_place slot (at + 1) (if slot == entry.placed.slot then Some at else found) entries

abbrev pub place_of : List Entry → ℕ → Option ℕ
place_of entries slot = last_place slot 0 None entries

-- what a map says of a slot
abbrev pub found_place : {S : Type 0} → IndexMap ℕ (Option ℕ) S → ℕ → Option ℕ
found_place places slot = option_flatten (get nat_eq places slot)

-- each entry says which one it hides of those before
abbrev pub SayHidden : List Entry → List Entry → Type 0
SayHidden before [] = Unit {0}
SayHidden before (entry ∷ entries) = (entry.hidden ≡ place_of before entry.placed.slot) × SayHidden (before ++ entry ∷ []) entries

pub record FindsPlaces {S : Type 0} (entries : List Entry) (places : IndexMap ℕ (Option ℕ) S) : Type 0 where
  pub places_found : (slot : ℕ) → found_place places slot ≡ place_of entries slot
  pub hidden_said : SayHidden [] entries
