-- The elision numbers objects as they are made, and a run names them by their makers: its outcome with such names.
use Rattle.std.specs.Prelude.{ℕ, ◌≡◌, ◌<◌, List, [], ◌∷◌, length, map, Option, Some, None, slice_get}
use Rattle.lang_meaning.specs.Actions.{Ending, Returned, Assigned, Trapped}
use Rattle.lang_meaning.specs.Outcomes.{Outcome, Came, Limited}
use Rattle.lang_meaning.specs.Values.{Value, Int, Boolean, Null, Object}
use Rattle.runs_theory.specs.Objects.{Name}

-- the names of the objects in the order in which they were made; no two have one name
pub record Distinct (names : List Name) : Type 0 where
  pub one : (n m : ℕ) (x : Name) → slice_get names n ≡ Some x → slice_get names m ≡ Some x → n ≡ m

-- each object of an outcome has a name
abbrev pub HasName : List Name → Value ℕ → Type 0
HasName names (Object n) = n < length names
HasName names (Int k) = Unit {0}
HasName names (Boolean b) = Unit {0}
HasName names Null = Unit {0}

abbrev pub HaveNames : List Name → List (ℕ × Value ℕ) → Type 0
HaveNames names [] = Unit {0}
HaveNames names (l ∷ ls) = HasName names l.1 × HaveNames names ls

abbrev pub EndingHasNames : List Name → Ending ℕ → Type 0
EndingHasNames names (Returned v) = HasName names v
EndingHasNames names (Assigned ls) = HaveNames names ls
EndingHasNames names (Trapped trap place) = Unit {0}

abbrev pub HasNames : List Name → Outcome ℕ → Type 0
HasNames names (Came x output steps cells) = EndingHasNames names x
HasNames names (Limited steps cells) = Unit {0}

-- and with these
abbrev pub object_named : Option Name → Value Name
object_named None = Null
object_named (Some x) = Object x

abbrev pub renamed_value : List Name → Value ℕ → Value Name
renamed_value names (Object n) = object_named (slice_get names n)
renamed_value names (Int k) = Int k
renamed_value names (Boolean b) = Boolean b
renamed_value names Null = Null

abbrev pub renamed_ending : List Name → Ending ℕ → Ending Name
renamed_ending names (Returned v) = Returned (renamed_value names v)
renamed_ending names (Assigned ls) = Assigned (map (λ l. (l.0, renamed_value names l.1)) ls)
renamed_ending names (Trapped trap place) = Trapped trap place

abbrev pub renamed : List Name → Outcome ℕ → Outcome Name
renamed names (Came x output steps cells) = Came (renamed_ending names x) output steps cells
renamed names (Limited steps cells) = Limited steps cells
