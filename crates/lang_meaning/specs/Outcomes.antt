-- How branches are joined, and how a run comes out.
use Rattle.std.specs.Prelude.{ℕ, List, [], ◌∷◌, ◌++◌, Option, Some, None}
use Rattle.lang_base.specs.declared.place.Place.{Place}
use Rattle.lang_base.specs.declared.value.Trap.{Trap}
use Rattle.lang_meaning.specs.Values.{Value}
use Rattle.lang_meaning.specs.Actions.{Ending, Returned, Assigned, Trapped, Answer, Joined, Fell}

-- the first trap among the ends of branches, in their order
abbrev pub trap_of : {N : Type 0} → Ending N → Option (Trap × Place) → Option (Trap × Place)
trap_of (Trapped trap place) other = Some (trap, place)
trap_of (Returned v) other = other
trap_of (Assigned ls) other = other

abbrev pub first_trap : {N : Type 0} → List (Ending N) → Option (Trap × Place)
first_trap [] = None
first_trap (x ∷ xs) = trap_of x (first_trap xs)

-- the locals that the branches assigned
abbrev pub locals_of : {N : Type 0} → Ending N → List (ℕ × Value N)
locals_of (Assigned ls) = ls
locals_of (Returned v) = []
locals_of (Trapped trap place) = []

abbrev pub all_locals : {N : Type 0} → List (Ending N) → List (ℕ × Value N)
all_locals [] = []
all_locals (x ∷ xs) = locals_of x ++ all_locals xs

abbrev pub joined_or : {N M : Type 0} → Option (Trap × Place) → List (ℕ × Value N) → Answer N M
joined_or (Some fell) ls = Fell fell.0 fell.1
joined_or None ls = Joined ls

-- what a join is answered
abbrev pub joined : {N M : Type 0} → List (Ending N) → Answer N M
joined xs = joined_or (first_trap xs) (all_locals xs)

-- how a run comes out: how it ended, what it printed up to the first trap, and its cost; or it was over a limit
pub data Outcome (N : Type 0) : Type 0 where
  Came : (ending : Ending N) (output : List ℕ) (steps cells : ℕ) → Outcome N
  Limited : (steps cells : ℕ) → Outcome N
