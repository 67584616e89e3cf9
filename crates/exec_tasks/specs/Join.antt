-- What a join makes of the ends of its branches.
use Rattle.std.specs.Prelude.{◌≡◌, ℕ, List, [], ◌∷◌, ◌++◌, Option, Some, None}
use Rattle.lang_base.specs.declared.place.Place.{Place}
use Rattle.lang_base.specs.declared.value.SlotValue.{SlotValue}
use Rattle.lang_base.specs.declared.value.Trap.{Trap}
use Rattle.exec_tasks.specs.declared.end.TaskEnd.{TaskEnd}
use Rattle.exec_tasks.specs.declared.end.Joined.{Joined}

-- nothing more once there is a trap
abbrev pub unless_trapped : Option (Trap × Place) → List ℕ → List ℕ
unless_trapped None more = more
unless_trapped (Some trap) more = []

-- the outputs in branch order, of the branches that have ended; after one that trapped they are dropped
abbrev pub joined_out : List (Option TaskEnd) → List ℕ
joined_out [] = []
joined_out (None ∷ ends) = joined_out ends
joined_out (Some e ∷ ends) = e.out ++ unless_trapped e.trap (joined_out ends)

abbrev pub or_else : Option (Trap × Place) → Option (Trap × Place) → Option (Trap × Place)
or_else None other = other
or_else (Some trap) other = Some trap

-- the trap of the first branch in branch order that has one
abbrev pub first_trap : List (Option TaskEnd) → Option (Trap × Place)
first_trap [] = None
first_trap (None ∷ ends) = first_trap ends
first_trap (Some e ∷ ends) = or_else e.trap (first_trap ends)

-- the slots that the branches assigned, in branch order
abbrev pub all_slots : List (Option TaskEnd) → List SlotValue
all_slots [] = []
all_slots (None ∷ ends) = all_slots ends
all_slots (Some e ∷ ends) = e.slots ++ all_slots ends

-- an end of which nothing is left
abbrev pub nothing_left : TaskEnd
nothing_left = record { out = []; trap = None; slots = [] }

-- the end that is kept, or none where nothing is left of it
abbrev pub end_in : Option TaskEnd → TaskEnd
end_in None = nothing_left
end_in (Some e) = e

-- the same with what was printed
abbrev pub closed_as : Option TaskEnd → List ℕ → TaskEnd
closed_as None out = nothing_left
closed_as (Some e) out = record { out = out; trap = e.trap; slots = e.slots }

-- what branches came to
pub record JoinsTo (ends : List (Option TaskEnd)) (joined : Joined) : Type 0 where
  pub trap_is : joined.trap ≡ first_trap ends
  pub slots_are : joined.slots ≡ all_slots ends
