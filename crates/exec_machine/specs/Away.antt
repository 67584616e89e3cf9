-- Tasks that were taken out of a machine's map, and go on there.
use Rattle.std.specs.Prelude.{◌≡◌, ◌≢◌, ℕ, List, [], ◌∷◌, Option, Some, None}
use Rattle.std.specs.Ordering.{nat_cmp}
use Rattle.std.specs.FinMap.{FinMap, get, insert}
use Rattle.code_instrs.specs.Plain.{PlainCode}
use Rattle.exec_machine.specs.declared.away.Away.{Away}
use Rattle.exec_machine.specs.declared.slot.Slot.{Slot}
use Rattle.exec_machine.specs.Running.{Running, Goes, StandsFor, CanGo}

-- a task that was taken out stands for one that goes on
abbrev pub CanGoAway : PlainCode → Away → Type 0
CanGoAway C x = CanGo C x.number x.slot

-- it has gone further on its way, and stands for the same
pub record GoesFurther (C : PlainCode) (x y : Away) : Type 0 where
  pub number : y.number ≡ x.number
  pub stands : (t : Running) → Goes C x.number t → StandsFor C x.number x.slot t → StandsFor C x.number y.slot t

-- each slot of a task stands for one that goes on; a slot of another number holds the place of a task that was taken out
abbrev pub EachCanGo : PlainCode → FinMap nat_cmp Slot → Type 0
EachCanGo C slots = (k : ℕ) (s : Slot) → get slots k ≡ Some s → s.task.number ≡ k → CanGo C k s

-- a task was taken out, and a slot of another number is in its place
pub record IsTakenOut (before : FinMap nat_cmp Slot) (k : ℕ) (after : FinMap nat_cmp Slot) (s : Slot) : Type 0 where
  pub there : get before k ≡ Some s
  pub number : s.task.number ≡ k
  pub other : Slot
  pub apart : other.task.number ≢ k
  pub after_is : after ≡ insert before k other

-- the slots with this one in the place of that of the task, where there is one
abbrev pub put_over : FinMap nat_cmp Slot → ℕ → Slot → Option Slot → FinMap nat_cmp Slot
put_over slots k s None = slots
put_over slots k s (Some old) = insert slots k s

abbrev pub put_at : FinMap nat_cmp Slot → ℕ → Slot → FinMap nat_cmp Slot
put_at slots k s = put_over slots k s (get slots k)

-- the slots with those that were taken out, the last one first
abbrev pub put_back : FinMap nat_cmp Slot → List Away → FinMap nat_cmp Slot
put_back slots [] = slots
put_back slots (x ∷ xs) = put_at (put_back slots xs) x.number x.slot
