-- The rule of open blocks once more, by paths and by each task's own events alone. It never asks in which order tasks acted, nor
-- whether a block in which a task was begun is still open.
use Rattle.std.specs.Prelude.{ℕ, ◌≡◌, true, if◌then◌else◌, nat_lt, List, [], ◌∷◌, length}
use Rattle.runs_theory.specs.Objects.{Path, Effect}
use Rattle.runs_theory.specs.Actions.{Enter, Do, Rule, Program}
use Rattle.runs_theory.specs.Runs.{Event, Run, mine, Follows}
use Rattle.runs_theory.specs.Blocks.{Hold, Out_of, In_block, hold}

-- the first n events of one task
unfoldable pub first_of : ℕ → Run → Run
first_of n [] = []
first_of n (x ∷ xs) = if nat_lt (length xs) n then x ∷ xs else first_of n xs

-- whether a task stands inside a block: of which opener, and with which effects that block was entered
pub data Standing : Type 0 where
  Outside : Standing
  Inside : (opener : Path) (effects : List Effect) → Standing

-- a task stands in the block in which it was begun, else in the one that it opened
abbrev pub joined_by : Standing → Path → Hold → Standing
joined_by (Inside o E) p h = Inside o E
joined_by Outside p Out_of = Outside
joined_by Outside p (In_block n E) = Inside p E

-- the block in which a task was begun: that in which the task above it stood at the fork
unfoldable pub above : Run → Path → Standing
above R [] = Outside
above R (u ∷ q) = joined_by (above R q) q (hold (first_of u.0 (mine R q)))

abbrev pub standing : Run → Path → Standing
standing R p = joined_by (above R p) p (hold (mine R p))

-- a block is open as long as its opener stands in it
pub record CanEnter (rule : Rule) (R : Run) (p : Path) (E : List Effect) : Type 0 where
  pub clear : standing R p ≡ Outside → (q : Path) (F : List Effect) → standing R q ≡ Inside q F → rule F E ≡ true

pub record Admitted (P : Program) (R : Run) (e : Event) : Type 0 where
  pub follows : Follows P R e
  pub enters : (E : List Effect) → e.act ≡ Do (Enter E) → CanEnter P.rule R e.path E

-- legal, with blocks judged so
abbrev pub Valid : Program → Run → Type 0
Valid P [] = Unit {0}
Valid P (e ∷ R) = Admitted P R e × Valid P R
