-- Samples: the laws say something, and their premises are needed.
use Rattle.std.specs.Prelude.{ℕ, ◌≡◌, ◌<◌, ◌+◌, ◌*◌, List, [], ◌∷◌, length}
use Rattle.runs_theory.specs.Objects.{Path}
use Rattle.runs_theory.specs.Actions.{Ending, Program, Task}
use Rattle.runs_theory.specs.Runs.{Begun, Ended, Event, Run, Upto, count}
use Rattle.runs_theory.specs.Blocks.{Allowed, Legal}
use Rattle.runs_theory.specs.Order.{Agree, Before, Comes, Free, Outcome}
use Rattle.runs_theory.specs.Meaning.{Disciplined, InTurn, Known, Lively, Paced}
use Rattle.runs_theory.specs.Schedules.{Finished, Greedy, Limits, Ran, begins}
use Rattle.runs_theory.specs.Laws.{AllFree}

-- two legal runs without unordered conflicts, in different orders, that come out the same
abbrev pub ComparisonApplies : Type 0
ComparisonApplies = (P : Program) × Disciplined P × (R : Run) × (S : Run) × Legal P R × Legal P S × Free R × Free S × (R ≡ S → ⊥) × (o : Outcome)
    × Comes P R o × Comes P S o

-- with a conflict legal runs don't agree
abbrev pub ComparisonNeedsFree : Type 0
ComparisonNeedsFree = (P : Program) × Disciplined P × (R : Run) × (S : Run) × Legal P R × Legal P S × (Agree R S → ⊥)

-- a begin may stand before events that are before it by their numbers
abbrev pub RespectsNeedsPassing : Type 0
RespectsNeedsPassing = (P : Program) × Disciplined P × (R : Run) × (X : Run) × (Y : Run) × (x : Event) × (y : Event) × Legal P R × Upto (x ∷ X) R
    × Upto (y ∷ Y) R
    × Before x.path (count X x.path) y.path (count Y y.path) × (Upto (x ∷ X) Y → ⊥)

-- a legal run in which a task that has not ended has no next event, since it waits for a block
abbrev pub ReadyApplies : Type 0
ReadyApplies = (P : Program) × Disciplined P × Lively P × Known P × (R : Run) × Legal P R × ((x : Ending) → Ended R [] x → ⊥)
    × (p : Path) × (t : Task) × Begun P R p t × ((x : Ending) → Ended R p x → ⊥) × ((e : Event) → e.path ≡ p → Allowed P R e → ⊥)

-- where a task acts on what nobody has made, no task may be ready
abbrev pub ReadyNeedsKnown : Type 0
ReadyNeedsKnown = (P : Program) × Disciplined P × Lively P × (R : Run) × Legal P R × ((x : Ending) → Ended R [] x → ⊥) × ((e : Event) → Allowed P R e → ⊥)

-- a schedule with a rest in front of an entry
abbrev pub BoundApplies : Type 0
BoundApplies = (P : Program) × Disciplined P × Paced P × (L : Limits) × (ks : List ℕ) × (R : Run) × Ran P L ks R × (0 < length ks)

-- rests that no entry follows make schedules longer
abbrev pub BoundNeedsPaced : Type 0
BoundNeedsPaced = (P : Program) × Disciplined P × (L : Limits) × (ks : List ℕ) × (R : Run) × Ran P L ks R × (2 * L.steps + 1 < length ks)

-- two schedules of a program without conflicts that have finished, with one outcome
abbrev pub DeterminismApplies : Type 0
DeterminismApplies = (P : Program) × Disciplined P × AllFree P × (L : Limits) × (ks : List ℕ) × (js : List ℕ) × (ks ≡ js → ⊥)
    × (o : Outcome) × Finished P L ks o × Finished P L js o

-- a run with branches in which the greatest number always goes on, whose root has ended
abbrev pub GreatestApplies : Type 0
GreatestApplies = (P : Program) × Disciplined P × Lively P × InTurn P × Known P × (R : Run) × Legal P R × Greedy P R × (x : Ending) × Ended R [] x
    × (0 < begins R)
