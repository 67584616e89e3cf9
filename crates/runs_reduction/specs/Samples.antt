-- Samples: the laws of gathering and moving say something, and their premises are needed.
use Rattle.std.specs.Prelude.{◌≡◌, [], ◌∷◌}
use Rattle.runs_theory.specs.Actions.{Ending, Program}
use Rattle.runs_theory.specs.Runs.{Ended, Event, Run, Upto}
use Rattle.runs_theory.specs.Blocks.{Legal, leaving_locals, with_rule}
use Rattle.runs_theory.specs.Order.{Conflict, Unordered}
use Rattle.runs_theory.specs.Meaning.{Disciplined, InTurn, Known}
use Rattle.runs_reduction.specs.Gathered.{gather}
use Rattle.runs_reduction.specs.Moved.{inner, move}
use Rattle.runs_reduction.specs.Guarded.{AccessesLevelled, ConflictsGuarded, EntriesLet, LevelsGuarded, anything}
use Rattle.runs_reduction.specs.Laws.{Weaker}

-- two events of a run that conflict
pub record SomeConflict (R : Run) : Type 0 where
  pub after : Run
  pub later_one : Event
  pub before : Run
  pub earlier : Event
  pub stands : Upto (later_one ∷ after) R
  pub under : Upto (earlier ∷ before) after
  pub unordered : Unordered earlier.path later_one.path
  pub conflict : Conflict earlier later_one
  -- each in another branch of a deterministic construct, or in none
  pub levels : inner before earlier.path ≡ inner after later_one.path → ⊥

-- a run whose root has ended, with a guarded conflict of a task begun inside a block, and blocks that overlap, which gathering
-- and moving change
abbrev pub BothApply : Type 0
BothApply = (P : Program) × Disciplined P × Known P × (R : Run) × Legal P R × ((x : Ending) × Ended R [] x) × ConflictsGuarded P.rule R × LevelsGuarded P.rule R
    × SomeConflict R × (gather R ≡ R → ⊥) × (move R ≡ R → ⊥)

-- where a conflict isn't guarded, the gathered run may not be legal
abbrev pub GatheringNeedsGuarded : Type 0
GatheringNeedsGuarded = (P : Program) × Disciplined P × Known P × (R : Run) × Legal P R × (Legal P (gather R) → ⊥)

-- nor where a task looks at an object whose name nobody gave it
abbrev pub GatheringNeedsKnown : Type 0
GatheringNeedsKnown = (P : Program) × Disciplined P × (R : Run) × Legal P R × ConflictsGuarded P.rule R × (Legal P (gather R) → ⊥)

-- a moved run may be legal by the weaker rule alone
abbrev pub MovingNeedsWeaker : Type 0
MovingNeedsWeaker = (P : Program) × Weaker (leaving_locals P.rule) P.rule × Disciplined P × Known (with_rule (leaving_locals P.rule) P) × (R : Run) × Legal P R
    × LevelsGuarded (leaving_locals P.rule) R × ((x : Ending) × Ended R [] x) × (Legal P (move R) → ⊥)

-- a run whose root has ended can be moved, though blocks of two branches of one deterministic construct waited for each other, so that its
-- levels aren't guarded
abbrev pub MovingEndedApplies : Type 0
MovingEndedApplies = (P : Program) × Disciplined P × Known (with_rule anything P) × (R : Run) × Legal P R × ((x : Ending) × Ended R [] x)
    × AccessesLevelled P.rule R × EntriesLet P.rule R × (LevelsGuarded P.rule R → ⊥) × (move R ≡ R → ⊥)

-- where the root has not ended, the moved run may not be legal
abbrev pub MovingNeedsEnded : Type 0
MovingNeedsEnded = (P : Program) × Disciplined P × Known (with_rule anything P) × (R : Run) × Legal P R × AccessesLevelled P.rule R × EntriesLet P.rule R
    × (Legal P (move R) → ⊥)

-- a run that is gathered and moved may be another than the gathered run, and than the moved one
abbrev pub ArrangingApplies : Type 0
ArrangingApplies = (P : Program) × Disciplined P × InTurn P × Known P × (R : Run) × Legal P R × ConflictsGuarded P.rule R × LevelsGuarded P.rule (gather R)
    × (move (gather R) ≡ gather R → ⊥) × (move (gather R) ≡ move R → ⊥)
