-- The laws of gathering and moving, as statements.
use Rattle.std.specs.Prelude.{ℕ, ◌≡◌, true, List, [], ◌∷◌}
use Rattle.runs_theory.specs.Objects.{Path, Effect}
use Rattle.runs_theory.specs.Actions.{Ending, Program, Rule, Task}
use Rattle.runs_theory.specs.Runs.{Begun, Event, Faithful, Run, mine, total, Ended}
use Rattle.runs_theory.specs.Blocks.{In_block, hold, Legal, leaving_locals, with_rule}
use Rattle.runs_theory.specs.Standing.{Inside, standing}
use Rattle.runs_theory.specs.Order.{Comes, Outcome}
use Rattle.runs_theory.specs.Meaning.{Disciplined, InTurn, Known}
use Rattle.runs_theory.specs.Schedules.{Limits, Within}
use Rattle.runs_reduction.specs.Gathered.{gather, AtEntries, Together}
use Rattle.runs_reduction.specs.Moved.{move, AfterForks}
use Rattle.runs_reduction.specs.Guarded.{AccessesLevelled, ConflictsGuarded, EntriesLet, LevelsGuarded, anything}

-- G is a legal run of the program with the events of R: each task makes the same ones, with the same answers, so it is to do the
-- same next; any weight of events sums up to the same; it comes out as R does; and a further event that is over a limit after
-- R is so after G
pub record Rearranges (P : Program) (R G : Run) : Type 0 where
  pub legal : Legal P G
  pub events : (p : Path) → mine G p ≡ mine R p
  pub costs : (w : Event → ℕ) → total w G ≡ total w R
  pub ended : (p : Path) (x : Ending) → Ended R p x → Ended G p x
  pub outcome : (o : Outcome) → Comes P R o → Comes P G o
  pub begun : (p : Path) (t : Task) → Begun P R p t → Begun P G p t
  pub over : (L : Limits) (e : Event) → (Within P L (e ∷ R) → ⊥) → Within P L (e ∷ G) → ⊥

-- a legal run whose unordered conflicts are guarded can be gathered
pub record IsGathered (P : Program) (R : Run) : Type 0 where
  pub rearranges : Rearranges P R (gather R)
  pub at_entries : AtEntries R (gather R)
  pub together : Together R (gather R)

abbrev pub Gathering : Type 0
Gathering = (P : Program) → Disciplined P → Known P → (R : Run) → Legal P R → ConflictsGuarded P.rule R → IsGathered P R

-- there is one run with the events of R that has each block's events at its entry, in their order, and all else in its order
abbrev pub OneGathered : Type 0
OneGathered = (R G H : Run) → ((p : Path) → mine G p ≡ mine R p) → ((p : Path) → mine H p ≡ mine R p) → AtEntries R G → AtEntries R H → G ≡ H

-- where a task makes an event inside a block, the block's opener has not left it
abbrev pub StillOpen : Type 0
StillOpen = (P : Program) → Disciplined P → (R : Run) (e : Event) → Legal P (e ∷ R) → (o : Path) (E : List Effect) → standing R e.path ≡ Inside o E
    → (n : ℕ) × (hold (mine R o) ≡ In_block n E)

-- its deterministic constructs can be moved, where its levels are guarded
pub record IsMoved (P : Program) (R : Run) : Type 0 where
  pub rearranges : Rearranges P R (move R)
  pub after_forks : AfterForks R (move R)

abbrev pub Moving : Type 0
Moving = (P : Program) → Disciplined P → Known P → (R : Run) → Legal P R → LevelsGuarded P.rule R → IsMoved P R

-- there is one run with the events of R, rightly answered, that has each construct's events directly after its fork, branch after
-- branch, and all else in its order
abbrev pub OneMoved : Type 0
OneMoved = (P : Program) → Disciplined P → InTurn P → (R G H : Run) → Faithful P R → Faithful P G → Faithful P H
    → ((p : Path) → mine G p ≡ mine R p) → ((p : Path) → mine H p ≡ mine R p) → AfterForks R G → AfterForks R H → G ≡ H

-- one rule lets by what another does
abbrev pub Weaker : Rule → Rule → Type 0
Weaker weak strong = (F E : List Effect) → strong F E ≡ true → weak F E ≡ true

-- a run that is legal by a stronger rule is moved to one that is legal by the weaker
abbrev pub MovingBy : Type 0
MovingBy = (P : Program) (weak : Rule) → Weaker weak P.rule → Disciplined P → Known (with_rule weak P) → (R : Run) → Legal P R → LevelsGuarded weak R
    → IsMoved (with_rule weak P) R

-- so to one that is legal by the rule that leaves effects on local regions aside, where that is the weaker one
abbrev pub MovingInside : Type 0
MovingInside = (P : Program) → Weaker (leaving_locals P.rule) P.rule → Disciplined P → Known (with_rule (leaving_locals P.rule) P)
    → (R : Run) → Legal P R → LevelsGuarded (leaving_locals P.rule) R → IsMoved (with_rule (leaving_locals P.rule) P) R

-- a run whose root has ended is moved to one that is legal by a weaker rule, where its conflicts are guarded on one level by its own rule, and
-- the weaker one lets blocks on two levels by whose tasks part at an nd construct. Of blocks of a deterministic construct nothing is
-- asked: in the moved run its branches come one after the other
abbrev pub MovingEnded : Type 0
MovingEnded = (P : Program) (weak : Rule) → Weaker weak P.rule → Disciplined P → Known (with_rule anything P) → (R : Run) (x : Ending) → Legal P R
    → Ended R [] x → AccessesLevelled P.rule R → EntriesLet weak R → IsMoved (with_rule weak P) R

-- gathered and then moved, R is rearranged, each construct's events stand directly after its fork, branch after branch, and all else as it
-- stands gathered; and each block's events still stand together
pub record IsArranged (P : Program) (R : Run) : Type 0 where
  pub rearranges : Rearranges P R (move (gather R))
  pub after_forks : AfterForks (gather R) (move (gather R))
  pub together : Together R (move (gather R))

-- so it is where the run can be gathered, and the gathered run moved to one that is legal by another rule
abbrev pub Arranging : Type 0
Arranging = (P : Program) (rule : Rule) → Disciplined P → InTurn P → (R : Run) → Legal P R → IsGathered P R → IsMoved (with_rule rule P) (gather R)
    → IsArranged (with_rule rule P) R
