-- The laws of runs, as statements.
use Rattle.std.specs.Prelude.{ℕ, ◌⊎◌, ◌≡◌, ◌≤◌, ◌+◌, ◌*◌, List, [], ◌∷◌, ◌++◌, length}
use Rattle.runs_theory.specs.Objects.{Path}
use Rattle.runs_theory.specs.Actions.{Ending, Program}
use Rattle.runs_theory.specs.Runs.{Event, Faithful, Run, Upto, mine, count, total, Ended}
use Rattle.runs_theory.specs.Blocks.{Allowed, Legal}
use Rattle.runs_theory.specs.Standing.{Valid}
use Rattle.runs_theory.specs.Order.{Agree, Before, Comes, Free, InOrder, IsPlain, Outcome, Passes, Related}
use Rattle.runs_theory.specs.Meaning.{Disciplined, InTurn, Known, Lively, Paced}
use Rattle.runs_theory.specs.Schedules.{Finished, Greatest, Greedy, Limits, Ran, Ready, Within}

-- the rule of open blocks as it is written and the one by paths and own events allow the same runs
abbrev pub BlocksByStanding : Type 0
BlocksByStanding = (P : Program) → Disciplined P → (R : Run) → (Legal P R → Valid P R) × (Valid P R → Legal P R)

-- blocks aside, a legal run is one whose events came rightly
abbrev pub LegalIsFaithful : Type 0
LegalIsFaithful = (P : Program) (R : Run) → Legal P R → Faithful P R

-- what is before an event in every run stands before it in each legal run that has both
abbrev pub Respects : Type 0
Respects = (P : Program) → Disciplined P → (R X Y : Run) (x y : Event) → Legal P R → Upto (x ∷ X) R → Upto (y ∷ Y) R → Passes y.act
    → Before x.path (count X x.path) y.path (count Y y.path) → Upto (x ∷ X) Y

-- two events of a legal run that are neither forks nor begins nor joins are one, or before each other, or unordered
abbrev pub OrderOf : Type 0
OrderOf = (P : Program) → Disciplined P → (R X Y : Run) (x y : Event) → Legal P R → Upto (x ∷ X) R → Upto (y ∷ Y) R → IsPlain x.act → IsPlain y.act
    → Related x.path (count X x.path) y.path (count Y y.path)

-- of two legal runs that agree so far: what stands in the one, before the next event of the other, stands in the other too, and
-- its task had made the same events
abbrev pub Present : Type 0
Present = (P : Program) → Disciplined P → (R S W : Run) (w f : Event) → Legal P R → Legal P (f ∷ S) → Agree R S → Upto (w ∷ W) R → Passes f.act
    → Before w.path (count W w.path) f.path (count S f.path) → (B : Run) × Upto (w ∷ B) S × (mine B w.path ≡ mine W w.path)

-- of two legal runs without unordered conflicts each task's events in the one are a beginning of those in the other, or the
-- other way round, with the same ticks, actions and answers
abbrev pub Comparison : Type 0
Comparison = (P : Program) → Disciplined P → (R S : Run) → Legal P R → Legal P S → Free R → Free S → Agree R S

-- so of two whose root has ended each task has made the same events, they come out the same, and any weight of events sums up
-- to the same
abbrev pub SameEvents : Type 0
SameEvents = (P : Program) → Disciplined P → (R S : Run) (x y : Ending) → Legal P R → Legal P S → Free R → Free S → Ended R [] x → Ended S [] y
    → (x ≡ y) × ((p : Path) → mine R p ≡ mine S p) × ((w : Event → ℕ) → total w R ≡ total w S)

abbrev pub SameOutcome : Type 0
SameOutcome = (P : Program) → Disciplined P → (R S : Run) (o q : Outcome) → Legal P R → Legal P S → Free R → Free S → Comes P R o → Comes P S q → o ≡ q

-- and no legal run, ended or not, costs more than one whose root has ended
abbrev pub NoneCostsMore : Type 0
NoneCostsMore = (P : Program) → Disciplined P → (R S : Run) (x : Ending) → Legal P R → Legal P S → Free R → Free S → Ended S [] x → (w : Event → ℕ)
    → total w R ≤ total w S

-- a legal run whose root has ended comes out in one way
abbrev pub EachComesOut : Type 0
EachComesOut = (P : Program) (R : Run) (x : Ending) → Legal P R → Ended R [] x → (o : Outcome) × Comes P R o

abbrev pub OneOutcome : Type 0
OneOutcome = (P : Program) → Disciplined P → (R : Run) (o q : Outcome) → Legal P R → Comes P R o → Comes P R q → o ≡ q

-- and nothing comes after it
abbrev pub NothingAfter : Type 0
NothingAfter = (P : Program) → Disciplined P → (R : Run) (x : Ending) (e : Event) → Legal P R → Ended R [] x → Allowed P R e → ⊥

-- as long as the root has not ended some task is ready
abbrev pub SomeReady : Type 0
SomeReady = (P : Program) → Disciplined P → Lively P → Known P → (R : Run) → Legal P R → ((x : Ending) → Ended R [] x → ⊥) → (k : ℕ) × (e : Event)
    × Ready P R k e

-- a task that is ready has one next event
abbrev pub OneNext : Type 0
OneNext = (P : Program) → Disciplined P → (R : Run) (k : ℕ) (e f : Event) → Legal P R → Ready P R k e → Ready P R k f → e ≡ f

-- so a schedule records one run, and that run is legal
abbrev pub OneRun : Type 0
OneRun = (P : Program) → Disciplined P → (L : Limits) (ks : List ℕ) (R S : Run) → Ran P L ks R → Ran P L ks S → R ≡ S

abbrev pub RanIsLegal : Type 0
RanIsLegal = (P : Program) (L : Limits) (ks : List ℕ) (R : Run) → Ran P L ks R → Legal P R

-- and each legal run within the limits is recorded by a schedule
abbrev pub EachRecorded : Type 0
EachRecorded = (P : Program) (L : Limits) (R : Run) → Legal P R → Within P L R → (ks : List ℕ) × Ran P L ks R

-- a schedule has at most twice as many numbers as there are steps, and one more; a finished one has at most one more than that
abbrev pub ScheduleIsBounded : Type 0
ScheduleIsBounded = (P : Program) → Disciplined P → Paced P → (L : Limits) (ks : List ℕ) (R : Run) → Ran P L ks R → length ks ≤ 2 * L.steps + 1

abbrev pub FinishedIsBounded : Type 0
FinishedIsBounded = (P : Program) → Disciplined P → Paced P → (L : Limits) (ks : List ℕ) (o : Outcome) → Finished P L ks o → length ks ≤ 2 * L.steps + 2

-- where no legal run has unordered conflicts all finished schedules come out the same, limits included
abbrev pub AllFree : Program → Type 0
AllFree P = (R : Run) → Legal P R → Free R

abbrev pub SchedulesAgree : Type 0
SchedulesAgree = (P : Program) → Disciplined P → AllFree P → (L : Limits) (ks js : List ℕ) (o q : Outcome) → Finished P L ks o → Finished P L js q → o ≡ q

-- each schedule can be carried on to a finished one
abbrev pub EachFinishes : Type 0
EachFinishes = (P : Program) → Disciplined P → Lively P → Known P → Paced P → (L : Limits) (ks : List ℕ) (R : Run) → Ran P L ks R
    → (js : List ℕ) × (o : Outcome) × Finished P L (js ++ ks) o

-- the run in which the ready task with the greatest number always goes on stands in the order of elision
abbrev pub GreatestFirst : Type 0
GreatestFirst = (P : Program) → Disciplined P → Lively P → InTurn P → Known P → (R : Run) → Legal P R → Greedy P R → InOrder R

-- and there is such a run for each limits: until its root has ended, or the next event of the greatest number is over a limit
abbrev pub GreatestFinishes : Type 0
GreatestFinishes = (P : Program) → Disciplined P → Lively P → InTurn P → Known P → Paced P → (L : Limits) → Within P L []
    → (ks : List ℕ) × (R : Run) × Ran P L ks R × Greedy P R
    × (((x : Ending) × Ended R [] x) ⊎ ((e : Event) × (k : ℕ) × Ready P R k e × Greatest P R e × (Within P L (e ∷ R) → ⊥)))
