-- What holds of the runs of every typed program.
use Rattle.std.specs.Prelude.{ℕ, ℤ, ◌≡◌, ◌≤◌, ◌+◌, ◌*◌, List, [], ◌++◌, length}
use Rattle.lang_typed.specs.Plain.{PlainProgram}
use Rattle.runs_theory.specs.Actions.{Ending, Program}
use Rattle.runs_theory.specs.Blocks.{Legal}
use Rattle.runs_theory.specs.Laws.{AllFree}
use Rattle.runs_theory.specs.Meaning.{Disciplined, InTurn, Known, Lively, Paced}
use Rattle.runs_theory.specs.Order.{Agree, Comes, Free, InOrder, Outcome}
use Rattle.runs_theory.specs.Runs.{Ended, Event, Run, total}
use Rattle.runs_theory.specs.Schedules.{Finished, Greedy, Limits, Ran}
use Rattle.runs_program.specs.Steps.{stepped}

-- it is such a program as the laws of runs ask for
pub record Keeps (P : Program) : Type 0 where
  pub disciplined : Disciplined P
  pub lively : Lively P
  pub in_turn : InTurn P
  pub paced : Paced P

abbrev pub EachKeeps : Type 0
EachKeeps = (P : PlainProgram) (arg : ℤ) → Keeps (stepped P arg)

-- legal runs without unordered conflicts agree as far as both go
abbrev pub RunsAgree : Type 0
RunsAgree = (P : PlainProgram) (arg : ℤ) (R S : Run) → Legal (stepped P arg) R → Legal (stepped P arg) S → Free R → Free S → Agree R S

-- none of them costs more than one whose root has ended
abbrev pub RunsCostNoMore : Type 0
RunsCostNoMore = (P : PlainProgram) (arg : ℤ) (R S : Run) (x : Ending) → Legal (stepped P arg) R → Legal (stepped P arg) S → Free R → Free S
    → Ended S [] x → (w : Event → ℕ) → total w R ≤ total w S

-- and they come out the same
abbrev pub OutcomesAgree : Type 0
OutcomesAgree = (P : PlainProgram) (arg : ℤ) (R S : Run) (o q : Outcome) → Legal (stepped P arg) R → Legal (stepped P arg) S → Free R → Free S
    → Comes (stepped P arg) R o → Comes (stepped P arg) S q → o ≡ q

-- a finished schedule is at most twice as long as there are steps, and two more
abbrev pub SchedulesAreBounded : Type 0
SchedulesAreBounded = (P : PlainProgram) (arg : ℤ) (L : Limits) (ks : List ℕ) (o : Outcome) → Finished (stepped P arg) L ks o → length ks ≤ 2 * L.steps + 2

-- where no legal run has unordered conflicts all finished schedules come out the same, limits included
abbrev pub SchedulesComeOutTheSame : Type 0
SchedulesComeOutTheSame = (P : PlainProgram) (arg : ℤ) → AllFree (stepped P arg) → (L : Limits) (ks js : List ℕ) (o q : Outcome)
    → Finished (stepped P arg) L ks o → Finished (stepped P arg) L js q → o ≡ q

-- where tasks act on what is there alone, each schedule can be carried on to a finished one
abbrev pub SchedulesFinish : Type 0
SchedulesFinish = (P : PlainProgram) (arg : ℤ) → Known (stepped P arg) → (L : Limits) (ks : List ℕ) (R : Run) → Ran (stepped P arg) L ks R
    → (js : List ℕ) × (o : Outcome) × Finished (stepped P arg) L (js ++ ks) o

-- and the run in which the ready task with the greatest number always goes on stands in the order of elision
abbrev pub GreatestInOrder : Type 0
GreatestInOrder = (P : PlainProgram) (arg : ℤ) → Known (stepped P arg) → (R : Run) → Legal (stepped P arg) R → Greedy (stepped P arg) R → InOrder R
