-- The serial elision among the legal runs, and that each of them comes out as it does.
use Rattle.std.specs.Prelude.{ℕ, ℤ, ◌≡◌, ◌≤◌, List, []}
use Rattle.lang_typed.specs.Plain.{PlainProgram}
use Rattle.lang_meaning.specs.Actions.{Ending as EndingOf}
use Rattle.lang_meaning.specs.Elision.{elided}
use Rattle.lang_meaning.specs.Outcomes.{Came as CameIn, Limited as LimitedIn}
use Rattle.runs_theory.specs.Actions.{Ending}
use Rattle.runs_theory.specs.Blocks.{Legal}
use Rattle.runs_theory.specs.Laws.{AllFree}
use Rattle.runs_theory.specs.Meaning.{Known}
use Rattle.runs_theory.specs.Objects.{Name}
use Rattle.runs_theory.specs.Order.{Comes, InOrder, Outcome}
use Rattle.runs_theory.specs.Runs.{Ended, Run, cells_of, steps_of}
use Rattle.runs_theory.specs.Schedules.{Finished, Greedy, Limits, Within}
use Rattle.runs_program.specs.Steps.{stepped}
use Rattle.runs_elision.specs.Renamed.{Distinct, HasNames, renamed}

-- this is the outcome of the elision, with a name for each of its objects
pub record IsElided (P : PlainProgram) (arg : ℤ) (L : Limits) (o : Outcome) : Type 0 where
  pub names : List Name
  pub distinct : Distinct names
  pub named : HasNames names (elided P arg L)
  pub is : o ≡ renamed names (elided P arg L)

-- a run comes out within the limits, as the elision does; or it is over a limit, and so is the elision
pub data ComesOutAsElided (P : PlainProgram) (arg : ℤ) (L : Limits) (R : Run) : Type 0 where
  in_limits : (o : Outcome) → Comes (stepped P arg) R o → Within (stepped P arg) L R → IsElided P arg L o → ComesOutAsElided P arg L R
  over_limits : (Within (stepped P arg) L R → ⊥) → elided P arg L ≡ LimitedIn L.steps L.cells → ComesOutAsElided P arg L R

-- the elision is a legal run, in the order of elision: its ending, its output up to the first trap, its steps and its cells
-- are those of that run
abbrev pub ElisionIsLegal : Type 0
ElisionIsLegal = (P : PlainProgram) (arg : ℤ) (L : Limits) → (R : Run) × Legal (stepped P arg) R × InOrder R × Greedy (stepped P arg) R
    × ComesOutAsElided P arg L R

-- taken as a schedule it is a finished one, limits included
abbrev pub ElisionIsScheduled : Type 0
ElisionIsScheduled = (P : PlainProgram) (arg : ℤ) (L : Limits) → (ks : List ℕ) × (o : Outcome) × Finished (stepped P arg) L ks o × IsElided P arg L o

-- it is the run in which the ready task with the greatest number always goes on, in any program: each such run whose root has
-- ended comes out as the elision
abbrev pub GreedyIsElided : Type 0
GreedyIsElided = (P : PlainProgram) (arg : ℤ) (L : Limits) (R : Run) (x : Ending) → Legal (stepped P arg) R → Greedy (stepped P arg) R → Ended R [] x
    → ComesOutAsElided P arg L R

-- and where such a run is over a limit so is the elision
abbrev pub GreedyOverIsLimited : Type 0
GreedyOverIsLimited = (P : PlainProgram) (arg : ℤ) (L : Limits) (R : Run) → Legal (stepped P arg) R → Greedy (stepped P arg) R
    → (Within (stepped P arg) L R → ⊥) → elided P arg L ≡ LimitedIn L.steps L.cells

-- where no legal run has unordered conflicts, each whose root has ended comes out as the elision
abbrev pub RunsAreElided : Type 0
RunsAreElided = (P : PlainProgram) (arg : ℤ) → AllFree (stepped P arg) → (L : Limits) (R : Run) (x : Ending) → Legal (stepped P arg) R → Ended R [] x
    → ComesOutAsElided P arg L R

-- so does each finished schedule, limits included
abbrev pub SchedulesAreElided : Type 0
SchedulesAreElided = (P : PlainProgram) (arg : ℤ) → AllFree (stepped P arg) → (L : Limits) (ks : List ℕ) (o : Outcome) → Finished (stepped P arg) L ks o
    → IsElided P arg L o

-- and where the elision ends within some limits no legal run, ended or not, costs more
abbrev pub NoneCostsMoreThanElision : Type 0
NoneCostsMoreThanElision = (P : PlainProgram) (arg : ℤ) → AllFree (stepped P arg) → (L : Limits) (x : EndingOf ℕ) (output : List ℕ) (steps cells : ℕ)
    → elided P arg L ≡ CameIn x output steps cells → (R : Run) → Legal (stepped P arg) R → (steps_of R ≤ steps) × (cells_of (stepped P arg) R ≤ cells)

-- in a legal run of any typed program, what a task next acts on is there
abbrev pub NamesAreKnown : Type 0
NamesAreKnown = (P : PlainProgram) (arg : ℤ) → Known (stepped P arg)
