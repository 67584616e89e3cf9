-- Where a replay refuses a schedule, by the source alone.
use Rattle.std.specs.Prelude.{ℕ, ℤ, ◌≡◌, FitsSigned, List, [], Some, length, reverse, slice_get, take}
use Rattle.std.specs.Int.{w32}
use Rattle.lang_base.specs.declared.outcome.Limits.{Limits}
use Rattle.lang_base.specs.declared.place.Place.{Place}
use Rattle.lang_typed.specs.Plain.{PlainProgram}
use Rattle.exec_run.specs.Replays.{IsFollowed}
use Rattle.exec_run.specs.declared.replaying.Replayed.TheVariants.{Unfit}
use Rattle.runs_program.specs.Steps.{stepped}
use Rattle.runs_theory.specs.Actions.{Ending, Program}
use Rattle.runs_theory.specs.Order.{Outcome}
use Rattle.runs_theory.specs.Runs.{Ended, Event, Run}
use Rattle.runs_theory.specs.Schedules.{Finished, Ran, Ready}
use Rattle.tool_top.specs.Answer.{IsAcceptedAs}
use Rattle.tool_trace.specs.Reading.{AreLimits}

-- the numbers before a place record a run of the source, or have finished one; and the number there is of no task that is ready in that run,
-- or comes after its end, or is missing though the root hasn't ended
pub data CannotGoOn (Q : Program) (L : Limits) (schedule : List ℕ) (at : ℕ) : Type 0 where
  not_ready : (k : ℕ) (R : Run) → slice_get schedule at ≡ Some k → Ran Q L (reverse (take at schedule)) R → ((e : Event) → Ready Q R k e → ⊥) → CannotGoOn Q L schedule at
  finished : (k : ℕ) (o : Outcome) → slice_get schedule at ≡ Some k → Finished Q L (reverse (take at schedule)) o → CannotGoOn Q L schedule at
  too_early : (R : Run) → at ≡ length schedule → Ran Q L (reverse (take at schedule)) R → ((x : Ending) → Ended R [] x → ⊥) → CannotGoOn Q L schedule at

-- the refusal `schedule` is at the first number by which the run of the source can't go on
abbrev pub RefusalsAreRight : Type 0
RefusalsAreRight =
    (text : List ℕ) (place : Place) (typed : PlainProgram) (limits : Limits) (argument : ℤ) (schedule : List ℕ) (at : ℕ) → IsAcceptedAs text place typed
    → AreLimits limits → FitsSigned w32 argument → IsFollowed typed limits argument schedule (Unfit at) → CannotGoOn (stepped typed argument) limits schedule at
