-- What the answer to an accepted text comes to by the source alone: what the promise of the public call is proved by.
use Rattle.std.specs.Prelude.{◌≡◌, ◌≤◌, ℤ, FitsSigned, false, List, Some, None, ℕ, length, reverse}
use Rattle.std.specs.Int.{w32}
use Rattle.lang_base.specs.declared.outcome.Limits.{Limits}
use Rattle.lang_base.specs.declared.outcome.Outcome.{Outcome}
use Rattle.lang_base.specs.declared.place.Place.{Place}
use Rattle.lang_typed.specs.Names.{ProgramNames}
use Rattle.lang_typed.specs.Plain.{PlainProgram}
use Rattle.lang_typed.specs.WellTyped.{WellTyped}
use Rattle.syntax_tree.specs.declared.class.Program.{Program}
use Rattle.syntax_means.specs.Accepts.{Accepts, HasTree}
use Rattle.syntax_means.specs.Declares.{names_in}
use Rattle.body_infer.specs.PostFixpoint.{IsInferred}
use Rattle.body_infer.specs.Kept.{Keeping}
use Rattle.sound_infer.specs.Laws.{program_inferred}
use Rattle.runs_program.specs.Steps.{stepped}
use Rattle.runs_theorem.specs.Guarantee.{elision}
use Rattle.exec_run.specs.declared.recorded.Recorded.{Recorded}
use Rattle.exec_run.specs.Replays.{IsFollowed}
use Rattle.exec_run.specs.Run.{ComesOut}
use Rattle.exec_run.specs.declared.replaying.Replayed.TheVariants.{Halted}
use Rattle.exec_run.specs.declared.replaying.Replayed.TheVariants as replayed
use Rattle.exec_machine.specs.declared.made_event.MadeEvent.{MadeEvent}
use Rattle.exec_run.specs.Events.{AreEvents}
use Rattle.exec_run.specs.declared.showing.Shown.{Shown}
use Rattle.exec_run.specs.declared.showing.Shown.TheVariants.{Made, Unfit}
use Rattle.exec_run.specs.declared.showing.Shown.TheVariants as shown
use Rattle.tool_front.specs.Front.{AreFieldNames, AreNames}
use Rattle.tool_front.specs.Judging.{field_names_in}
use Rattle.tool_trace.specs.Reading.{AreLimits}
use Rattle.tool_words.specs.declared.job.Job.{Job}
use Rattle.tool_words.specs.declared.key.Mode.TheVariants as mode
use Rattle.tool_words.specs.declared.verdict.Verdict.TheVariants.{Ran}
use Rattle.tool_top.specs.declared.answered.Answered.{Answered}
use Rattle.tool_top.specs.Answer.{IsAcceptedAs, IsElided, IsRan, IsRunBy, IsWithin, limits_of, max_text, only, verdict_of}
use Rattle.tool_top.specs.Events.{AreEventsOf, recorded_run}
use Rattle.tool_top.specs.Guarantee.{ComesOutBy, elision_for}
use Rattle.tool_top.specs.Refusing.{RefusalsAreRight}
use Rattle.tool_top.specs.Rounds.{IsByRounds}

-- the verdict is on the program's serial elision, whatever schedule was made, by however many rounds
pub record VerdictIsElision (job : Job) (text : List ℕ) (typed : PlainProgram) (answered : Answered) : Type 0 where
  pub schedule : List ℕ
  pub rounds : ℕ
  pub is : answered.verdict ≡ verdict_of job text schedule rounds (elision_for job typed)

-- on the job's argument and within its limits the schedule that is recorded leads to a run that comes out as the verdict says, in rounds where these
-- were asked
pub record VerdictIsReduced (job : Job) (text : List ℕ) (typed : PlainProgram) (well_typed : WellTyped typed) (answered : Answered) : Type 0 where
  pub made : Recorded
  pub is : answered ≡ record { verdict = verdict_of job text made.record.machine.schedule made.record.rounds made.outcome; recorded = Some made.record }
  pub comes : ComesOutBy typed well_typed (limits_of job) job.arg made.record.machine.schedule made.outcome
  pub in_rounds : job.mode ≡ mode.Rounds → IsByRounds (stepped typed job.arg) (limits_of job) made.record.rounds (reverse made.record.machine.schedule)

-- a run that has followed a schedule is reduced, inside nd constructs too, and without them it comes out as the elision
pub record FollowsReduced (typed : PlainProgram) (well_typed : WellTyped typed) (limits : Limits) (argument : ℤ) (schedule : List ℕ) (made : Recorded) : Type 0 where
  pub by_schedule : made.record.machine.schedule ≡ schedule
  pub comes : ComesOutBy typed well_typed limits argument schedule made.outcome
  pub elided : typed.uses_nd ≡ false → made.outcome ≡ elision typed limits argument

-- a run that was made is reduced, inside nd constructs too, and without them it comes out as the elision; and the events that its schedule makes
-- are those of the run of the source
pub record MadeReduced (job : Job) (typed : PlainProgram) (well_typed : WellTyped typed) (made : Recorded) : Type 0 where
  pub comes : ComesOutBy typed well_typed (limits_of job) job.arg made.record.machine.schedule made.outcome
  pub elided : typed.uses_nd ≡ false → made.outcome ≡ elision_for job typed
  pub are_events : (events : List MadeEvent) → AreEvents typed (limits_of job) job.arg made.record.machine.schedule (Made events)
      → AreEventsOf (recorded_run comes.reduced.finished) events

-- a schedule makes its events, and neither a number is unfit nor can the run not go on
abbrev pub IsMade : Shown → Type 0
IsMade (Made events) = Unit {0}
IsMade (Unfit at) = ⊥
IsMade shown.Halted = ⊥

-- a run in the job's mode comes out, and so does the run in which the greatest ready task always goes on
pub record GoesOn (job : Job) (typed : PlainProgram) : Type 0 where
  pub runs : IsRunBy job.mode typed (limits_of job) job.arg job.workers None → ⊥
  pub greedily : ComesOut typed (limits_of job) job.arg None → ⊥

-- What is accepted is what the text means, and well typed, and a run of it comes out. Where it has no nd construct a run of it is answered by its elision, by any number of workers, in
-- any order; with nd constructs too by a run that is reduced. And an elision is answered by the elision, as which the run comes out
-- in which the greatest ready task always goes on. With the summaries that are inferred it is well typed too.
pub record KeepsGuarantee : Type 0 where
  pub means : (text : List ℕ) (place : Place) (typed : PlainProgram) → IsAcceptedAs text place typed → (tree : Program) × Accepts text tree typed
  pub names : (text : List ℕ) (names : ProgramNames) (tree : Program) → length text ≤ max_text → AreNames text names → HasTree text tree → names ≡ names_in tree
  pub fields : (text : List ℕ) (fields : List (List (List ℕ))) (tree : Program) → AreFieldNames text fields → HasTree text tree → fields ≡ field_names_in tree
  pub typed_well : (text : List ℕ) (place : Place) (typed : PlainProgram) → IsAcceptedAs text place typed → WellTyped typed
  pub goes_on : (job : Job) (text : List ℕ) (place : Place) (typed : PlainProgram) → IsWithin job → IsAcceptedAs text place typed → GoesOn job typed
  -- also by a schedule, as far as it can be followed
  pub follows : (text : List ℕ) (place : Place) (typed : PlainProgram) (limits : Limits) (argument : ℤ) (schedule : List ℕ) → IsAcceptedAs text place typed → AreLimits limits → FitsSigned w32 argument
      → IsFollowed typed limits argument schedule Halted → ⊥
  pub replay : (text : List ℕ) (place : Place) (typed : PlainProgram) (limits : Limits) (argument : ℤ) (schedule : List ℕ) (made : Recorded) → IsAcceptedAs text place typed → AreLimits limits
      → FitsSigned w32 argument → IsFollowed typed limits argument schedule (replayed.Ran made) → (well_typed : WellTyped typed) → FollowsReduced typed well_typed limits argument schedule made
  -- and where it can't be, the run of the source can't go on
  pub unfit : RefusalsAreRight
  pub run : (job : Job) (text : List ℕ) (place : Place) (typed : PlainProgram) (answered : Answered) → IsWithin job → IsAcceptedAs text place typed
      → typed.uses_nd ≡ false → IsRan job text typed answered → VerdictIsElision job text typed answered
  pub reduce : (job : Job) (text : List ℕ) (place : Place) (typed : PlainProgram) (answered : Answered) → IsWithin job → IsAcceptedAs text place typed
      → IsRan job text typed answered → (well_typed : WellTyped typed) → VerdictIsReduced job text typed well_typed answered
  -- so of a run whose events are shown, and its schedule makes them
  pub made : (job : Job) (text : List ℕ) (place : Place) (typed : PlainProgram) (made : Recorded) → IsWithin job → IsAcceptedAs text place typed
      → IsRunBy job.mode typed (limits_of job) job.arg job.workers (Some made) → (well_typed : WellTyped typed) → MadeReduced job typed well_typed made
  pub shows : (job : Job) (text : List ℕ) (place : Place) (typed : PlainProgram) (made : Recorded) (shown : Shown) → IsWithin job → IsAcceptedAs text place typed
      → IsRunBy job.mode typed (limits_of job) job.arg job.workers (Some made) → AreEvents typed (limits_of job) job.arg made.record.machine.schedule shown → IsMade shown
  pub elide : (job : Job) (text : List ℕ) (place : Place) (typed : PlainProgram) (answered : Answered) → IsWithin job → IsAcceptedAs text place typed
      → IsElided job typed answered → answered ≡ only (Ran (elision_for job typed))
  pub greedy : (job : Job) (text : List ℕ) (place : Place) (typed : PlainProgram) (outcome : Outcome) → IsWithin job → IsAcceptedAs text place typed
      → ComesOut typed (limits_of job) job.arg (Some outcome) → outcome ≡ elision_for job typed
  pub summaries : (text : List ℕ) (place : Place) (typed : PlainProgram) (kept : Keeping) → IsAcceptedAs text place typed → IsInferred typed kept → WellTyped (program_inferred kept typed)
