-- What the tool answers to the text of a trace, and what it records.
use Rattle.std.specs.Prelude.{ℕ, ◌≡◌, ◌<◌, ◌≤◌, List, length, drop, Some}
use Rattle.lang_base.specs.declared.place.Place.{Place}
use Rattle.lang_base.specs.declared.refusal.Kind.TheVariants.{TooLong, Schedule}
use Rattle.lang_base.specs.declared.refusal.Kind.TheVariants.{Trace as no_trace_kind}
use Rattle.lang_base.specs.declared.refusal.Refusal.{Refusal}
use Rattle.lang_typed.specs.Plain.{PlainProgram}
use Rattle.tool_trace.specs.Reading.{IsMisfit, IsTrace}
use Rattle.tool_trace.specs.Runs.{line_of}
use Rattle.tool_trace.specs.declared.reading.Trace.{Trace}
use Rattle.exec_run.specs.Replays.{IsFollowed}
use Rattle.exec_run.specs.declared.recorded.Recorded.{Recorded}
use Rattle.exec_run.specs.declared.replaying.Replayed.TheVariants as replayed
use Rattle.tool_front.specs.Front.{IsFault}
use Rattle.tool_words.specs.declared.verdict.Verdict.TheVariants.{Refused, Ran}
use Rattle.tool_top.specs.declared.answered.Answered.{Answered}
use Rattle.tool_top.specs.Answer.{IsAcceptedAs, max_text, max_trace, only, refused_at, refused_at_start}

-- the text of the program that a trace holds
abbrev pub program_of : List ℕ → Trace → List ℕ
program_of bytes trace = drop trace.from bytes

-- an accepted program has followed the schedule of a trace: a run has come out by it, or a number of it can't be followed
pub data IsReplayOf (trace : Trace) (typed : PlainProgram) (answered : Answered) : Type 0 where
  ran : (r : Recorded) → IsFollowed typed trace.limits trace.arg trace.schedule (replayed.Ran r) → answered ≡ record { verdict = Ran r.outcome; recorded = Some r.record } →
      IsReplayOf trace typed answered
  unfit : (at : ℕ) → IsFollowed typed trace.limits trace.arg trace.schedule (replayed.Unfit at) → answered ≡ only (refused_at Schedule (line_of trace.schedule at)) → IsReplayOf trace typed answered

-- the answer to bytes that are a trace: its program is too long, or has a first fault, or follows its schedule
pub data IsAnswerOnTrace (bytes : List ℕ) (trace : Trace) (answered : Answered) : Type 0 where
  long_program : max_text < length (program_of bytes trace) → answered ≡ only (refused_at_start TooLong) → IsAnswerOnTrace bytes trace answered
  faulty : (refusal : Refusal) → length (program_of bytes trace) ≤ max_text → IsFault (program_of bytes trace) refusal → answered ≡ only (Refused refusal)
      → IsAnswerOnTrace bytes trace answered
  followed : (place : Place) (typed : PlainProgram) → IsAcceptedAs (program_of bytes trace) place typed → IsReplayOf trace typed answered → IsAnswerOnTrace bytes trace answered

-- the answer to any bytes, of which a replay is asked
pub data IsReplayed (bytes : List ℕ) (answered : Answered) : Type 0 where
  too_long : max_trace < length bytes → answered ≡ only (refused_at_start TooLong) → IsReplayed bytes answered
  no_trace : (line : ℕ) → length bytes ≤ max_trace → IsMisfit bytes line → answered ≡ only (refused_at no_trace_kind line) → IsReplayed bytes answered
  of_trace : (trace : Trace) → length bytes ≤ max_trace → IsTrace bytes trace → IsAnswerOnTrace bytes trace answered → IsReplayed bytes answered

-- there is one verdict at most on any bytes of which a replay is asked, and one answer for each run that was recorded
abbrev pub OneReplay : Type 0
OneReplay =
    (bytes : List ℕ) (first second : Answered) → IsReplayed bytes first → IsReplayed bytes second
    → (first.verdict ≡ second.verdict) × (first.recorded ≡ second.recorded → first ≡ second)
