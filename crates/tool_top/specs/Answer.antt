-- What the tool answers to a job and a text, and what it records.
use Rattle.std.specs.Int.{w32}
use Rattle.std.specs.Prelude.{ℕ, ℤ, FitsSigned, ◌≡◌, ◌+◌, ◌<◌, ◌≤◌, Bool, true, false, min, max, List, fold, length, Option, Some, None}
use Rattle.lang_base.specs.declared.outcome.Limits.{Limits}
use Rattle.lang_base.specs.declared.outcome.Outcome.{Outcome}
use Rattle.lang_base.specs.declared.place.Place.{Place}
use Rattle.lang_base.specs.declared.refusal.Kind.{Kind}
use Rattle.lang_base.specs.declared.refusal.Kind.TheVariants.{TooLong}
use Rattle.lang_base.specs.declared.refusal.Refusal.{Refusal}
use Rattle.lang_typed.specs.Names.{ProgramNames}
use Rattle.lang_typed.specs.Plain.{PlainProgram}
use Rattle.code_compile.specs.Titles.{titles_of}
use Rattle.exec_walker.specs.Outcome.{IsElided as IsElisionOf}
use Rattle.code_scheme.specs.Whole.{compiled}
use Rattle.body_infer.specs.PostFixpoint.{IsInferred}
use Rattle.body_infer.specs.Kept.{Keeping, program_kept}
use Rattle.body_infer.specs.Lines.{lines_of}
use Rattle.code_listing.specs.Listing.{plain_listing}
use Rattle.exec_machine.specs.declared.made_event.MadeEvent.{MadeEvent}
use Rattle.exec_run.specs.Events.{AreEvents}
use Rattle.exec_run.specs.Run.{IsRun}
use Rattle.exec_run.specs.Rounding.{ComesByRounds}
use Rattle.exec_run.specs.Seeding.{ComesBySeed}
use Rattle.exec_run.specs.declared.recorded.Recorded.{Recorded}
use Rattle.exec_run.specs.declared.showing.Shown.TheVariants.{Made}
use Rattle.tool_trace.specs.events.Names.{Spelling}
use Rattle.tool_trace.specs.events.Text.{events_text}
use Rattle.tool_trace.specs.Text.{trace_text}
use Rattle.tool_front.specs.Front.{AreFieldNames, AreNames, IsPassed, IsFault}
use Rattle.tool_words.specs.declared.command.Command.{Command}
use Rattle.tool_words.specs.declared.command.Command.TheVariants as command
use Rattle.tool_words.specs.Jobs.{IsInRange}
use Rattle.tool_words.specs.Reports.{status_of}
use Rattle.tool_words.specs.declared.job.Job.{Job}
use Rattle.tool_words.specs.declared.key.Mode.{Mode}
use Rattle.tool_words.specs.declared.key.Mode.TheVariants as mode
use Rattle.tool_words.specs.declared.verdict.Figures.{Figures}
use Rattle.tool_words.specs.declared.verdict.Verdict.{Verdict}
use Rattle.tool_words.specs.declared.verdict.Verdict.TheVariants.{Refused, Ran, Listed, Accepted, Demo, Traced, Shown, Effects, Cost}
use Rattle.tool_top.specs.declared.answered.Answered.{Answered}

-- the most bytes that a text may have
abbrev pub max_text : ℕ
max_text = 1048576

-- and a trace, which holds a program's text
abbrev pub max_trace : ℕ
max_trace = 67108864

-- the most bytes that are read for a job of this command
abbrev pub most_bytes : Command → ℕ
most_bytes command.Replay = max_trace
most_bytes _ = max_text

-- a verdict, where no run was recorded
abbrev pub only : Verdict → Answered
only verdict = record { verdict = verdict; recorded = None }

-- a refusal at the first byte of a line, as far as lines are counted
abbrev pub refused_at : Kind → ℕ → Verdict
refused_at kind line = Refused (record { kind = kind; place = record { line = min line 4294967295; col = 1 } })

-- a refusal of the text as a whole, reported at its first byte
abbrev pub refused_at_start : Kind → Verdict
refused_at_start kind = refused_at kind 1

abbrev pub limits_of : Job → Limits
limits_of job = record { steps = job.steps; cells = job.cells }

-- a run is asked, and not its elision
abbrev pub asks_run : Command → Bool
asks_run command.Run = true
asks_run command.Demo = true
asks_run command.Trace = true
asks_run command.Cost = true
asks_run _ = false

-- a run is made: it is asked, or its events are
abbrev pub makes_run : Command → Bool
makes_run command.Run = true
makes_run command.Demo = true
makes_run command.Trace = true
makes_run command.Cost = true
makes_run command.Events = true
makes_run _ = false

-- the elision of an accepted program, of which nothing is recorded
pub record IsElided (job : Job) (typed : PlainProgram) (answered : Answered) : Type 0 where
  pub outcome : Outcome
  pub comes : IsElisionOf typed job.arg (limits_of job) outcome
  pub is : answered ≡ only (Ran outcome)

-- how many tasks there are up to the greatest of a schedule: in a run that has ended these are all that have begun
abbrev pub tasks_of : List ℕ → ℕ
tasks_of schedule = fold (λ most task. max most (task + 1)) 0 schedule

-- what a run is made of, by its schedule and the number of its rounds
abbrev pub figures_of : List ℕ → ℕ → Figures
figures_of schedule rounds = record { events = length schedule; tasks = tasks_of schedule; rounds = rounds }

-- The verdict on a run of a text, by its schedule, the number of its rounds, and how it came out: a demo says what it made, a trace is reported in place
-- of a report, and its cost beside it
abbrev pub verdict_by : Command → Job → List ℕ → List ℕ → ℕ → Outcome → Verdict
verdict_by command.Demo job text schedule rounds outcome = Demo job.n (length text) outcome
verdict_by command.Trace job text schedule rounds outcome = Traced outcome (trace_text job.arg (limits_of job) schedule text)
verdict_by command.Cost job text schedule rounds outcome = Cost outcome (figures_of schedule rounds)
verdict_by _ job text schedule rounds outcome = Ran outcome

abbrev pub verdict_of : Job → List ℕ → List ℕ → ℕ → Outcome → Verdict
verdict_of job text schedule rounds outcome = verdict_by job.command job text schedule rounds outcome

-- the run that a mode asks for, with its record: by workers, or of which the caller makes all events, in rounds or by a seed; or that there is none
abbrev pub IsRunBy : Mode → PlainProgram → Limits → ℤ → ℕ → Option Recorded → Type 0
IsRunBy mode.Steps typed limits argument workers = IsRun typed limits argument workers
IsRunBy mode.Rounds typed limits argument workers = ComesByRounds typed limits argument workers
IsRunBy (mode.Seeded seed) typed limits argument workers = ComesBySeed typed limits argument workers seed

-- the run of an accepted program by the job's mode, with its record
pub record IsRan (job : Job) (text : List ℕ) (typed : PlainProgram) (answered : Answered) : Type 0 where
  pub made : Recorded
  pub run : IsRunBy job.mode typed (limits_of job) job.arg job.workers (Some made)
  pub is : answered ≡ record { verdict = verdict_of job text made.record.machine.schedule made.record.rounds made.outcome; recorded = Some made.record }

-- what is shown of a run in place of its report: its events, and how it came out
abbrev pub shown_verdict : Job → Spelling → List MadeEvent → Outcome → Verdict
shown_verdict job spelling events outcome = Shown outcome (events_text job.arg (limits_of job) spelling events outcome.ending)

-- the run of an accepted program by the job's mode, with its record, and the events that its schedule makes, with the names of the text
pub record IsShown (job : Job) (text : List ℕ) (typed : PlainProgram) (answered : Answered) : Type 0 where
  pub made : Recorded
  pub run : IsRunBy job.mode typed (limits_of job) job.arg job.workers (Some made)
  pub events : List MadeEvent
  pub are_events : AreEvents typed (limits_of job) job.arg made.record.machine.schedule (Made events)
  pub names : ProgramNames
  pub are_names : AreNames text names
  pub fields : List (List (List ℕ))
  pub are_fields : AreFieldNames text fields
  pub is : answered ≡ record { verdict = shown_verdict job (record { program = typed; names = names; fields = fields }) events made.outcome; recorded = Some made.record }

-- the listing of the code of a program, with the names of the text
pub record IsListing (text : List ℕ) (typed : PlainProgram) (answered : Answered) : Type 0 where
  pub names : ProgramNames
  pub are_names : AreNames text names
  pub lists : answered ≡ only (Listed (plain_listing (titles_of typed names) (compiled typed)))

-- the lines of its inferred summaries, with the names of the text
pub record IsSummaries (text : List ℕ) (typed : PlainProgram) (answered : Answered) : Type 0 where
  pub names : ProgramNames
  pub are_names : AreNames text names
  pub kept : Keeping
  pub inferred : IsInferred typed kept
  pub is : answered ≡ only (Effects (lines_of (program_kept kept typed) names))

-- the answer to a job on the accepted program of a text
pub data IsAnswerOn (job : Job) (text : List ℕ) (typed : PlainProgram) (answered : Answered) : Type 0 where
  to_check : job.command ≡ command.Check → answered ≡ only Accepted → IsAnswerOn job text typed answered
  to_run : asks_run job.command ≡ true → IsRan job text typed answered → IsAnswerOn job text typed answered
  to_events : job.command ≡ command.Events → IsShown job text typed answered → IsAnswerOn job text typed answered
  to_elide : job.command ≡ command.Elide → IsElided job typed answered → IsAnswerOn job text typed answered
  to_list : job.command ≡ command.«List» → IsListing text typed answered → IsAnswerOn job text typed answered
  to_effects : job.command ≡ command.Effects → IsSummaries text typed answered → IsAnswerOn job text typed answered

-- the text isn't too long, and is accepted as this typed program, of which the first token stands at the place
abbrev pub IsAcceptedAs : List ℕ → Place → PlainProgram → Type 0
IsAcceptedAs text place typed = (length text ≤ max_text) × IsPassed text place typed

-- each number of the job is in the range of its key
abbrev pub IsWithin : Job → Type 0
IsWithin job = IsInRange job × FitsSigned w32 job.arg

-- the answer to a text: it is too long, it has a fault, or it is accepted
pub data IsAnswer (job : Job) (text : List ℕ) : Answered → Type 0 where
  too_long : max_text < length text → IsAnswer job text (only (refused_at_start TooLong))
  faulty : (refusal : Refusal) → length text ≤ max_text → IsFault text refusal → IsAnswer job text (only (Refused refusal))
  of_program : (place : Place) (typed : PlainProgram) (answered : Answered) → IsAcceptedAs text place typed → IsAnswerOn job text typed answered → IsAnswer job text answered

-- answers to a command are the same; those that show events are of runs with one status
abbrev pub AreAlike : Command → Answered → Answered → Type 0
AreAlike command.Events first second = status_of first.verdict ≡ status_of second.verdict
AreAlike _ first second = first ≡ second

-- there is one answer at most to a job on a text, for each run that was recorded; of one that shows events it is said of the status
abbrev pub OneAnswer : Type 0
OneAnswer = (job : Job) (text : List ℕ) (first second : Answered) → IsWithin job → IsAnswer job text first → IsAnswer job text second → first.recorded ≡ second.recorded → AreAlike job.command first second
