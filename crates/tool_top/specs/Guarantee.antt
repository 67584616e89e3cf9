-- What a call promises of the program that a text means: by the source alone.
use Rattle.std.specs.Prelude.{◌≡◌, ◌⊎◌, ℕ, ℤ, true, false, List, Option, Some, reverse}
use Rattle.lang_base.specs.declared.outcome.Limits.{Limits}
use Rattle.lang_base.specs.declared.outcome.Outcome.{Outcome}
use Rattle.lang_base.specs.declared.refusal.Kind.TheVariants.{Schedule}
use Rattle.lang_base.specs.declared.refusal.Refusal.{Refusal}
use Rattle.lang_typed.specs.Plain.{PlainProgram}
use Rattle.lang_typed.specs.WellTyped.{WellTyped}
use Rattle.syntax_tree.specs.declared.class.Program.{Program}
use Rattle.syntax_means.specs.Accepts.{Accepts}
use Rattle.syntax_means.specs.Declares.{names_in}
use Rattle.body_infer.specs.PostFixpoint.{IsInferred}
use Rattle.body_infer.specs.Kept.{Keeping}
use Rattle.body_infer.specs.Lines.{lines_of}
use Rattle.sound_infer.specs.Laws.{program_inferred}
use Rattle.runs_program.specs.Steps.{stepped}
use Rattle.runs_theorem.specs.Inside.{ComesOutElidedInside}
use Rattle.runs_theorem.specs.Guarantee.{elision}
use Rattle.runs_theorem.specs.Reduced.{ComesOutReduced}
use Rattle.exec_machine.specs.declared.made_event.MadeEvent.{MadeEvent}
use Rattle.exec_run.specs.declared.history.record.Record.{Record}
use Rattle.tool_front.specs.Front.{IsFault}
use Rattle.tool_front.specs.Judging.{field_names_in}
use Rattle.tool_trace.specs.Reading.{IsTrace}
use Rattle.tool_trace.specs.Runs.{line_of}
use Rattle.tool_trace.specs.declared.reading.Trace.{Trace}
use Rattle.tool_words.specs.Jobs.{job as job_of}
use Rattle.tool_words.specs.Reports.{report_of, status_of}
use Rattle.tool_words.specs.declared.command.Command.TheVariants as command
use Rattle.tool_words.specs.declared.job.Job.{Job}
use Rattle.tool_words.specs.declared.key.Mode.TheVariants as mode
use Rattle.tool_words.specs.declared.verdict.Status.{Status}
use Rattle.tool_words.specs.declared.verdict.Status.TheVariants as ended
use Rattle.tool_words.specs.declared.verdict.Verdict.{Verdict}
use Rattle.tool_words.specs.declared.verdict.Verdict.TheVariants.{Refused, Ran, Effects}
use Rattle.tool_top.specs.Answer.{asks_run, limits_of, refused_at, shown_verdict, verdict_of}
use Rattle.tool_top.specs.Call.{Appends, IsTextOf}
use Rattle.tool_top.specs.Events.{AreEventsOf, recorded_run}
use Rattle.tool_top.specs.Refusing.{CannotGoOn}
use Rattle.tool_top.specs.Replaying.{program_of}
use Rattle.tool_top.specs.Rounds.{IsByRounds}

-- a status of a program, and of no refusal
abbrev pub IsProgramStatus : Status → Type 0
IsProgramStatus ended.Done = Unit {0}
IsProgramStatus ended.Trapped = Unit {0}
IsProgramStatus ended.Limited = Unit {0}
IsProgramStatus _ = ⊥

-- the serial elision of a program on the argument of a job, within the job's limits
abbrev pub elision_for : Job → PlainProgram → Outcome
elision_for job typed = elision typed (limits_of job) job.arg

-- a schedule leads to a run of the source, in which values have their types and tasks keep to their effects, whose unordered events that conflict
-- lie in atomic blocks; gathered by blocks it comes out so, and so it does with its deterministic constructs in sequence, where it isn't over a limit
pub record ComesOutBy (typed : PlainProgram) (well_typed : WellTyped typed) (limits : Limits) (argument : ℤ) (schedule : List ℕ) (outcome : Outcome) : Type 0 where
  pub reduced : ComesOutReduced typed well_typed limits argument schedule outcome
  pub inside : ComesOutElidedInside typed limits argument schedule outcome

-- the status is that of the verdict, and its report was written after what was held
abbrev pub IsReported : Verdict → Option (List ℕ) → Option (List ℕ) → Status → Type 0
IsReported verdict before after status = (status ≡ status_of verdict) × Appends before after (report_of verdict)

-- a run is reported by the elision, whatever schedule was made, by however many rounds
pub record ReportsElision (job : Job) (text : List ℕ) (typed : PlainProgram) (before after : Option (List ℕ)) (status : Status) : Type 0 where
  pub schedule : List ℕ
  pub rounds : ℕ
  pub reported : IsReported (verdict_of job text schedule rounds (elision_for job typed)) before after status

-- a run is recorded, on the job's argument and within its limits, and what is reported is how it came out; one that was asked in rounds was made in as
-- many as are recorded
pub record ReportsRun (job : Job) (text : List ℕ) (typed : PlainProgram) (well_typed : WellTyped typed) (before after : Option (List ℕ)) (status : Status) (recorded : Option Record) : Type 0 where
  pub made : Record
  pub is : recorded ≡ Some made
  pub outcome : Outcome
  pub comes : ComesOutBy typed well_typed (limits_of job) job.arg made.machine.schedule outcome
  pub in_rounds : job.mode ≡ mode.Rounds → IsByRounds (stepped typed job.arg) (limits_of job) made.rounds (reverse made.machine.schedule)
  pub reported : IsReported (verdict_of job text made.machine.schedule made.rounds outcome) before after status

-- the lines are reported of the inferred summaries, with which the program is well typed
pub record ReportsSummaries (tree : Program) (typed : PlainProgram) (before after : Option (List ℕ)) (status : Status) : Type 0 where
  pub kept : Keeping
  pub inferred : IsInferred typed kept
  pub well_typed : WellTyped (program_inferred kept typed)
  pub reported : IsReported (Effects (lines_of (program_inferred kept typed) (names_in tree))) before after status

-- a run, or an elision, is asked of a program without nd constructs
abbrev pub AsksElision : Job → PlainProgram → Type 0
AsksElision job typed = ((asks_run job.command ≡ true) × (typed.uses_nd ≡ false)) ⊎ (job.command ≡ command.Elide)

-- There is a text that the job is on, and a well-typed program that it means, and by this is reported what is asked: a run of a program without nd constructs
-- by its serial elision, whatever the workers and their order; of every program by the run that is recorded; and its effects by summaries that may
-- stand in place of the written ones.
pub record ReportsProgram (job : Job) (read left before after : Option (List ℕ)) (status : Status) (recorded : Option Record) : Type 0 where
  pub text : List ℕ
  pub is_text : IsTextOf job read left text
  pub tree : Program
  pub typed : PlainProgram
  pub accepts : Accepts text tree typed
  pub elided : AsksElision job typed → ReportsElision job text typed before after status
  pub run : asks_run job.command ≡ true → ReportsRun job text typed accepts.well_typed before after status recorded
  pub summaries : job.command ≡ command.Effects → ReportsSummaries tree typed before after status

-- so where words give a job, but for a replay
abbrev pub MustReport : List (List ℕ) → Option (List ℕ) → Option (List ℕ) → Option (List ℕ) → Option (List ℕ) → Status → Option Record → Type 0
MustReport words read left before after status recorded =
    (job : Job) → job_of words ≡ Some job → (job.command ≡ command.Replay → ⊥) → ReportsProgram job read left before after status recorded

-- there are bytes that the job is on, which are a trace of a text that means a well-typed program; what is recorded is the run that its schedule leads to,
-- and it is what is reported: without nd constructs the elision
pub record ReportsReplay (job : Job) (read left before after : Option (List ℕ)) (status : Status) (made : Record) : Type 0 where
  pub bytes : List ℕ
  pub is_text : IsTextOf job read left bytes
  pub trace : Trace
  pub is_trace : IsTrace bytes trace
  pub tree : Program
  pub typed : PlainProgram
  pub accepts : Accepts (program_of bytes trace) tree typed
  pub by_schedule : made.machine.schedule ≡ trace.schedule
  pub outcome : Outcome
  pub comes : ComesOutBy typed accepts.well_typed trace.limits trace.arg trace.schedule outcome
  pub elided : typed.uses_nd ≡ false → outcome ≡ elision typed trace.limits trace.arg
  pub reported : IsReported (Ran outcome) before after status

-- so where words ask for a replay, of which a run is recorded
abbrev pub MustReplay : List (List ℕ) → Option (List ℕ) → Option (List ℕ) → Option (List ℕ) → Option (List ℕ) → Status → Option Record → Type 0
MustReplay words read left before after status recorded =
    (job : Job) (made : Record) → job_of words ≡ Some job → job.command ≡ command.Replay → recorded ≡ Some made → ReportsReplay job read left before after status made

-- There is a text that the job is on, and a well-typed program that it means. A run of it is recorded, on the job's argument and within its limits, and
-- what is reported is how it came out, and its events, with the names of the tree.
pub record ReportsEvents (job : Job) (read left before after : Option (List ℕ)) (status : Status) (recorded : Option Record) : Type 0 where
  pub text : List ℕ
  pub is_text : IsTextOf job read left text
  pub tree : Program
  pub typed : PlainProgram
  pub accepts : Accepts text tree typed
  pub made : Record
  pub is : recorded ≡ Some made
  pub outcome : Outcome
  pub comes : ComesOutBy typed accepts.well_typed (limits_of job) job.arg made.machine.schedule outcome
  pub elided : typed.uses_nd ≡ false → outcome ≡ elision_for job typed
  pub events : List MadeEvent
  pub are_events : AreEventsOf (recorded_run comes.reduced.finished) events
  pub reported : IsReported (shown_verdict job (record { program = typed; names = names_in tree; fields = field_names_in tree }) events outcome) before after status

-- so where words ask for events
abbrev pub MustShow : List (List ℕ) → Option (List ℕ) → Option (List ℕ) → Option (List ℕ) → Option (List ℕ) → Status → Option Record → Type 0
MustShow words read left before after status recorded =
    (job : Job) → job_of words ≡ Some job → job.command ≡ command.Events → ReportsEvents job read left before after status recorded

-- bytes are a trace of a text that means a well-typed program, and refused at the line of the first number of its schedule by which the run of the
-- source can't go on
pub record IsUnfit (bytes : List ℕ) (refusal : Refusal) : Type 0 where
  pub trace : Trace
  pub is_trace : IsTrace bytes trace
  pub tree : Program
  pub typed : PlainProgram
  pub accepts : Accepts (program_of bytes trace) tree typed
  pub at : ℕ
  pub stops : CannotGoOn (stepped typed trace.arg) trace.limits trace.schedule at
  pub is : Refused refusal ≡ refused_at Schedule (line_of trace.schedule at)

-- why bytes are refused of which a replay is asked: not for a schedule; or as the text of the program that they hold is; or since they are unfit
pub data WhyRefused (bytes : List ℕ) (refusal : Refusal) : Type 0 where
  not_for_schedule : (refusal.kind ≡ Schedule → ⊥) → WhyRefused bytes refusal
  for_text : (trace : Trace) → IsTrace bytes trace → IsFault (program_of bytes trace) refusal → WhyRefused bytes refusal
  for_schedule : IsUnfit bytes refusal → WhyRefused bytes refusal

-- there are bytes that the job is on, and their refusal is reported
pub record RefusesReplay (job : Job) (read left before after : Option (List ℕ)) (status : Status) : Type 0 where
  pub bytes : List ℕ
  pub is_text : IsTextOf job read left bytes
  pub refusal : Refusal
  pub why : WhyRefused bytes refusal
  pub reported : IsReported (Refused refusal) before after status

-- so where words ask for a replay that is refused
abbrev pub MustRefuse : List (List ℕ) → Option (List ℕ) → Option (List ℕ) → Option (List ℕ) → Option (List ℕ) → Status → Type 0
MustRefuse words read left before after status = (job : Job) → job_of words ≡ Some job → job.command ≡ command.Replay → RefusesReplay job read left before after status
