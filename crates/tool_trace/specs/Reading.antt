-- Which lines of a trace fit, and what they say.
use Rattle.std.specs.Prelude.{◌≡◌, ℕ, suc, ℤ, ◌+◌, ◌*◌, ◌≤◌, ◌<◌, ◌^◌, ◌⊎◌, List, [], ◌++◌, length, drop, replicate, codes, Some, FitsSigned}
use Rattle.std.specs.Fmt.{decimal}
use Rattle.std.specs.Int.{w32}
use Rattle.std.specs.List.{AllByRecursion}
use Rattle.std.specs.Str.Parse.{digits_value}
use Rattle.lang_base.specs.declared.outcome.Limits.{Limits}
use Rattle.tool_trace.specs.declared.reading.Trace.{Trace}
use Rattle.tool_trace.specs.declared.reading.TraceStop.{TraceStop}
use Rattle.tool_trace.specs.declared.reading.TraceStop.TheVariants as stop
use Rattle.tool_trace.specs.Pieces.{IsCut, IsNumber}
use Rattle.tool_trace.specs.Runs.{last_of}
use Rattle.tool_trace.specs.Text.{settings_text, events_text, trace_text}

-- limits that a run may have
pub record AreLimits (limits : Limits) : Type 0 where
  pub steps_least : 1 ≤ limits.steps
  pub steps_most : limits.steps ≤ 20000000
  pub cells_least : 1 ≤ limits.cells
  pub cells_most : limits.cells ≤ 16777216

-- what the lines up to here say
pub data Reported : Type 0 where
  nothing : Reported
  -- that this is a trace
  begun : Reported
  settings : ℤ → Limits → Reported
  -- how many events there are to be, and the schedule so far
  listing : ℤ → Limits → ℕ → List ℕ → Reported
  whole : ℤ → Limits → List ℕ → Reported

-- the line of the settings
pub record IsSettings (text : List ℕ) (arg : ℤ) (limits : Limits) : Type 0 where
  pub limits_allowed : AreLimits limits
  pub arg_allowed : FitsSigned w32 arg
  pub is : text ≡ settings_text arg limits

-- the line that says how many events there are, at most so many
pub record IsEvents (text : List ℕ) (most events : ℕ) : Type 0 where
  pub few : events ≤ most
  pub is : text ≡ events_text events

-- a line of a task, and how many numbers of it there are, one at least
pub record IsRunLine (text : List ℕ) (task : ℕ) (many : List ℕ) : Type 0 where
  pub task_allowed : task < 2 ^ 32
  pub number : IsNumber many
  pub some : 0 < digits_value 10 many
  pub is : text ≡ decimal task ++ codes " " ++ many

-- a line by which the schedule goes on, with another task than the last
pub record IsRun (text before after : List ℕ) : Type 0 where
  pub task : ℕ
  pub many : List ℕ
  pub is_line : IsRunLine text task many
  pub other : last_of before ≡ Some task → ⊥
  pub adds : after ≡ before ++ replicate (digits_value 10 many) task

-- the line after the schedule, where that has as many events as there are to be
pub record IsProgram (text : List ℕ) (events : ℕ) (schedule : List ℕ) : Type 0 where
  pub is : text ≡ codes "program"
  pub right : length schedule ≡ events

-- a line fits here, and leads there
abbrev pub Fits : Reported → List ℕ → Reported → Type 0
Fits nothing text after = (text ≡ codes "dpj-trace 1") × (after ≡ begun)
Fits begun text after = (arg : ℤ) × (limits : Limits) × IsSettings text arg limits × (after ≡ settings arg limits)
Fits (settings arg limits) text after = (events : ℕ) × IsEvents text (2 * limits.steps + 2) events × (after ≡ listing arg limits events [])
Fits (listing arg limits events schedule) text after =
    ((longer : List ℕ) × IsRun text schedule longer × (after ≡ listing arg limits events longer))
    ⊎ (IsProgram text events schedule × (after ≡ whole arg limits schedule))
Fits (whole arg limits schedule) text after = ⊥

-- the first so many lines fit one after the other, and this is left after them
pub data Leads (bytes : List ℕ) : ℕ → Reported → List ℕ → Type 0 where
  start : Leads bytes 0 nothing bytes
  next : {n : ℕ} {before after : Reported} {rest text following : List ℕ} → Leads bytes n before rest → IsCut 10 rest text following → Fits before text after
      → Leads bytes (suc n) after following

abbrev pub IsUnfinished : Reported → Type 0
IsUnfinished (whole arg limits schedule) = ⊥
IsUnfinished _ = Unit {0}

-- the lines before this one fit, and don't make a trace; and no line of this number is there, or it doesn't fit
pub record IsMisfit (bytes : List ℕ) (line : ℕ) : Type 0 where
  pub before : ℕ
  pub reported : Reported
  pub rest : List ℕ
  pub number : line ≡ suc before
  pub leads : Leads bytes before reported rest
  pub unfinished : IsUnfinished reported
  pub unfit : (text following : List ℕ) (after : Reported) → IsCut 10 rest text following → Fits reported text after → ⊥

-- the bytes are the text of a trace, with the program from this place on; and its numbers have 32 bits
pub record IsTrace (bytes : List ℕ) (trace : Trace) : Type 0 where
  pub limits : AreLimits trace.limits
  pub arg : FitsSigned w32 trace.arg
  pub tasks : AllByRecursion (λ task. task < 2 ^ 32) trace.schedule
  pub events : length trace.schedule ≤ 2 * trace.limits.steps + 2
  pub within : trace.from ≤ length bytes
  pub is : bytes ≡ trace_text trace.arg trace.limits trace.schedule (drop trace.from bytes)

-- why a trace wasn't read
abbrev pub WhyUnread : List ℕ → TraceStop → Type 0
WhyUnread bytes (stop.Bad line) = IsMisfit bytes line
WhyUnread bytes stop.NoMemory = Unit {0}
