-- A schedule that is read run by run.
use Rattle.std.specs.Prelude.{◌≡◌, ℕ, ◌+◌, ◌*◌, ◌≤◌, Bool, true, false, List, [], length, min}
use Rattle.std.specs.Str.Parse.{digits_value}
use Rattle.tool_trace.specs.declared.listed.Listed.{Listed}
use Rattle.tool_trace.specs.declared.listed.Reported.{Reported}
use Rattle.tool_trace.specs.Reading.{IsRunLine, IsRun, AreLimits, Leads, listing}
use Rattle.tool_trace.specs.Runs.{last_of}
use Rattle.tool_trace.specs.declared.settings.Settings.{Settings}

-- the schedule so far is kept as long as it isn't longer than allowed, with its last number and its length, as far as that matters
pub record Lists (listed : Listed) (schedule : List ℕ) : Type 0 where
  pub total : listed.total ≡ min (length schedule) 1000000000000000
  pub last : listed.last ≡ last_of schedule
  pub numbers : length schedule ≤ listed.events → listed.numbers ≡ schedule

-- a line is that of a run, as far as its length matters
pub record IsLineOf (text : List ℕ) (reported : Reported) : Type 0 where
  pub many : List ℕ
  pub is_line : IsRunLine text reported.task many
  pub length : reported.many ≡ min (digits_value 10 many) 1000000000000000

-- whether a line is that of a run that may come next; then the schedule goes on by it
abbrev pub Takes : Bool → List ℕ → List ℕ → Listed → Type 0
Takes true text schedule listed = (longer : List ℕ) × IsRun text schedule longer × Lists listed longer
Takes false text schedule listed = (longer : List ℕ) → IsRun text schedule longer → ⊥

-- the first three lines of a trace say this
pub record IsHead (bytes : List ℕ) (settings : Settings) (events : ℕ) (rest : List ℕ) : Type 0 where
  pub limits : AreLimits settings.limits
  pub few : events ≤ 2 * settings.limits.steps + 2
  pub leads : Leads bytes 3 (listing settings.arg settings.limits events []) rest
