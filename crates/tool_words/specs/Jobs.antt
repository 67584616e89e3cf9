-- The job that a list of words gives.
use Rattle.std.specs.Prelude.{ℕ, ℤ, pos, ◌≤◌, List, [], ◌∷◌, Option, Some, None, if◌then◌else◌}
use Rattle.std.specs.List.{list_all}
use Rattle.std.specs.Option.{option_and_then}
use Rattle.tool_words.specs.Words.{command_named, sets_key_of, values_for, number_in, arg_of, mode_of, seeded_by}
use Rattle.tool_words.specs.declared.command.Command.{Command}
use Rattle.tool_words.specs.declared.command.Command.TheVariants as command
use Rattle.tool_words.specs.declared.key.Key.TheVariants as key
use Rattle.tool_words.specs.declared.key.Mode.{Mode}
use Rattle.tool_words.specs.declared.key.Mode.TheVariants as mode
use Rattle.tool_words.specs.declared.job.Job.{Job}

-- the meaning of the one value given, or the default where none is given
abbrev pub one_of : {A : Type 0} → (List ℕ → Option A) → A → List (List ℕ) → Option A
one_of meaning default [] = Some default
one_of meaning default (value ∷ []) = meaning value
one_of meaning default (first ∷ second ∷ others) = None

-- how many threads work
abbrev pub workers_of : List (List ℕ) → Option ℕ
workers_of words = one_of (number_in 1 64) 4 (values_for key.Workers words)

-- the most steps
abbrev pub steps_of : List (List ℕ) → Option ℕ
steps_of words = one_of (number_in 1 20000000) 5000000 (values_for key.Steps words)

-- the most cells
abbrev pub cells_of : List (List ℕ) → Option ℕ
cells_of words = one_of (number_in 1 16777216) 1048576 (values_for key.Cells words)

-- the argument of `main`
abbrev pub argument_of : List (List ℕ) → Option ℤ
argument_of words = one_of arg_of (pos 0) (values_for key.Arg words)

-- how many classes a demo has
abbrev pub classes_of : List (List ℕ) → Option ℕ
classes_of words = one_of (number_in 1 200) 8 (values_for key.Number words)

-- how the run of a command is made where neither `mode` nor `seed` says it
abbrev pub own_mode : Command → Mode
own_mode command.Cost = mode.Rounds
own_mode _ = mode.Steps

-- a mode where neither `mode` nor `workers` is given a value
abbrev pub alone : List (List ℕ) → List (List ℕ) → Option Mode → Option Mode
alone [] [] mode = mode
alone (name ∷ names) workers mode = None
alone [] (number ∷ numbers) mode = None

-- the mode by the values of `mode`, `workers` and `seed`: a seed stands without the others
abbrev pub mode_by : Mode → List (List ℕ) → List (List ℕ) → List (List ℕ) → Option Mode
mode_by own names workers [] = one_of mode_of own names
mode_by own names workers (seed ∷ []) = alone names workers (seeded_by seed)
mode_by own names workers (first ∷ second ∷ others) = None

-- how the run is made
abbrev pub made_by : Command → List (List ℕ) → Option Mode
made_by command words = mode_by (own_mode command) (values_for key.Mode words) (values_for key.Workers words) (values_for key.Seed words)

-- a job where each of its fields is given
abbrev pub job_with : Command → Option ℕ → Option ℕ → Option ℕ → Option ℤ → Option ℕ → Option Mode → Option Job
job_with command (Some workers) (Some steps) (Some cells) (Some arg) (Some n) (Some mode) =
    Some (record { command = command; workers = workers; steps = steps; cells = cells; arg = arg; n = n; mode = mode })
job_with _ _ _ _ _ _ _ = None

-- the job of a command, each field by the words that set it
abbrev pub fields_job : List (List ℕ) → Command → Option Job
fields_job words command = job_with command (workers_of words) (steps_of words) (cells_of words) (argument_of words) (classes_of words) (made_by command words)

-- the job of a command with the words after it, each of which sets one of its keys
abbrev pub settings_job : List (List ℕ) → Command → Option Job
settings_job words command = if list_all (sets_key_of command) words then fields_job words command else None

-- the job that words give by the tables of commands and keys
abbrev pub job : List (List ℕ) → Option Job
job [] = None
job (first ∷ words) = option_and_then (settings_job words) (command_named first)

-- each number of a job is in the range of its key
pub record IsInRange (job : Job) : Type 0 where
  pub workers_least : 1 ≤ job.workers
  pub workers_most : job.workers ≤ 64
  pub steps_least : 1 ≤ job.steps
  pub steps_most : job.steps ≤ 20000000
  pub cells_least : 1 ≤ job.cells
  pub cells_most : job.cells ≤ 16777216
  pub n_least : 1 ≤ job.n
  pub n_most : job.n ≤ 200
