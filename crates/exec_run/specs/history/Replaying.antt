-- What a replay of a schedule comes to.
use Rattle.std.specs.Prelude.{◌≡◌, ℕ, ℤ, ◌≤◌, ◌⊎◌, List, length, take, slice_get, Some, None, IsSome}
use Rattle.lang_base.specs.declared.outcome.Limits.{Limits}
use Rattle.code_instrs.specs.declared.code.Code.{Code}
use Rattle.exec_world.specs.Ready.{IsReady}
use Rattle.exec_machine.specs.Keeping.{Played, IsReplayed, IsStuckAt}
use Rattle.exec_run.specs.declared.history.replaying.ReplayStop.{ReplayStop}
use Rattle.exec_run.specs.declared.history.replaying.ReplayStop.TheVariants as stop

-- a machine on this code, within these limits and on this argument, to which a schedule leads
pub record IsAt (code : Code) (limits : Limits) (argument : ℤ) (schedule : List ℕ) (machine : Played) : Type 0 where
  pub is_code : machine.code ≡ code
  pub is_limits : machine.limits ≡ limits
  pub is_argument : machine.argument ≡ argument
  pub is_schedule : machine.schedule ≡ schedule
  pub replayed : IsReplayed machine

-- the same, and the run has come out
pub record IsReplay (code : Code) (limits : Limits) (argument : ℤ) (schedule : List ℕ) (machine : Played) : Type 0 where
  pub is_at : IsAt code limits argument schedule machine
  pub finished : IsSome machine.outcome

-- the first numbers of a schedule can be made, and this machine has made them
pub record HasMade (code : Code) (limits : Limits) (argument : ℤ) (schedule : List ℕ) (count : ℕ) (machine : Played) : Type 0 where
  pub within : count ≤ length schedule
  pub is_at : IsAt code limits argument (take count schedule) machine

-- the next number comes after the end, or isn't of a ready task; or there is none, and the run has not come out
pub data GoesWrong (schedule : List ℕ) (count : ℕ) (machine : Played) : Type 0 where
  after_end : (task : ℕ) → slice_get schedule count ≡ Some task → IsSome machine.outcome → GoesWrong schedule count machine
  not_ready : (task : ℕ) → slice_get schedule count ≡ Some task → (IsReady machine.world task → ⊥) → GoesWrong schedule count machine
  too_early : count ≡ length schedule → machine.outcome ≡ None → GoesWrong schedule count machine

-- the next number is of a ready task that can't make its next event
pub record GetsStuck (schedule : List ℕ) (count : ℕ) (machine : Played) : Type 0 where
  pub task : ℕ
  pub next : slice_get schedule count ≡ Some task
  pub stuck : IsStuckAt machine task

-- why a schedule wasn't made to its end
abbrev pub WhyStopped : Code → Limits → ℤ → List ℕ → ReplayStop → Type 0
WhyStopped code limits argument schedule (stop.Bad count) = (machine : Played) × HasMade code limits argument schedule count machine × GoesWrong schedule count machine
WhyStopped code limits argument schedule (stop.Stuck count) = (machine : Played) × HasMade code limits argument schedule count machine × GetsStuck schedule count machine
WhyStopped code limits argument schedule stop.NoMemory = Unit {0}

-- why the event of a task, at this position, wasn't made
abbrev pub WhyUnmade : Played → ℕ → ℕ → ReplayStop → Type 0
WhyUnmade machine task at (stop.Bad count) = (count ≡ at) × (IsSome machine.outcome ⊎ (IsReady machine.world task → ⊥))
WhyUnmade machine task at (stop.Stuck count) = (count ≡ at) × IsStuckAt machine task
WhyUnmade machine task at stop.NoMemory = Unit {0}
