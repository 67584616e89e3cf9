-- One step of a task on the way to its next action.
use Rattle.std.specs.Prelude.{◌≡◌, ℕ, suc, map}
use Rattle.code_instrs.specs.Machine.{On, Off, Stand, Goes, Makes, Stuck, step}
use Rattle.code_instrs.specs.Plain.{PlainCode}
use Rattle.exec_task.specs.declared.action.Action.{Action}
use Rattle.exec_task.specs.declared.step.Step.{Step}
use Rattle.exec_task.specs.declared.step.Step.TheVariants as step_of
use Rattle.exec_task.specs.declared.task.Standing.TheVariants as standing
use Rattle.exec_task.specs.declared.task.Task.{Task}
use Rattle.exec_task.specs.Halts.{run_from, stands, IsActionOf}
use Rattle.exec_task.specs.Names.{names_of}
use Rattle.exec_task.specs.Steps.{with_local, HasNext}
use Rattle.exec_task.specs.Tasks.{plain_level, plain_ending, state_of}

abbrev pub step_at : PlainCode → Task → Stand ℕ (ℕ × ℕ)
step_at C t = step (names_of t.number) C (state_of t)

-- the task has its number, its ticks and what it has made
pub record Kept (old new : Task) : Type 0 where
  pub number : new.number ≡ old.number
  pub ticks : new.ticks ≡ old.ticks
  pub made : new.made ≡ old.made

-- what a step comes to
abbrev pub StepsTo : PlainCode → Task → Step → Task → Type 0
StepsTo C old step_of.Goes new = step_at C old ≡ Goes (state_of new)
StepsTo C old (step_of.Makes r) new =
    (step_at C old ≡ Makes (λ m. On (with_local r m (plain_level new.level)) (map plain_level new.callers))) × HasNext new.level
    × (new.standing ≡ standing.At)
StepsTo C old (step_of.Ends e) new = step_at C old ≡ Goes (Off (plain_ending e))
StepsTo C old (step_of.Waits action) new = ((n m : ℕ) → IsActionOf C action (stands n m (step_at C old))) × (new ≡ old)
StepsTo C old step_of.Stuck new = step_at C old ≡ Stuck

-- the way of a task to its action is one step more than that of another
abbrev pub Advances : PlainCode → Task → Task → Type 0
Advances C old new =
    (fuel : ℕ) → run_from (names_of old.number) C (suc fuel) old.ticks old.made (state_of old)
    ≡ run_from (names_of new.number) C fuel new.ticks new.made (state_of new)

-- the task stands at this action
abbrev pub StandsAt : PlainCode → Task → Action → Task → Type 0
StandsAt C old action new = ((n m : ℕ) → IsActionOf C action (stands n m (step_at C old))) × (new ≡ old)
