use Rattle.std.proofs.Common.{◌≡◌, ◌<◌, ◌≤◌}
use Rattle.code_instrs.specs.Plain.{plain_code}
use Rattle.exec_task.specs.declared.task.Standing.TheVariants as standing
use Rattle.exec_task.specs.Halts.{Reaches}
use Rattle.exec_task.proofs.run_local.run_local.Given as goal

-- the task is at an instruction of the same body, with ticks left
pub record RanLocally (l : goal.Live-loop-running) : Type 0 where
  pub reaches : Reaches (plain_code l.fn.running.code.now) l.fn.running.task l.running.task
  pub code : l.running.code.now ≡ l.fn.running.code.now
  pub at : l.running.task.standing ≡ standing.At
  pub body : l.running.task.level.body ≡ l.fn.running.task.level.body
  pub going : l.running.task.ticks < 4096
  pub nearer : l.running.ends.0 ≤ l.fn.running.ends.0

abbrev pub invariant-loop-running : goal.invariant-loop-running
invariant-loop-running l = RanLocally l

abbrev pub decreases-loop-running : goal.decreases-loop-running
decreases-loop-running l = l.running.ends.0
