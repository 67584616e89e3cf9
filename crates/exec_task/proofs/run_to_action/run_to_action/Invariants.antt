use Rattle.std.proofs.Common.{◌≡◌, ◌<◌}
use Rattle.code_instrs.specs.Plain.{plain_code}
use Rattle.exec_task.specs.Halts.{Reaches}
use Rattle.exec_task.specs.StepsLocally.{IsAtOther}
use Rattle.exec_task.proofs.run_to_action.run_to_action.Given as goal

pub record RanToAction (l : goal.Live-loop-running) : Type 0 where
  pub reaches : Reaches (plain_code l.fn.running.code.now) l.fn.running.task l.running.task
  pub code : l.running.code.now ≡ l.fn.running.code.now
  pub other : l.running.task.ticks < 4096 → IsAtOther (plain_code l.running.code.now) l.running.task

abbrev pub invariant-loop-running : goal.invariant-loop-running
invariant-loop-running l = RanToAction l

abbrev pub decreases-loop-running : goal.decreases-loop-running
decreases-loop-running l = l.running.ends.0
