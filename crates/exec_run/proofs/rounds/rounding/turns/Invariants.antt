use Rattle.std.proofs.Common.{length, reverse}
use Rattle.exec_run.proofs.rounds.Turning.{HasTurned}
use Rattle.exec_run.proofs.rounds.rounding.turns.Given as goal

abbrev pub invariant-loop-task : goal.invariant-loop-task
invariant-loop-task l = HasTurned l.fn.machine (reverse l.fn.tasks) (reverse l.left) l.machine

abbrev pub decreases-loop-task : goal.decreases-loop-task
decreases-loop-task l = length l.left
