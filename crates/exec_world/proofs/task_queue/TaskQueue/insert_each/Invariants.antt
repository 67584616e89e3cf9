use Rattle.std.proofs.Common.{ℕ, ◌<◌}
use Rattle.exec_world.specs.Words.{Has}
use Rattle.exec_world.proofs.task_queue.TaskQueue.insert_each.Given as goal

-- each past what is left has come
abbrev pub invariant-loop-task : goal.invariant-loop-task
invariant-loop-task l = record {
  kept : (q : ℕ) → Has l.fn.self q → Has l.self q;
  moved : (q : ℕ) → l.rest < q → Has l.others-inside.words q → Has l.self q;
}

abbrev pub decreases-loop-task : goal.decreases-loop-task
decreases-loop-task l = l.rest
