use Rattle.std.proofs.Common.{◌<◌, ◌≤◌, ℕ}
use Rattle.exec_world.specs.Queues.{AllHavePlaces}
use Rattle.exec_world.specs.Ready.{IsReady}
use Rattle.exec_world.proofs.queues.Queues.ready_below.Given as goal

-- no task from what is left to the bound is ready
abbrev pub invariant-loop-task : goal.invariant-loop-task
invariant-loop-task l = record {
  places : AllHavePlaces l.world l.self;
  within : l.rest ≤ l.bound;
  none : (q : ℕ) → l.rest ≤ q → q < l.bound → IsReady l.world q → ⊥;
}

abbrev pub decreases-loop-task : goal.decreases-loop-task
decreases-loop-task l = l.rest
