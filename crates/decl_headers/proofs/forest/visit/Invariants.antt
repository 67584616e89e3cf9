use Rattle.std.proofs.Common.{◌≡◌, ℕ, ◌-◌, ◌^◌, ◌++◌, length}
use Rattle.decl_headers.specs.Way.{walk, IsEnded}
use Rattle.decl_headers.proofs.Ways.{left_of, AllEnded}
use Rattle.decl_headers.proofs.forest.visit.Given as goal

abbrev pub invariant-loop-step : goal.invariant-loop-step
invariant-loop-step l = (n : ℕ) → IsEnded l.lists n l.root → AllEnded l.lists n l.pending × (l.steps.items ++ left_of l.lists n l.pending ≡ l.initial.steps.items ++ walk l.lists n l.root)

abbrev pub decreases-loop-step : goal.decreases-loop-step
decreases-loop-step l = 2 ^ 63 - length l.steps.items
