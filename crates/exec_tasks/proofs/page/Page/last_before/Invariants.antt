use Rattle.std.proofs.Common.{◌≡◌, ◌<◌, ◌≤◌, ℕ, None}
use Rattle.exec_tasks.specs.Pages.{in_page}
use Rattle.exec_tasks.proofs.page.Page.last_before.Given as goal

-- from the place on there is nothing
abbrev pub invariant-loop-place : goal.invariant-loop-place
invariant-loop-place g l = (l.place ≤ l.fn.end) × ((k : ℕ) → l.place ≤ k → k < l.fn.end → in_page l.self k ≡ None)

abbrev pub decreases-loop-place : goal.decreases-loop-place
decreases-loop-place g l = l.place
