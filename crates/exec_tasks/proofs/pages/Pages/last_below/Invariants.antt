use Rattle.std.proofs.Common.{◌≡◌, ◌*◌, ◌<◌, ◌≤◌, ℕ, None}
use Rattle.exec_tasks.specs.Pages.{value_at}
use Rattle.exec_tasks.proofs.pages.Pages.last_below.Given as goal

-- from the page on there is nothing below the bound
abbrev pub invariant-loop-page : goal.invariant-loop-page
invariant-loop-page g l = (l.rest * 64 ≤ l.fn.bound) × ((q : ℕ) → l.rest * 64 ≤ q → q < l.fn.bound → value_at l.self q ≡ None)

abbrev pub decreases-loop-page : goal.decreases-loop-page
decreases-loop-page g l = l.rest
