use Rattle.std.proofs.Common.{◌≡◌, ℕ, ◌||◌, drop}
use Rattle.body_locals.specs.Gains.{has, is_noted}
use Rattle.body_locals.proofs.meeting.add_all.Given as goal

abbrev pub invariant-loop-local : goal.invariant-loop-local
invariant-loop-local l =
    (x : ℕ) → (has l.set x || is_noted (drop l.local-index l.locals) x) ≡ (has l.fn.set x || is_noted l.locals x)
