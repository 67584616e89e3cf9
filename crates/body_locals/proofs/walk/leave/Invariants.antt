use Rattle.std.proofs.Common.{◌≡◌, ℕ, not, ◌&&◌, drop}
use Rattle.body_locals.specs.Gains.{has, is_noted}
use Rattle.body_locals.proofs.walk.leave.Given as goal

abbrev pub invariant-loop-name : goal.invariant-loop-name
invariant-loop-name l =
    (x : ℕ) → (has l.inside x && not (is_noted (drop l.name-index l.declared) x)) ≡ (has l.fn.inside x && not (is_noted l.declared x))
