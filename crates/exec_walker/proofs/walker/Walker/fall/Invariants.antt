use Rattle.std.proofs.Common.{◌≡◌, map, length}
use Rattle.lang_meaning.specs.Elision.{Store as Elided}
use Rattle.exec_walker.specs.Walk.{falls}
use Rattle.exec_walker.specs.States.{plain_waiting}
use Rattle.exec_walker.specs.Stores.{Holds}
use Rattle.exec_walker.proofs.walker.Walker.fall.Given as goal
use Rattle.lang_base.specs.declared.outcome.Limits.{Limits}

abbrev pub invariant-loop-trap : goal.invariant-loop-trap
invariant-loop-trap l =
    (L : Limits) (w : Elided) → Holds L l.fn.self.store w →
    (v : Elided) × (falls (map plain_waiting l.fn.self.waiting) l.fn.trap l.fn.place w ≡ falls (map plain_waiting l.self.waiting) l.falling.0 l.falling.1 v)
    × Holds L l.self.store v

abbrev pub decreases-loop-trap : goal.decreases-loop-trap
decreases-loop-trap l = length l.self.waiting
