use Rattle.std.proofs.Common.{◌≡◌, ◌++◌, length}
use Rattle.std.specs.Vec.Iter.{into_iter_items, into_iter_len}
use Rattle.body_check.proofs.bodies.append.Given as goal

abbrev pub invariant-loop-body : goal.invariant-loop-body
invariant-loop-body l =
    (l.bodies ++ into_iter_items l.body-iterator ≡ l.initial.bodies ++ into_iter_items l.initial.body-iterator)
    × (into_iter_len l.body-iterator ≡ length (into_iter_items l.body-iterator))
