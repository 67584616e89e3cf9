use Rattle.std.proofs.Common.{◌≡◌, ◌++◌, length}
use Rattle.std.specs.Vec.Iter.{into_iter_items, into_iter_len}
use Rattle.body_check.proofs.gathered.add_uses.Given as goal

abbrev pub invariant-loop-part_use : goal.invariant-loop-part_use
invariant-loop-part_use l =
    (l.uses ++ into_iter_items l.part_use-iterator ≡ l.initial.uses ++ into_iter_items l.initial.part_use-iterator)
    × (into_iter_len l.part_use-iterator ≡ length (into_iter_items l.part_use-iterator))
