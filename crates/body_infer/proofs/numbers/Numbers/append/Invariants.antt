use Rattle.std.specs.Vec.Iter.{into_iter_items, into_iter_len}
use Rattle.std.proofs.Common.{◌≡◌, ◌++◌, length}
use Rattle.body_infer.proofs.numbers.Numbers.append.Given as goal

abbrev pub invariant-loop-number : goal.invariant-loop-number
invariant-loop-number l =
    (l.self ++ into_iter_items l.number-iterator ≡ l.initial.self ++ into_iter_items l.initial.number-iterator)
    × (into_iter_len l.number-iterator ≡ length (into_iter_items l.number-iterator))
