use Rattle.std.specs.Vec.Iter.{into_iter_items, into_iter_len}
use Rattle.std.proofs.Common.{◌≡◌, ◌++◌, map, length}
use Rattle.lang_typed.specs.Effects.{marked}
use Rattle.body_infer.specs.Walked.{all_done}
use Rattle.body_infer.proofs.leaving.add_marked.Given as goal

abbrev pub invariant-loop-own : goal.invariant-loop-own
invariant-loop-own l =
    (all_done l.out ++ map (marked l.mark) (all_done (into_iter_items l.own-iterator)) ≡ all_done l.initial.out ++ map (marked l.mark) (all_done (into_iter_items l.initial.own-iterator)))
    × (into_iter_len l.own-iterator ≡ length (into_iter_items l.own-iterator))
