use Rattle.std.specs.Vec.Iter.{into_iter_items, into_iter_len}
use Rattle.std.proofs.Common.{◌≡◌, ◌++◌, length}
use Rattle.body_infer.specs.Walked.{all_done, outside_all}
use Rattle.body_infer.proofs.leaving.leave.Given as goal

abbrev pub invariant-loop-own : goal.invariant-loop-own
invariant-loop-own l =
    (all_done l.out ++ outside_all l.opened.variables l.opened.regions (all_done (into_iter_items l.own-iterator)) ≡ all_done l.initial.out ++ outside_all l.opened.variables l.opened.regions (all_done (into_iter_items l.initial.own-iterator)))
    × (into_iter_len l.own-iterator ≡ length (into_iter_items l.own-iterator))
