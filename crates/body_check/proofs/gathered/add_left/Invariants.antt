use Rattle.std.proofs.Common.{◌≡◌, length}
use Rattle.std.specs.Vec.Iter.{into_iter_items, into_iter_len}
use Rattle.lang_base.specs.Effects.{gathered}
use Rattle.body_check.specs.Gathering.{all_left}
use Rattle.body_check.proofs.gathered.add_left.Given as goal

abbrev pub invariant-loop-e : goal.invariant-loop-e
invariant-loop-e l =
    (gathered l.set (all_left l.leaving (into_iter_items l.e-iterator)) ≡ gathered l.initial.set (all_left l.leaving (into_iter_items l.initial.e-iterator)))
    × (into_iter_len l.e-iterator ≡ length (into_iter_items l.e-iterator))
