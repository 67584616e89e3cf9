use Rattle.std.proofs.Common.{◌≡◌, length}
use Rattle.std.specs.Vec.Iter.{into_iter_items, into_iter_len}
use Rattle.lang_base.specs.Effects.{gathered}
use Rattle.region_effects.proofs.set.EffectSet.take_all.Given as goal

abbrev pub invariant-loop-e : goal.invariant-loop-e
invariant-loop-e l =
    (gathered l.self (into_iter_items l.e-iterator) ≡ gathered l.initial.self (into_iter_items l.initial.e-iterator))
    × (into_iter_len l.e-iterator ≡ length (into_iter_items l.e-iterator))
