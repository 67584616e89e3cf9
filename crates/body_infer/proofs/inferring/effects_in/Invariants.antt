use Rattle.std.specs.Vec.Iter.{into_iter_items, into_iter_len}
use Rattle.std.proofs.Common.{◌≡◌, ◌++◌, length}
use Rattle.lang_typed.specs.Effects.{as_effects}
use Rattle.body_infer.specs.Walked.{all_done}
use Rattle.body_infer.proofs.inferring.effects_in.Given as goal

abbrev pub invariant-loop-own : goal.invariant-loop-own
invariant-loop-own l =
    (l.effects ++ as_effects (all_done (into_iter_items l.own-iterator)) ≡ as_effects (all_done (into_iter_items l.initial.own-iterator)))
    × (into_iter_len l.own-iterator ≡ length (into_iter_items l.own-iterator))
