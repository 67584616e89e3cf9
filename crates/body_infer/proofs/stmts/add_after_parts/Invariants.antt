use Rattle.std.specs.Vec.Iter.{into_iter_items, into_iter_len}
use Rattle.std.proofs.Common.{◌≡◌, ◌++◌, length}
use Rattle.lang_typed.specs.Plain.{plain_source}
use Rattle.lang_typed.specs.Effects.{after_parts}
use Rattle.body_infer.specs.Walked.{all_done}
use Rattle.body_infer.proofs.stmts.add_after_parts.Given as goal

abbrev pub invariant-loop-own : goal.invariant-loop-own
invariant-loop-own l =
    (all_done l.handed ++ after_parts l.part.number (plain_source l.source) (all_done (into_iter_items l.own-iterator)) ≡ after_parts l.part.number (plain_source l.source) (all_done (into_iter_items l.initial.own-iterator)))
    × (into_iter_len l.own-iterator ≡ length (into_iter_items l.own-iterator))
