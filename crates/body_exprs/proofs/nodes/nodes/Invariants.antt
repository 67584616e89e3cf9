use Rattle.std.proofs.Common.{◌≡◌, ◌++◌, map, length}
use Rattle.std.specs.Vec.Iter.{into_iter_items, into_iter_len}
use Rattle.body_exprs.specs.Typed.{plain_node, plain_typed, node_at}
use Rattle.body_exprs.proofs.nodes.nodes.Given as goal

abbrev pub invariant-loop-given : goal.invariant-loop-given
invariant-loop-given l =
    (map plain_node l.made ++ map (λ t. node_at l.place (plain_typed t)) (into_iter_items l.given-iterator) ≡ map (λ t. node_at l.place (plain_typed t)) (into_iter_items l.initial.given-iterator))
    × (into_iter_len l.given-iterator ≡ length (into_iter_items l.given-iterator))
