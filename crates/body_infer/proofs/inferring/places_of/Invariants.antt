use Rattle.std.proofs.Common.{◌≡◌, ◌++◌, map, drop}
use Rattle.body_infer.proofs.inferring.places_of.Given as goal

abbrev pub invariant-loop-item : goal.invariant-loop-item
invariant-loop-item l = l.places ++ map (λ e. e.rpl) (drop l.item-index l.item-items) ≡ map (λ e. e.rpl) l.item-items
