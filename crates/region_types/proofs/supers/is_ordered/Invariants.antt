use Rattle.std.specs.Prelude.{◌<◌}
use Rattle.std.specs.List.{AllAdjacentBelow}
use Rattle.region_types.proofs.supers.is_ordered.Given as goal

abbrev pub invariant-loop-at : goal.invariant-loop-at
invariant-loop-at l = AllAdjacentBelow (λ row next. row.class < next.class) l.supers l.at
