use Rattle.std.proofs.Common.{◌≡◌, ◌++◌}
use Rattle.region_effects.proofs.set.Effects.into_items.Given as goal

abbrev pub invariant-loop-e : goal.invariant-loop-e
invariant-loop-e l = l.items ++ l.e-iterator ≡ l.initial.items ++ l.initial.e-iterator
