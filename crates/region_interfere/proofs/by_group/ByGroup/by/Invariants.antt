use Rattle.std.proofs.Common.{take}
use Rattle.region_interfere.specs.InGroups.{Sorted}
use Rattle.region_interfere.proofs.by_group.ByGroup.by.Given as goal

abbrev pub invariant-loop-e : goal.invariant-loop-e
invariant-loop-e l = Sorted l.key l.keyed l.unkeyed (take l.e-index l.effects)
