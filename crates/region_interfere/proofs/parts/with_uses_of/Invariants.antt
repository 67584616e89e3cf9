use Rattle.std.proofs.Common.{◌≡◌, drop}
use Rattle.region_interfere.specs.Uses.{with_uses_of}
use Rattle.region_interfere.proofs.parts.with_uses_of.Given as goal

abbrev pub invariant-loop-part_use : goal.invariant-loop-part_use
invariant-loop-part_use l = with_uses_of l.view l.set (drop l.part_use-index l.uses) ≡ with_uses_of l.view l.initial.set l.uses
