use Rattle.std.proofs.Common.{◌≡◌, drop}
use Rattle.region_interfere.specs.Uses.{with_other_uses}
use Rattle.region_interfere.proofs.parts.with_other_uses.Given as goal

abbrev pub invariant-loop-part_use : goal.invariant-loop-part_use
invariant-loop-part_use l = with_other_uses l.view l.set (drop l.part_use-index l.uses) ≡ with_other_uses l.view l.initial.set l.uses
