use Rattle.std.proofs.Common.{◌≡◌, [], map, drop}
use Rattle.lang_base.specs.Effects.{gathered}
use Rattle.region_interfere.specs.Uses.{use_effect}
use Rattle.region_interfere.proofs.parts.as_effects.Given as goal

abbrev pub invariant-loop-part_use : goal.invariant-loop-part_use
invariant-loop-part_use l = gathered l.set (map use_effect (drop l.part_use-index l.uses)) ≡ gathered [] (map use_effect l.uses)
