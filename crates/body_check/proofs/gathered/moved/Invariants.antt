use Rattle.std.proofs.Common.{◌≡◌, map, take}
use Rattle.body_check.specs.Gathering.{moved}
use Rattle.body_check.proofs.gathered.moved.Given as goal

abbrev pub invariant-loop-part_use : goal.invariant-loop-part_use
invariant-loop-part_use l = l.made ≡ map (moved l.view l.outer) (take l.part_use-index l.uses)
