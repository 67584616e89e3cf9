use Rattle.std.proofs.Common.{◌≡◌, take}
use Rattle.exec_world.proofs.seen.copied.Given as goal

abbrev pub invariant-loop-region : goal.invariant-loop-region
invariant-loop-region l = l.copies ≡ take l.region-index l.regions
