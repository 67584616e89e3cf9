use Rattle.std.proofs.Common.{take}
use Rattle.region_paths.specs.Segments.{NoStar}
use Rattle.region_paths.proofs.covers.at_star.Given as goal

abbrev pub invariant-loop-at : goal.invariant-loop-at
invariant-loop-at l = NoStar (take l.at l.path)
