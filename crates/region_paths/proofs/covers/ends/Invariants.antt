use Rattle.std.proofs.Common.{◌≡◌, drop}
use Rattle.region_paths.specs.Segments.{ends_within}
use Rattle.region_paths.proofs.covers.ends.Given as goal

abbrev pub invariant-loop-at : goal.invariant-loop-at
invariant-loop-at l = ends_within l.segment (drop l.at l.list) ≡ ends_within l.segment l.list
