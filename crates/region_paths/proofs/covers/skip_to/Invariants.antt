use Rattle.std.proofs.Common.{◌≡◌, drop}
use Rattle.region_paths.specs.Segments.{after_first}
use Rattle.region_paths.proofs.covers.skip_to.Given as goal

abbrev pub invariant-loop-at : goal.invariant-loop-at
invariant-loop-at l = after_first l.segment (drop l.at l.list) ≡ after_first l.segment l.list
