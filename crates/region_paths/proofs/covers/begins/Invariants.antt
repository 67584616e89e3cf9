use Rattle.std.proofs.Common.{◌≡◌, drop}
use Rattle.region_paths.specs.Segments.{begins_within}
use Rattle.region_paths.proofs.covers.begins.Given as goal

abbrev pub invariant-loop-i : goal.invariant-loop-i
invariant-loop-i l = begins_within (drop l.i l.segment) (drop l.i l.list) ≡ begins_within l.segment l.list
