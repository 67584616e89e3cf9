use Rattle.region_paths.proofs.Segments.{begins_within-short}
use Rattle.std.proofs.Common.{sym}
use Rattle.region_paths.proofs.covers.begins.Goals as goal

pub returns-then-list-segment : goal.returns-then-list-segment
returns-then-list-segment c = sym (begins_within-short c.args.segment.now c.args.list.now c.if-list-segment.true)
