use Rattle.std.proofs.Common.{sym, ◌∙◌, ◌≤◌, length, rules}
use Rattle.region_paths.proofs.Segments.{begins_within-fits}
use Rattle.region_paths.proofs.covers.following.Goals as goal

pub slice_bounds-result-count : goal.slice_bounds-result-count
slice_bounds-result-count c = begins_within-fits c.args.segment.now c.args.list.now (sym c.begins.ensures ∙ c.if-begins.true)

pub slice_bounds-result-start : goal.slice_bounds-result-start
slice_bounds-result-start c =
    let h : length c.args.segment.now ≤ length c.args.list.now =
    begins_within-fits c.args.segment.now c.args.list.now (sym c.begins.ensures ∙ c.if-begins.true) in search rules
