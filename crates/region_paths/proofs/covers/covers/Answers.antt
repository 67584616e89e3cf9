use Rattle.std.proofs.Common.{◌∙◌}
use Rattle.region_paths.proofs.Segments.{covers-alone, covers-longer, covers-front, covers-no_front, covers-next, covers-no_next, covers_ends}
use Rattle.std.proofs.Common.{sym}
use Rattle.region_paths.proofs.covers.covers.Goals as goal

pub returns-then-outer-inner : goal.returns-then-outer-inner
returns-then-outer-inner c = covers-alone c.args.outer.now c.args.inner.now _ c.in_default.ensures c.if-outer-inner.true c.begins.ensures

pub returns-else-outer-inner : goal.returns-else-outer-inner
returns-else-outer-inner c = covers-longer c.args.outer.now c.args.inner.now c.in_default.ensures c.if-outer-inner.false

pub returns-in_default-following : goal.returns-in_default-following
returns-in_default-following c =
    let h = c.in-Some.ensures in
    covers-no_front c.args.outer.now c.in-Some.first.now c.in-Some.pattern.now c.args.inner.now h.0 h.1 c.in_default-following.ensures

pub loop-segment-init : goal.loop-segment-init
loop-segment-init c =
    let h = c.in-Some.ensures in
    covers-front c.args.outer.now c.in-Some.first.now c.in-Some.pattern.now c.args.inner.now c.in-Some-following.list.now h.0 h.1 c.in-Some-following.ensures

pub returns-in_default-skip_to : goal.returns-in_default-skip_to
returns-in_default-skip_to c =
    let h = c.in-Some-at_star.ensures in
    covers-no_next c.loop-segment.pattern.now c.in-Some-at_star.segment.now c.in-Some-at_star.after.now c.loop-segment.list.now h.0 h.1 c.in_default-skip_to.ensures ∙ c.loop-segment.invariant

pub loop-segment-preserved : goal.loop-segment-preserved
loop-segment-preserved c =
    let h = c.in-Some-at_star.ensures in
    covers-next c.loop-segment.pattern.now c.in-Some-at_star.segment.now c.in-Some-at_star.after.now c.loop-segment.list.now c.in-Some-skip_to.rest.now h.0 h.1 c.in-Some-skip_to.ensures ∙ c.loop-segment.invariant

pub returns : goal.returns
returns c = c.ends.ensures ∙ sym (covers_ends c.loop-segment.pattern.now c.loop-segment.list.now c.in_default-at_star.ensures) ∙ c.loop-segment.invariant
