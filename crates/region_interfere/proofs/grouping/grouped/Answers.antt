use Rattle.region_interfere.proofs.Noted.{shows-next}
use Rattle.region_interfere.proofs.grouping.grouped.Goals as goal

pub loop-i-preserved : goal.loop-i-preserved
loop-i-preserved c =
    shows-next c.loop-i.groups c.note_all.new.groups c.args.branches.now c.loop-i.i c.index-branches-i.result c.as_slice.result.now c.loop-i-test.true c.index-branches-i.is c.as_slice.ensures c.loop-i.invariant c.in_ok-note_all.ensures
