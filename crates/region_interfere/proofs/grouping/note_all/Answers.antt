use Rattle.region_interfere.proofs.Noted.{shows-more}
use Rattle.region_interfere.proofs.grouping.note_all.Goals as goal

pub loop-e-preserved : goal.loop-e-preserved
loop-e-preserved c =
    shows-more c.args.groups.now c.loop-e.groups c.note.new.groups c.args.branch c.loop-e.e-index c.args.effects.now c.e-item.result c.loop-e-test.true c.e-item.is c.loop-e.invariant c.in_ok-note.ensures
