-- One effect more is noted.
use Rattle.exec_locks.proofs.Indexed.{leads_one_on, grown_keeps, grown_on}
use Rattle.exec_locks.proofs.index.note_all.Goals as goal

pub loop-e-preserved : goal.loop-e-preserved
loop-e-preserved c = record {
  leads = leads_one_on c.loop-e.reads c.loop-e.writes c.note_effect.new.reads c.note_effect.new.writes c.args.task c.loop-e.e-index c.e-item.result
      c.args.effects.now
      c.loop-e-test.true c.e-item.is c.in_ok-note_effect.ensures.there
      (grown_keeps c.args.task c.loop-e.reads c.note_effect.new.reads c.in_ok-note_effect.ensures.reads)
      (grown_keeps c.args.task c.loop-e.writes c.note_effect.new.writes c.in_ok-note_effect.ensures.writes) c.loop-e.invariant.leads;
  reads = grown_on c.args.reads.now c.loop-e.reads c.note_effect.new.reads c.loop-e.invariant.reads c.in_ok-note_effect.ensures.reads;
  writes = grown_on c.args.writes.now c.loop-e.writes c.note_effect.new.writes c.loop-e.invariant.writes c.in_ok-note_effect.ensures.writes;
}
