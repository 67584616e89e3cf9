-- A task that starts stands for its start.
use Rattle.exec_machine.proofs.Delivering.{on_its_way}
use Rattle.exec_machine.proofs.slot.Slot.start.Goals as goal

pub returns : goal.returns
returns c = λ C g. on_its_way C c.args.number c.start.result _ g (record {
  number = c.start.ensures.number;
  ticks = c.start.ensures.ticks;
  made = c.start.ensures.made;
  state = c.start.ensures.state;
})
