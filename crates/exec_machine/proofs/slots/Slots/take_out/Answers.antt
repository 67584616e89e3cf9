-- A task that is there is taken out.
use Rattle.std.proofs.Common.{◌≡◌, subst}
use Rattle.std.specs.FinMap.{get}
use Rattle.exec_machine.specs.Running.{OfSlot}
use Rattle.exec_machine.proofs.Aways.{there_at_all}
use Rattle.exec_machine.proofs.slots.Slots.take_out.Goals as goal

pub exchange-slot-requires : goal.exchange-slot-requires
exchange-slot-requires c = there_at_all (get c.args.self.now c.args.number) c.args.number (c.is_there.ensures c.if-not-is_there.false)

pub returns-clause-taken : goal.returns-clause-taken
returns-clause-taken c = record {
  there = c.exchange-slot.ensures.was;
  number = subst (λ o. OfSlot o (λ slot. slot.task.number ≡ c.args.number)) c.exchange-slot.ensures.was (c.is_there.ensures c.if-not-is_there.false);
  other = c.in_place_of.result;
  apart = c.in_place_of.ensures;
  after_is = c.exchange-slot.ensures.put;
}
