-- A task comes into its place, where it has one.
use Rattle.std.proofs.Common.{sym, subst, ap, ◌∙◌}
use Rattle.exec_machine.specs.Away.{put_over}
use Rattle.exec_machine.specs.Running.{OfSlot}
use Rattle.exec_machine.proofs.slots.Slots.put_in.Goals as goal

pub returns-in_default : goal.returns-in_default
returns-in_default c = ap (put_over c.args.self.now c.args.task.number c.args.task.slot) c.in_default.ensures

pub exchange-requires : goal.exchange-requires
exchange-requires c = subst (λ o. OfSlot o (λ slot. Unit {0})) c.in-Some.ensures tt

pub returns : goal.returns
returns c = c.exchange.ensures.put ∙ sym (ap (put_over c.args.self.now c.args.task.number c.args.task.slot) c.exchange.ensures.was)
