-- An answer kept in the map.
use Rattle.std.proofs.Common.{ap, Some}
use Rattle.std.specs.FinMap.{FinMap, insert}
use Rattle.std.specs.Ordering.{nat_cmp}
use Rattle.exec_machine.specs.declared.slot.Slot.{Slot}
use Rattle.exec_machine.proofs.Maps.{of_none, put_there}
use Rattle.exec_machine.proofs.slots.Slots.settle.Goals as goal

pub unreachable-requires : goal.unreachable-requires
unreachable-requires c = of_none c.self.inside.map c.args.number c.args.self.now _ c.self.view_is c.in_default.ensures.value c.requires

pub returns : goal.returns
returns c =
    put_there c.self.inside.map c.args.number c.args.self.now _ c.self.view_is c.in-Some.slot.now c.in-Some.ensures.value
    (ap (λ (slots : FinMap nat_cmp Slot). insert slots c.args.number (record { task = c.in-Some.slot.now.task; pending = Some c.args.answer })) c.self.view_is)
