-- A slot in the map for another.
use Rattle.std.proofs.Common.{ap, sym, ◌∙◌, Some}
use Rattle.std.specs.FinMap.{FinMap, get, insert}
use Rattle.std.specs.Ordering.{nat_cmp}
use Rattle.exec_machine.specs.declared.slot.Slot.{Slot}
use Rattle.exec_machine.proofs.Maps.{of_none}
use Rattle.exec_machine.proofs.slots.Slots.exchange.Goals as goal

pub unreachable-requires : goal.unreachable-requires
unreachable-requires c = of_none c.self.inside.map c.args.number c.args.self.now _ c.self.view_is c.in_default.ensures.value c.requires

pub returns-clause-was : goal.returns-clause-was
returns-clause-was c =
    sym (ap (λ (slots : FinMap nat_cmp Slot). get slots c.args.number) c.self.view_is) ∙ sym c.in-Some.ensures.value ∙ ap Some (sym c.replace.ensures.value)

pub returns-clause-put : goal.returns-clause-put
returns-clause-put c =
    ap (insert c.self.inside.map c.args.number) c.replace.ensures.after ∙ ap (λ (slots : FinMap nat_cmp Slot). insert slots c.args.number c.args.slot) c.self.view_is
