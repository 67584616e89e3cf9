-- A task in the map goes on to its next action.
use Rattle.std.proofs.Common.{◌≡◌, ap, sym, subst, ◌∙◌}
use Rattle.std.specs.FinMap.{FinMap, get, insert}
use Rattle.std.specs.Ordering.{nat_cmp}
use Rattle.code_instrs.specs.Plain.{plain_code}
use Rattle.exec_machine.specs.declared.slot.Slot.{Slot}
use Rattle.exec_machine.specs.Running.{CanGo, AllStand, StandsForOne}
use Rattle.exec_machine.proofs.Maps.{got, of_found, of_none}
use Rattle.exec_machine.proofs.Tasks.{stand_kept, stands_still, stands_at}
use Rattle.exec_machine.proofs.slots.Slots.advance.Goals as goal

pub unreachable-requires : goal.unreachable-requires
unreachable-requires c = of_none c.self.inside.map c.args.number c.args.self.now _ c.self.view_is c.in_default.ensures.value c.requires.goes

pub advance-requires-clause-stands : goal.advance-requires-clause-stands
advance-requires-clause-stands c =
    let can : CanGo (plain_code c.args.code.now) c.args.number c.in-Some.slot.now =
    of_found c.self.inside.map c.args.number c.args.self.now (CanGo (plain_code c.args.code.now) c.args.number) c.self.view_is c.in-Some.slot.now c.in-Some.ensures.value c.requires.goes in
    (c.args.number, can.task, can.goes, can.stands)

pub returns-clause-stand : goal.returns-clause-stand
returns-clause-stand c = λ tasks go all.
    let there : get c.args.self.now c.args.number ≡ _ = sym (ap (λ (slots : FinMap nat_cmp Slot). get slots c.args.number) c.self.view_is) ∙ sym c.in-Some.ensures.value in
    subst (λ slots. AllStand (plain_code c.args.code.now) slots tasks) (sym (ap (λ (slots : FinMap nat_cmp Slot). insert slots c.args.number c.advance.new.self) c.self.view_is))
    (stand_kept (plain_code c.args.code.now) c.args.self.now tasks c.args.number c.advance.new.self all
    (stands_still (plain_code c.args.code.now) c.args.number c.in-Some.slot.now c.advance.new.self (tasks c.args.number) (go c.args.number)
    (subst (λ o. StandsForOne (plain_code c.args.code.now) c.args.number o (tasks c.args.number)) there (all c.args.number))
    (λ t. c.advance.ensures.stands c.args.number t)))

pub returns-clause-at : goal.returns-clause-at
returns-clause-at c =
    stands_at (plain_code c.args.code.now) _ c.advance.new.self c.advance.result (got c.self.inside.map c.args.number c.advance.new.self)
    c.advance.ensures.given c.advance.ensures.halts c.advance.ensures.is_action
