-- A branch begins, or nothing has changed.
use Rattle.std.proofs.Common.{◌≡◌, sym, subst, ap, ◌∙◌, Some}
use Rattle.std.specs.FinMap.{get, insert, remove}
use Rattle.exec_machine.specs.Keeping.{Recorded, with_slots}
use Rattle.exec_machine.specs.Running.{OfSlot, IsFirst}
use Rattle.exec_machine.proofs.Begins.{slot_there, begun_so, over_so, taken_back}
use Rattle.exec_machine.proofs.run.Run.begin.Goals as goal

pub settle-requires : goal.settle-requires
settle-requires c =
    let n = c.args.self.now.world.tree.begun in
    let put : c.insert.new.self ≡ insert c.args.self.now.slots n c.start.result =
    c.in_ok-insert.ensures.ok ∙ ap (λ k. insert c.args.self.now.slots k c.start.result) c.begun-number.ensures in
    let r = subst (λ o. Recorded c.args.code.now c.args.limits (with_slots c.args.self.now c.insert.new.self) c.args.event o c.record.new.self)
    c.in-Ok-Some.field-0-is c.in-Ok-Some.ensures.ok in
    subst (λ o. OfSlot o (λ s. Unit {0}))
    (sym (slot_there c.args.code.now c.args.limits c.args.self.now c.record.new.self c.args.event n c.args.start c.start.result c.insert.new.self put c.in-Ok-Some.answer r c.requires.apart))
    c.requires.there

pub returns-in-Ok-Some-clause-ok : goal.returns-in-Ok-Some-clause-ok
returns-in-Ok-Some-clause-ok c =
    let n = c.args.self.now.world.tree.begun in
    let put : c.insert.new.self ≡ insert c.args.self.now.slots n c.start.result =
    c.in_ok-insert.ensures.ok ∙ ap (λ k. insert c.args.self.now.slots k c.start.result) c.begun-number.ensures in
    let r = subst (λ o. Recorded c.args.code.now c.args.limits (with_slots c.args.self.now c.insert.new.self) c.args.event o c.record.new.self)
    c.in-Ok-Some.field-0-is c.in-Ok-Some.ensures.ok in
    let same = slot_there c.args.code.now c.args.limits c.args.self.now c.record.new.self c.args.event n c.args.start c.start.result c.insert.new.self put c.in-Ok-Some.answer r c.requires.apart in
    begun_so c.args.code.now c.args.limits c.args.self.now c.record.new.self c.args.event n c.args.start c.start.result c.insert.new.self put c.in-Ok-Some.answer
    (get c.args.self.now.slots c.args.event.task) c.settle.new.self r c.requires.there
    (subst (λ o. OfSlot o (λ s. c.settle.new.self ≡ insert c.record.new.self.slots c.args.event.task (record { task = s.task; pending = Some c.in-Ok-Some.answer }))) same c.settle.ensures)
    (subst (λ k. IsFirst k c.args.start c.start.result) c.begun-number.ensures c.start.ensures)

pub returns-in-Ok-None-clause-ok : goal.returns-in-Ok-None-clause-ok
returns-in-Ok-None-clause-ok c =
    let n = c.args.self.now.world.tree.begun in
    let put : c.insert.new.self ≡ insert c.args.self.now.slots n c.start.result =
    c.in_ok-insert.ensures.ok ∙ ap (λ k. insert c.args.self.now.slots k c.start.result) c.begun-number.ensures in
    let r = subst (λ o. Recorded c.args.code.now c.args.limits (with_slots c.args.self.now c.insert.new.self) c.args.event o c.record.new.self)
    c.in-Ok-None.field-0-is c.in-Ok-None.ensures.ok in
    over_so c.args.code.now c.args.limits c.args.self.now c.record.new.self c.args.event n c.args.start c.start.result c.insert.new.self put
    (get c.args.self.now.slots c.args.event.task) c.remove.new.self r c.requires.there
    (subst (λ k. c.remove.new.self ≡ remove c.record.new.self.slots k) c.begun-number.ensures c.remove.ensures) c.requires.next
    (subst (λ k. IsFirst k c.args.start c.start.result) c.begun-number.ensures c.start.ensures)

pub returns-in-Err-clause-err : goal.returns-in-Err-clause-err
returns-in-Err-clause-err c =
    let n = c.args.self.now.world.tree.begun in
    let put : c.insert.new.self ≡ insert c.args.self.now.slots n c.start.result =
    c.in_ok-insert.ensures.ok ∙ ap (λ k. insert c.args.self.now.slots k c.start.result) c.begun-number.ensures in
    taken_back c.args.code.now c.args.limits c.args.self.now c.record.new.self c.args.event n c.args.start c.start.result c.insert.new.self put
    c.remove-in-Err.new.self c.in-Err.ensures.err
    (subst (λ k. c.remove-in-Err.new.self ≡ remove c.record.new.self.slots k) c.begun-number.ensures c.remove-in-Err.ensures) c.requires.next
