-- A task that is given its answer goes on.
use Rattle.std.proofs.Common.{sym, subst}
use Rattle.code_instrs.specs.Plain.{plain_code}
use Rattle.exec_machine.specs.Running.{StandsWith, IsAnswered}
use Rattle.exec_machine.proofs.Delivering.{on_its_way, delivered}
use Rattle.exec_machine.proofs.slot.Slot.deliver.Goals as goal

pub returns-clause-stands : goal.returns-clause-stands
returns-clause-stands c = λ k t g s.
    let x : IsAnswered (plain_code c.args.code.now) k c.args.self.now.task c.in_ok-copy.copy t =
    subst (λ a. IsAnswered (plain_code c.args.code.now) k c.args.self.now.task a t) (sym c.in_ok-copy.ensures)
    (subst (λ o. StandsWith (plain_code c.args.code.now) k c.args.self.now.task o t) c.in-Some.is s) in
    on_its_way (plain_code c.args.code.now) k c.answer.new.self t g
    (delivered (plain_code c.args.code.now) k c.args.self.now.task c.answer.new.self c.in_ok-copy.copy t x c.in_ok-answer.ensures.follows c.answer.ensures.number)
