-- A task goes on its way.
use Rattle.std.proofs.Common.{sym, subst}
use Rattle.code_instrs.specs.Plain.{plain_code}
use Rattle.exec_machine.specs.Running.{StandsWith, OnItsWay}
use Rattle.exec_machine.proofs.Delivering.{ran_on}
use Rattle.exec_machine.proofs.slot.Slot.advance.Goals as goal

pub run_to_action-requires-clause-ends : goal.run_to_action-requires-clause-ends
run_to_action-requires-clause-ends c =
    let s = c.deliver.ensures.stands c.requires.stands.0 c.requires.stands.1 c.requires.stands.2 c.requires.stands.3 in
    let way : OnItsWay (plain_code c.args.code.now) c.requires.stands.0 c.deliver.new.self.task c.requires.stands.1 =
    subst (λ o. StandsWith (plain_code c.args.code.now) c.requires.stands.0 c.deliver.new.self.task o c.requires.stands.1) c.in_ok-deliver.ensures.given s in
    way.ends

pub run_to_action-requires-clause-paced : goal.run_to_action-requires-clause-paced
run_to_action-requires-clause-paced c =
    let s = c.deliver.ensures.stands c.requires.stands.0 c.requires.stands.1 c.requires.stands.2 c.requires.stands.3 in
    let way : OnItsWay (plain_code c.args.code.now) c.requires.stands.0 c.deliver.new.self.task c.requires.stands.1 =
    subst (λ o. StandsWith (plain_code c.args.code.now) c.requires.stands.0 c.deliver.new.self.task o c.requires.stands.1) c.in_ok-deliver.ensures.given s in
    way.paced

pub returns-clause-stands : goal.returns-clause-stands
returns-clause-stands c = λ k t g s.
    let way : OnItsWay (plain_code c.args.code.now) k c.deliver.new.self.task t =
    subst (λ o. StandsWith (plain_code c.args.code.now) k c.deliver.new.self.task o t) c.in_ok-deliver.ensures.given (c.deliver.ensures.stands k t g s) in
    subst (λ o. StandsWith (plain_code c.args.code.now) k c.run_to_action.new.self o t) (sym c.in_ok-deliver.ensures.given)
    (ran_on (plain_code c.args.code.now) k c.deliver.new.self.task c.run_to_action.new.self t way c.run_to_action.ensures.running c.run_to_action.ensures.number c.run_to_action.ensures.ends c.run_to_action.ensures.paced)
