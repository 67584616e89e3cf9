use Rattle.std.proofs.Common.{sym, subst}
use Rattle.code_instrs.specs.Plain.{plain_code}
use Rattle.exec_task.specs.Fuel.{Least}
use Rattle.exec_task.proofs.RunningToAction.{least_of, ends_of}
use Rattle.exec_task.proofs.task.Task.run_to_action.Goals as goal

pub invariant_of-running : goal.invariant_of-running
invariant_of-running c = record {
  ends = subst (Least (plain_code c.args.code.now)) (sym c.replace-task.ensures.value) (least_of (plain_code c.args.code.now) c.args.self.now c.requires.ends);
}

pub returns-clause-ends : goal.returns-clause-ends
returns-clause-ends c =
    ends_of (plain_code c.args.code.now) c.run_to_action-action.new.running.task
    (subst (λ k. Least (plain_code k) c.run_to_action-action.new.running.task) c.run_to_action-action.ensures.code c.run_to_action-action.new.running.ends)
