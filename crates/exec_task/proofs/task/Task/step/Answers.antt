use Rattle.std.proofs.lemmas.Result.{IfOk-weaker}
use Rattle.code_instrs.specs.Plain.{plain_code}
use Rattle.exec_task.proofs.Stepping.{step_nowhere, rested_steps, ended_steps}
use Rattle.exec_task.proofs.task.Task.step.Goals as goal

pub returns-in-Rested-clause-ok : goal.returns-in-Rested-clause-ok
returns-in-Rested-clause-ok c =
    IfOk-weaker c.enter.result _ _ (λ s l. rested_steps (plain_code c.args.code.now) c.args.self.now s c.in-Rested.is l) c.enter.ensures

pub returns-in_ok-copy-in-Ended-clause-ok : goal.returns-in_ok-copy-in-Ended-clause-ok
returns-in_ok-copy-in-Ended-clause-ok c =
    ended_steps (plain_code c.args.code.now) c.args.self.now c.in-Ended.ending c.in_ok-copy-in-Ended.field-0 c.in-Ended.is c.in_ok-copy-in-Ended.ensures

pub returns-in-Nowhere-clause-ok : goal.returns-in-Nowhere-clause-ok
returns-in-Nowhere-clause-ok c = step_nowhere (plain_code c.args.code.now) c.args.self.now c.in-Nowhere.is
