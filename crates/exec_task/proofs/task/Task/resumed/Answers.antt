use Rattle.std.proofs.lemmas.Result.{IfOk-weaker}
use Rattle.code_instrs.specs.Machine.{Nowhere}
use Rattle.code_instrs.specs.Plain.{plain_code}
use Rattle.exec_task.specs.Steps.{plain_line}
use Rattle.exec_task.specs.Tasks.{plain_answer, state_in}
use Rattle.exec_task.proofs.Resuming.{leads_on, leads_short, leads_ended, leads_nowhere, leads_rested}
use Rattle.exec_task.proofs.task.Task.resumed.Goals as goal

pub returns-in_default-clause-ok : goal.returns-in_default-clause-ok
returns-in_default-clause-ok c = leads_short (plain_code c.args.code.now) (plain_answer c.args.answer) Nowhere c.args.self.now c.in_default.ensures.line

pub returns-in-At-clause-ok : goal.returns-in-At-clause-ok
returns-in-At-clause-ok c =
    IfOk-weaker c.resume.result _ _ (λ s l. leads_on (plain_code c.args.code.now) (plain_answer c.args.answer) (state_in s c.resume.new.level c.resume.new.callers)
    c.args.self.now (plain_line c.in-Some.line) c.in-At.is c.in-Some.ensures.line (l c.args.self.now.number)) c.resume.ensures.ok

pub returns-in-Rested-clause-ok : goal.returns-in-Rested-clause-ok
returns-in-Rested-clause-ok c =
    leads_rested (plain_code c.args.code.now) (plain_answer c.args.answer) (state_in c.after_nothing.result c.after_nothing.new.self c.args.self.now.callers)
    c.args.self.now (plain_line c.in-Some.line) c.in-Rested.is c.in-Some.ensures.line (c.after_nothing.ensures c.args.self.now.callers)

pub returns-in-Ended-clause-ok : goal.returns-in-Ended-clause-ok
returns-in-Ended-clause-ok c = leads_ended (plain_code c.args.code.now) (plain_answer c.args.answer) Nowhere c.args.self.now c.in-Ended.ending c.in-Ended.is

pub returns-in-Nowhere-clause-ok : goal.returns-in-Nowhere-clause-ok
returns-in-Nowhere-clause-ok c = leads_nowhere (plain_code c.args.code.now) (plain_answer c.args.answer) Nowhere c.args.self.now c.in-Nowhere.is
