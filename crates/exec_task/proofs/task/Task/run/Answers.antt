use Rattle.std.proofs.lemmas.Result.{IfOk-weaker}
use Rattle.code_instrs.specs.Plain.{plain_code}
use Rattle.exec_task.specs.Steps.{plain_line}
use Rattle.exec_task.proofs.Stepping.{run_short, run_steps}
use Rattle.exec_task.proofs.task.Task.run.Goals as goal

pub returns-in_default-clause-ok : goal.returns-in_default-clause-ok
returns-in_default-clause-ok c = run_short (plain_code c.args.code.now) c.args.self.now c.requires.at c.in_default.ensures.line

pub returns-clause-ok : goal.returns-clause-ok
returns-clause-ok c =
    IfOk-weaker c.exec.result _ _ (λ s l. run_steps (plain_code c.args.code.now) c.args.self.now c.exec.new.level c.exec.new.callers (plain_line c.in-Some.line) s
    c.requires.at c.in-Some.ensures.line c.in-Some.ensures.next (l c.args.self.now.number)) c.exec.ensures.ok

pub exec-requires-clause-other : goal.exec-requires-clause-other
exec-requires-clause-other c = c.requires.other c.requires.at (plain_line c.in-Some.line) c.in-Some.ensures.line
