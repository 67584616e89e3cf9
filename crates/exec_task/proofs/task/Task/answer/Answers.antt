use Rattle.std.proofs.Common.{refl}
use Rattle.code_instrs.specs.Plain.{plain_code}
use Rattle.exec_task.proofs.Resuming.{follows_step, follows_rest}
use Rattle.exec_task.proofs.task.Task.answer.Goals as goal

pub returns-then-self-eq4096-clause-follows : goal.returns-then-self-eq4096-clause-follows
returns-then-self-eq4096-clause-follows c =
    follows_rest (plain_code c.args.code.now) c.args.self.now (record c.args.self.now { ticks = 0 }) c.args.answer c.if-self-eq4096.true refl refl refl

pub returns-clause-follows : goal.returns-clause-follows
returns-clause-follows c =
    follows_step (plain_code c.args.code.now) c.args.self.now (record c.resumed.new.self { standing = c.in_ok-standing.standing; ticks = 0 }) c.args.answer
    c.if-self-eq4096.false c.in_ok-standing.ensures.ok refl c.resumed.ensures.kept.made
