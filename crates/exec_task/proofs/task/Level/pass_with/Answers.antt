use Rattle.exec_task.proofs.Dropped.{passed_with}
use Rattle.exec_task.proofs.task.Level.pass_with.Goals as goal

pub returns-clause-ok : goal.returns-clause-ok
returns-clause-ok c = passed_with c.args.self.now c.replace.new.self c.args.value c.args.taken c.in_ok-replace.ensures.ok
