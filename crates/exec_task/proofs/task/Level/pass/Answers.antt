use Rattle.exec_task.proofs.Dropped.{passed}
use Rattle.exec_task.proofs.task.Level.pass.Goals as goal

pub returns : goal.returns
returns c = passed c.args.self.now c.drop_top.new.self c.args.taken c.drop_top.ensures
