use Rattle.std.proofs.Common.{suc, ap, ◌∙◌}
use Rattle.exec_frames.specs.Names.{plain_value}
use Rattle.exec_task.specs.Tasks.{plain_level}
use Rattle.exec_task.proofs.Dropped.{without_receiver}
use Rattle.exec_task.proofs.task.Level.pass_receiver.Goals as goal

pub returns : goal.returns
returns c =
    c.pass.ensures
    ∙ ap (λ st. record (plain_level c.args.self.now) { at = suc c.args.self.now.at; stack = st })
    (without_receiver plain_value c.drop_top.new.self c.args.self.now.stack c.args.above c.drop_top.ensures)
