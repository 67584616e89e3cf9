-- Bytes printed in the map.
use Rattle.std.proofs.Common.{ap, ◌∙◌}
use Rattle.exec_tasks.specs.Tree.{Tasks, changed, printed_task}
use Rattle.exec_tasks.proofs.Maps.{written, put_again, not_written, on_err}
use Rattle.exec_tasks.proofs.live.Live.print.Goals as goal

pub returns-in_default-clause-ok : goal.returns-in_default-clause-ok
returns-in_default-clause-ok c =
    not_written c.self.inside.tasks c.args.number (printed_task c.args.bytes.now) c.in_default.ensures.value
    ∙ ap (λ (tasks : Tasks). changed tasks c.args.number (printed_task c.args.bytes.now)) c.self.view_is

pub returns-clause-ok : goal.returns-clause-ok
returns-clause-ok c =
    written c.self.inside.tasks c.args.number _ c.in-Some.task.now (printed_task c.args.bytes.now) c.in-Some.ensures.value
    (ap (λ out. record c.in-Some.task.now { out = out }) c.in_ok-extend.ensures.ok)
    ∙ ap (λ (tasks : Tasks). changed tasks c.args.number (printed_task c.args.bytes.now)) c.self.view_is

pub returns-in_err-extend-clause-err : goal.returns-in_err-extend-clause-err
returns-in_err-extend-clause-err c =
    on_err c.from_residual.result _
    (put_again c.self.inside.tasks c.args.number _ c.in-Some.task.now c.in-Some.ensures.value
    (ap (λ out. record c.in-Some.task.now { out = out }) c.in_err-extend.ensures.err) ∙ c.self.view_is)
