-- An end noted in the map.
use Rattle.std.proofs.Common.{ap, ◌∙◌}
use Rattle.exec_tasks.specs.Scope.{with_end}
use Rattle.exec_tasks.specs.Tree.{Tasks, changed, with_scope}
use Rattle.exec_tasks.proofs.Maps.{written, not_written}
use Rattle.exec_tasks.proofs.live.Live.end.Goals as goal

pub returns-in_default : goal.returns-in_default
returns-in_default c =
    not_written c.self.inside.tasks c.args.number (with_scope (λ scope. with_end scope c.args.branch c.args.how)) c.in_default.ensures.value
    ∙ ap (λ (tasks : Tasks). changed tasks c.args.number (with_scope (λ scope. with_end scope c.args.branch c.args.how))) c.self.view_is

pub returns : goal.returns
returns c =
    written c.self.inside.tasks c.args.number _ c.in-Some.task.now (with_scope (λ scope. with_end scope c.args.branch c.args.how)) c.in-Some.ensures.value
    (ap (λ state. record c.in-Some.task.now { state = state }) c.end.ensures)
    ∙ ap (λ (tasks : Tasks). changed tasks c.args.number (with_scope (λ scope. with_end scope c.args.branch c.args.how))) c.self.view_is
