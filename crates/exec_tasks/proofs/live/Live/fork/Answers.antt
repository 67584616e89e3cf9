-- A scope opened in the map.
use Rattle.std.proofs.Common.{ap, ◌∙◌}
use Rattle.exec_tasks.specs.Tree.{Tasks, changed, forked_task, next}
use Rattle.exec_tasks.specs.declared.task.State.TheVariants.{Forked}
use Rattle.exec_tasks.proofs.Maps.{written, not_written}
use Rattle.exec_tasks.proofs.live.Live.fork.Goals as goal

pub returns-in_default : goal.returns-in_default
returns-in_default c =
    not_written c.self.inside.tasks c.args.number (forked_task c.args.count) c.in_default.ensures.value
    ∙ ap (λ (tasks : Tasks). changed tasks c.args.number (forked_task c.args.count)) c.self.view_is

pub returns : goal.returns
returns c =
    written c.self.inside.tasks c.args.number _ c.in-Some.task.now (forked_task c.args.count) c.in-Some.ensures.value
    (ap (λ forks. record c.in-Some.task.now { forks = forks; state = Forked c.open.result }) c.saturating_add-task.ensures
    ∙ ap (λ scope. record c.in-Some.task.now { forks = next c.in-Some.task.now.forks; state = Forked scope }) c.open.ensures)
    ∙ ap (λ (tasks : Tasks). changed tasks c.args.number (forked_task c.args.count)) c.self.view_is
