-- A branch begun in the map.
use Rattle.std.proofs.Common.{ap, sym, subst, ◌∙◌}
use Rattle.exec_tasks.specs.Scope.{with_branch}
use Rattle.exec_tasks.specs.Tree.{Tasks, CanBegin, changed, with_scope}
use Rattle.exec_tasks.proofs.Maps.{written, put_again, of_found, of_none, on_err}
use Rattle.exec_tasks.proofs.live.Live.begin.Goals as goal

pub unreachable-requires : goal.unreachable-requires
unreachable-requires c =
    of_none c.self.inside.tasks c.args.number _ c.in_default.ensures.value
    (subst (λ (tasks : Tasks). CanBegin tasks c.args.number) (sym c.self.view_is) c.requires)

pub begin-requires : goal.begin-requires
begin-requires c =
    of_found c.self.inside.tasks c.args.number c.in-Some.task.now _ c.in-Some.ensures.value
    (subst (λ (tasks : Tasks). CanBegin tasks c.args.number) (sym c.self.view_is) c.requires)

pub returns-clause-ok : goal.returns-clause-ok
returns-clause-ok c =
    written c.self.inside.tasks c.args.number _ c.in-Some.task.now (with_scope with_branch) c.in-Some.ensures.value
    (ap (λ state. record c.in-Some.task.now { state = state }) c.in_ok-begin.ensures.ok)
    ∙ ap (λ (tasks : Tasks). changed tasks c.args.number (with_scope with_branch)) c.self.view_is

pub returns-in_err-begin-clause-err : goal.returns-in_err-begin-clause-err
returns-in_err-begin-clause-err c =
    on_err c.from_residual.result _
    (put_again c.self.inside.tasks c.args.number _ c.in-Some.task.now c.in-Some.ensures.value
    (ap (λ state. record c.in-Some.task.now { state = state }) c.in_err-begin.ensures.err) ∙ c.self.view_is)
