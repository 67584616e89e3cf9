-- A scope joined in the map.
use Rattle.std.proofs.Common.{ap, ◌∙◌, sym, subst}
use Rattle.std.specs.FinMap.{get}
use Rattle.exec_tasks.specs.Join.{JoinsTo}
use Rattle.exec_tasks.specs.Tree.{Tasks, CanJoin, changed, joined_task, ends_in}
use Rattle.exec_tasks.proofs.Maps.{written, put_again, of_none, on_err}
use Rattle.exec_tasks.proofs.live.Live.join.Goals as goal

pub unreachable-requires : goal.unreachable-requires
unreachable-requires c =
    of_none c.self.inside.tasks c.args.number _ c.in_default.ensures.value
    (subst (λ (tasks : Tasks). CanJoin tasks c.args.number) (sym c.self.view_is) c.requires)

pub returns-clause-joined : goal.returns-clause-joined
returns-clause-joined c =
    written c.self.inside.tasks c.args.number _ c.in-Some.task.now (joined_task) c.in-Some.ensures.value
    (c.in_ok-joined.ensures.joined)
    ∙ ap (λ (tasks : Tasks). changed tasks c.args.number (joined_task)) c.self.view_is

pub returns-clause-ok : goal.returns-clause-ok
returns-clause-ok c =
    subst (λ o. JoinsTo (ends_in o) c.in_ok-joined.joined)
    (c.in-Some.ensures.value ∙ ap (λ (tasks : Tasks). get tasks c.args.number) c.self.view_is) c.in_ok-joined.ensures.ok

pub returns-in_err-joined-clause-err : goal.returns-in_err-joined-clause-err
returns-in_err-joined-clause-err c =
    on_err c.from_residual.result _
    (put_again c.self.inside.tasks c.args.number _ c.in-Some.task.now c.in-Some.ensures.value (c.in_err-joined.ensures.err) ∙ c.self.view_is)
