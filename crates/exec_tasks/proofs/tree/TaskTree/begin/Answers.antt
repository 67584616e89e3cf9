-- The next task in the map, before and after its branch has begun.
use Rattle.std.proofs.Common.{◌≡◌, ◌<◌, ◌≢◌, ◌+◌, length, refl, subst, sym, ap, ◌∙◌, arith}
use Rattle.std.specs.FinMap.{get, insert, remove}
use Rattle.exec_tasks.specs.Scope.{with_branch}
use Rattle.exec_tasks.specs.Tree.{Tree, Tasks, OfTask, OfScope, IsNumbered, CanBegin, fresh, next_origin, changed, with_scope}
use Rattle.exec_tasks.proofs.Numbers.{numbered_changed, numbered_inserted, number_below, next_absent, next_rises, taken_back, get_beside}
use Rattle.exec_tasks.proofs.tree.TaskTree.begin.Goals as goal

pub begin-requires : goal.begin-requires
begin-requires c =
    let here : CanBegin c.self.inside.tasks c.args.task = subst (λ (t : Tree). CanBegin t.tasks c.args.task) (sym c.self.view_is) c.requires.branch in
    let below = number_below c.self.inside.tasks c.self.inside.begun c.args.task _ c.self.invariant here in
    let apart : c.args.task ≢ c.self.inside.begun = omega (arith, below) in
    subst (λ o. OfTask o (λ task. OfScope task.state (λ scope. length scope.ends < scope.count)))
    (sym (ap (λ (tasks : Tasks). get tasks c.args.task) c.in_ok-insert.ensures.ok
    ∙ get_beside c.self.inside.tasks c.self.inside.begun c.args.task c.fresh-child.result apart)) here

pub invariant_of-self-in-Err : goal.invariant_of-self-in-Err
invariant_of-self-in-Err c =
    subst (λ tasks. IsNumbered tasks c.self.inside.begun)
    (sym (c.remove.ensures.removed ∙ ap (λ (tasks : Tasks). remove tasks c.self.inside.begun) (c.in-Err.ensures.err ∙ c.in_ok-insert.ensures.ok)
    ∙ taken_back c.self.inside.tasks c.self.inside.begun c.fresh-child.result (next_absent c.self.inside.tasks c.self.inside.begun c.self.invariant)))
    c.self.invariant

pub returns-in-Err-clause-err : goal.returns-in-Err-clause-err
returns-in-Err-clause-err c =
    ap (λ tasks. record { tasks = tasks; begun = c.self.inside.begun; root_end = c.self.inside.root_end })
    (c.remove.ensures.removed ∙ ap (λ (tasks : Tasks). remove tasks c.self.inside.begun) (c.in-Err.ensures.err ∙ c.in_ok-insert.ensures.ok)
    ∙ taken_back c.self.inside.tasks c.self.inside.begun c.fresh-child.result (next_absent c.self.inside.tasks c.self.inside.begun c.self.invariant))
    ∙ c.self.view_is

pub invariant_of-self-2 : goal.invariant_of-self-2
invariant_of-self-2 c =
    let here : CanBegin c.self.inside.tasks c.args.task = subst (λ (t : Tree). CanBegin t.tasks c.args.task) (sym c.self.view_is) c.requires.branch in
    let below = number_below c.self.inside.tasks c.self.inside.begun c.args.task _ c.self.invariant here in
    let child : c.fresh-child.result ≡ fresh (next_origin c.args.task (get c.self.inside.tasks c.args.task)) =
    c.fresh-child.ensures ∙ ap fresh (c.next_origin.ensures ∙ ap (next_origin c.args.task) c.get.ensures) in
    let inserted : IsNumbered (insert c.self.inside.tasks c.self.inside.begun c.fresh-child.result) (c.self.inside.begun + 1) =
    subst (λ t. IsNumbered (insert c.self.inside.tasks c.self.inside.begun t) (c.self.inside.begun + 1)) (sym child)
    (numbered_inserted c.self.inside.tasks c.self.inside.begun _
    (next_rises c.self.inside.begun c.args.task (get c.self.inside.tasks c.args.task) below) c.self.invariant) in
    subst (λ tasks. IsNumbered tasks (c.self.inside.begun + 1)) (sym (c.in_default.ensures.ok
    ∙ ap (λ (tasks : Tasks). changed tasks c.args.task (with_scope with_branch)) c.in_ok-insert.ensures.ok))
    (numbered_changed _ _ c.args.task (with_scope with_branch) (λ t. refl) inserted)
