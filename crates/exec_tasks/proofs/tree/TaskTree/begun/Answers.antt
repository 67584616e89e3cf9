-- No task from the count on.
use Rattle.std.proofs.Common.{◌≡◌, ◌≤◌, ℕ, subst, None}
use Rattle.exec_tasks.specs.Tree.{Tree, task_at}
use Rattle.exec_tasks.proofs.Numbers.{absent_from}
use Rattle.exec_tasks.proofs.tree.TaskTree.begun.Goals as goal

pub returns-clause-all : goal.returns-clause-all
returns-clause-all c =
    subst (λ (t : Tree). (q : ℕ) → t.begun ≤ q → task_at t q ≡ None) c.self.view_is (absent_from c.self.inside.tasks c.self.inside.begun c.self.invariant)
