-- A fork keeps the numbers.
use Rattle.std.proofs.Common.{refl, subst, sym}
use Rattle.exec_tasks.specs.Tree.{forked_task, IsNumbered}
use Rattle.exec_tasks.proofs.Numbers.{numbered_changed}
use Rattle.exec_tasks.proofs.tree.TaskTree.fork.Goals as goal

pub invariant_of-self : goal.invariant_of-self
invariant_of-self c =
    subst (λ tasks. IsNumbered tasks c.self.inside.begun) (sym c.fork.ensures)
    (numbered_changed c.self.inside.tasks c.self.inside.begun c.args.task (forked_task c.args.branches) (λ t. refl) c.self.invariant)
