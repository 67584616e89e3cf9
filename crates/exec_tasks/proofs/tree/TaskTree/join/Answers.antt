-- A join keeps the numbers.
use Rattle.std.proofs.Common.{refl, subst, sym}
use Rattle.exec_tasks.specs.Tree.{joined_task, IsNumbered}
use Rattle.exec_tasks.proofs.Numbers.{numbered_changed}
use Rattle.exec_tasks.proofs.tree.TaskTree.join.Goals as goal

pub invariant_of-self-2 : goal.invariant_of-self-2
invariant_of-self-2 c =
    subst (λ tasks. IsNumbered tasks c.self.inside.begun) (sym c.in_ok-joined.ensures.joined)
    (numbered_changed c.self.inside.tasks c.self.inside.begun c.args.task joined_task (λ t. refl) c.self.invariant)
