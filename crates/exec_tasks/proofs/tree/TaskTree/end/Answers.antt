-- An end keeps the numbers.
use Rattle.std.proofs.Common.{refl, subst, sym}
use Rattle.exec_tasks.specs.Scope.{with_end}
use Rattle.exec_tasks.specs.Tree.{with_scope, IsNumbered}
use Rattle.exec_tasks.proofs.Numbers.{numbered_changed, numbered_removed}
use Rattle.exec_tasks.proofs.tree.TaskTree.end.Goals as goal

pub invariant_of-self : goal.invariant_of-self
invariant_of-self c =
    subst (λ tasks. IsNumbered tasks c.self.inside.begun) (sym c.remove.ensures.removed)
    (numbered_removed c.self.inside.tasks c.self.inside.begun c.args.task c.self.invariant)

pub invariant_of-self-in-None-2 : goal.invariant_of-self-in-None-2
invariant_of-self-in-None-2 c =
    subst (λ tasks. IsNumbered tasks c.self.inside.begun) (sym c.remove.ensures.removed)
    (numbered_removed c.self.inside.tasks c.self.inside.begun c.args.task c.self.invariant)

pub invariant_of-self-in-Some-origin : goal.invariant_of-self-in-Some-origin
invariant_of-self-in-Some-origin c =
    subst (λ tasks. IsNumbered tasks c.self.inside.begun) (sym c.end.ensures)
    (numbered_changed c.remove.new.self c.self.inside.begun c.in-Some-origin.origin.parent
    (with_scope (λ scope. with_end scope c.in-Some-origin.origin.step.branch c.new-how.result)) (λ t. refl)
    (subst (λ tasks. IsNumbered tasks c.self.inside.begun) (sym c.remove.ensures.removed)
    (numbered_removed c.self.inside.tasks c.self.inside.begun c.args.task c.self.invariant)))
