-- The root alone has a number below the count, and no parent.
use Rattle.std.proofs.Common.{subst, sym, ap, ◌∙◌, None}
use Rattle.std.specs.FinMap.{empty, insert}
use Rattle.exec_tasks.specs.Tree.{IsNumbered, fresh}
use Rattle.exec_tasks.proofs.Numbers.{numbered_inserted, numbered_empty}
use Rattle.exec_tasks.proofs.tree.TaskTree.open.Goals as goal

pub invariant_of-result : goal.invariant_of-result
invariant_of-result c =
    subst (λ tasks. IsNumbered tasks 1)
    (sym (c.in_ok-insert.ensures.ok ∙ ap (λ tasks. insert tasks 0 c.fresh.result) c.new-tasks.ensures ∙ ap (insert empty 0) c.fresh.ensures))
    (numbered_inserted empty 0 (fresh None) tt numbered_empty)
