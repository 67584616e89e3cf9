-- Nobody wants anything.
use Rattle.std.proofs.Common.{subst, sym, ap, ◌∙◌}
use Rattle.std.specs.FinMap.{get, get-empty}
use Rattle.std.specs.Ordering.{nat_cmp}
use Rattle.exec_locks.specs.Locks.{AllRoot}
use Rattle.exec_world.specs.Waits.{Waiting, wanted}
use Rattle.exec_world.proofs.waits.Waits.new.Goals as goal

pub invariant_of-result : goal.invariant_of-result
invariant_of-result c = λ q. subst (λ o. AllRoot (wanted o)) (sym (ap (λ (waits : Waiting). get waits q) c.new.ensures ∙ get-empty nat_cmp q)) tt
