-- Without blocks all are found.
use Rattle.std.proofs.Common.{sym, subst}
use Rattle.exec_locks.specs.Index.{IsIndexed}
use Rattle.exec_locks.proofs.Indexed.{indexed_empty}
use Rattle.exec_locks.proofs.locks.Locks.new.Goals as goal

pub invariant_of-result : goal.invariant_of-result
invariant_of-result c = subst (IsIndexed c.new-2.result c.new-3.result) (sym c.new.ensures) (indexed_empty c.new-2.result c.new-3.result)
