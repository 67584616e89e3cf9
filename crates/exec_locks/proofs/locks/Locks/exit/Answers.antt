-- An entry less of a block keeps its effects.
use Rattle.std.proofs.Common.{sym, subst}
use Rattle.exec_locks.specs.Index.{IsIndexed}
use Rattle.exec_locks.proofs.Indexed.{indexed_exited}
use Rattle.exec_locks.proofs.locks.Locks.exit.Goals as goal

pub invariant_of-self-else-not-leave : goal.invariant_of-self-else-not-leave
invariant_of-self-else-not-leave c =
    subst (IsIndexed c.self.inside.reads c.self.inside.writes) (sym (c.leave.ensures.left c.if-not-leave.false))
    (indexed_exited c.self.inside.reads c.self.inside.writes c.self.inside.standings c.args.task c.self.invariant)
