-- The other blocks stay found.
use Rattle.std.proofs.Common.{sym, subst}
use Rattle.exec_locks.specs.Index.{IsIndexed}
use Rattle.exec_locks.proofs.Indexed.{indexed_removed, others_kept}
use Rattle.exec_locks.proofs.locks.Locks.release.Goals as goal

pub invariant_of-self : goal.invariant_of-self
invariant_of-self c =
    subst (IsIndexed c.forget_all.new.reads c.forget_all.new.writes) (sym c.remove.ensures)
    (indexed_removed c.self.inside.reads c.self.inside.writes c.forget_all.new.reads c.forget_all.new.writes c.self.inside.standings c.args.task
    (λ q apart. others_kept c.args.task q c.self.inside.reads c.forget_all.new.reads apart c.forget_all.ensures.reads)
    (λ q apart. others_kept c.args.task q c.self.inside.writes c.forget_all.new.writes apart c.forget_all.ensures.writes) c.self.invariant)
