-- An adopted task holds no block.
use Rattle.std.proofs.Common.{sym, subst}
use Rattle.exec_locks.specs.Index.{IsIndexed}
use Rattle.exec_locks.proofs.Indexed.{indexed_inserted, keeps_itself}
use Rattle.exec_locks.proofs.locks.Locks.adopt.Goals as goal

pub invariant_of-self-2 : goal.invariant_of-self-2
invariant_of-self-2 c =
    subst (IsIndexed c.self.inside.reads c.self.inside.writes) (sym c.in_ok-insert.ensures.ok)
    (indexed_inserted c.self.inside.reads c.self.inside.writes c.self.inside.reads c.self.inside.writes c.self.inside.standings c.args.task _ tt
    (λ q apart. keeps_itself q c.self.inside.reads) (λ q apart. keeps_itself q c.self.inside.writes) c.self.invariant)
