use Rattle.std.proofs.Common.{◌≡◌, drop}
use Rattle.exec_locks.specs.Locks.{lists_interfere}
use Rattle.exec_locks.proofs.search.lists_interfere.Given as goal

abbrev pub invariant-loop-e : goal.invariant-loop-e
invariant-loop-e l = lists_interfere (drop l.e-index l.wants) l.effects ≡ lists_interfere l.wants l.effects
