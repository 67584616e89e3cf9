use Rattle.std.proofs.Common.{◌≡◌, drop}
use Rattle.exec_locks.specs.Locks.{some_interferes}
use Rattle.exec_locks.proofs.search.some_interferes.Given as goal

abbrev pub invariant-loop-f : goal.invariant-loop-f
invariant-loop-f l = some_interferes l.e (drop l.f-index l.effects) ≡ some_interferes l.e l.effects
