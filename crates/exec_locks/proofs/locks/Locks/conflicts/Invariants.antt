use Rattle.std.proofs.Common.{◌≡◌, ◌⊎◌, ℕ, drop, true}
use Rattle.exec_locks.specs.Index.{MetAny, AtMost}
use Rattle.exec_locks.specs.Locks.{hinders}
use Rattle.exec_locks.proofs.Found.{Sound}
use Rattle.exec_locks.proofs.locks.Locks.conflicts.Given as goal

abbrev pub invariant-loop-e : goal.invariant-loop-e
invariant-loop-e l = record {
  sound : Sound (hinders l.search.standings.now l.search.task l.search.wants.now) l.least;
  reach : (q : ℕ) → MetAny l.self-inside.reads l.self-inside.writes q l.wants → hinders l.search.standings.now l.search.task l.search.wants.now q ≡ true
      → AtMost l.least q ⊎ MetAny l.self-inside.reads l.self-inside.writes q (drop l.e-index l.wants);
}
