use Rattle.std.proofs.Common.{◌≡◌, ◌⊎◌, ℕ, drop, true}
use Rattle.exec_locks.specs.Index.{first_number, Met, AtMost}
use Rattle.exec_locks.specs.Locks.{hinders}
use Rattle.exec_locks.proofs.Found.{Sound}
use Rattle.exec_locks.proofs.search.least_meeting.Given as goal

abbrev pub invariant-loop-elem : goal.invariant-loop-elem
invariant-loop-elem l = record {
  sound : Sound (hinders l.search.standings.now l.search.task l.search.wants.now) l.least;
  reach : (q : ℕ) → Met l.index.under l.index.ending q first_number l.elems → hinders l.search.standings.now l.search.task l.search.wants.now q ≡ true
      → AtMost l.least q ⊎ Met l.index.under l.index.ending q l.number (drop l.elem-index l.elems);
}
