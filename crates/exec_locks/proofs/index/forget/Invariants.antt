use Rattle.std.proofs.Common.{◌≡◌, ◌≢◌, ℕ, true}
use Rattle.exec_locks.specs.Index.{has}
use Rattle.exec_locks.proofs.index.forget.Given as goal

abbrev pub invariant-loop-elem : goal.invariant-loop-elem
invariant-loop-elem l = record {
  under : (k q : ℕ) → q ≢ l.task → has l.initial.index.under k q ≡ true → has l.index.under k q ≡ true;
  ending : (k q : ℕ) → q ≢ l.task → has l.initial.index.ending k q ≡ true → has l.index.ending k q ≡ true;
}
