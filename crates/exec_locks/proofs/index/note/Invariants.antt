use Rattle.std.proofs.Common.{◌≡◌, ℕ, drop, true}
use Rattle.exec_locks.specs.Index.{has}
use Rattle.exec_locks.proofs.Noting.{Leads}
use Rattle.exec_locks.proofs.index.note.Given as goal

abbrev pub invariant-loop-elem : goal.invariant-loop-elem
invariant-loop-elem l = record {
  leads : Leads l.index.under l.task l.number (drop l.elem-index l.elems) l.elems;
  under : (k q : ℕ) → has l.initial.index.under k q ≡ true → has l.index.under k q ≡ true;
  ending : (k q : ℕ) → has l.initial.index.ending k q ≡ true → has l.index.ending k q ≡ true;
}
