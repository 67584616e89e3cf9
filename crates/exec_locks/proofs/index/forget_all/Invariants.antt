use Rattle.exec_locks.specs.Index.{KeepsOthers}
use Rattle.exec_locks.proofs.index.forget_all.Given as goal

abbrev pub invariant-loop-e : goal.invariant-loop-e
invariant-loop-e l = record {
  reads : KeepsOthers l.task l.initial.reads l.reads;
  writes : KeepsOthers l.task l.initial.writes l.writes;
}
