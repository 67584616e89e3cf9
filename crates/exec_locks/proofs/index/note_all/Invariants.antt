use Rattle.std.proofs.Common.{drop}
use Rattle.exec_locks.specs.Index.{IsGrown}
use Rattle.exec_locks.proofs.Indexed.{LeadsOn}
use Rattle.exec_locks.proofs.index.note_all.Given as goal

abbrev pub invariant-loop-e : goal.invariant-loop-e
invariant-loop-e l = record {
  leads : LeadsOn l.reads l.writes l.task (drop l.e-index l.effects) l.effects;
  reads : IsGrown l.initial.reads l.reads;
  writes : IsGrown l.initial.writes l.writes;
}
