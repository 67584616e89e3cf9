use Rattle.std.proofs.Common.{◌≡◌, ◌++◌, drop}
use Rattle.exec_tasks.specs.Join.{all_slots}
use Rattle.exec_tasks.proofs.scope.all_slots.Given as goal

abbrev pub invariant-loop-end : goal.invariant-loop-end
invariant-loop-end l = l.slots ++ all_slots (drop l.end-index l.ends) ≡ all_slots l.ends
