use Rattle.std.proofs.Common.{◌≡◌, ◌++◌, drop}
use Rattle.exec_tasks.proofs.scope.append.Given as goal

abbrev pub invariant-loop-slot : goal.invariant-loop-slot
invariant-loop-slot l = l.slots ++ drop l.slot-index l.more ≡ l.fn.slots ++ l.more
