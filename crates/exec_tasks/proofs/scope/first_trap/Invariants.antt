use Rattle.std.proofs.Common.{◌≡◌, drop}
use Rattle.exec_tasks.specs.Join.{first_trap}
use Rattle.exec_tasks.proofs.scope.first_trap.Given as goal

abbrev pub invariant-loop-end : goal.invariant-loop-end
invariant-loop-end l = first_trap (drop l.end-index l.ends) ≡ first_trap l.ends
