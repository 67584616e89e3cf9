use Rattle.std.proofs.Common.{◌≡◌, ◌++◌, drop}
use Rattle.exec_tasks.specs.Join.{joined_out}
use Rattle.exec_tasks.proofs.scope.joined_out.Given as goal

abbrev pub invariant-loop-end : goal.invariant-loop-end
invariant-loop-end l = l.out ++ joined_out (drop l.end-index l.ends) ≡ joined_out l.ends
