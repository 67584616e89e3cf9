-- A scope has as many branches as a fork at most.
use Rattle.std.proofs.Common.{arith}
use Rattle.exec_tasks.proofs.scope.Scope.begun.Goals as goal

pub overflow_cast-result : goal.overflow_cast-result
overflow_cast-result c = omega (arith, c.len.ensures, c.self.inside.ends.ok.0, c.self.invariant.within, c.self.invariant.small)
