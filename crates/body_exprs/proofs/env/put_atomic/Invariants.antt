use Rattle.std.proofs.Common.{◌≡◌, ◌++◌, drop}
use Rattle.body_exprs.specs.Env.{atomic_of}
use Rattle.body_exprs.proofs.env.put_atomic.Given as goal

abbrev pub invariant-loop-param : goal.invariant-loop-param
invariant-loop-param l = l.atomic ++ atomic_of (drop l.param-index l.params) ≡ l.initial.atomic ++ atomic_of l.params
