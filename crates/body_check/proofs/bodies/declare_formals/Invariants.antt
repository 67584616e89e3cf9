use Rattle.std.proofs.Common.{◌≡◌}
use Rattle.body_exprs.specs.Env.{bare}
use Rattle.body_check.specs.Methods.{formals_declared}
use Rattle.body_check.proofs.bodies.declare_formals.Given as goal

abbrev pub invariant-loop-formal : goal.invariant-loop-formal
invariant-loop-formal l = record {
  home : bare l.env ≡ bare l.fn.env;
  rest : formals_declared l.env l.formal-iterator.a.rest.now l.formal-iterator.b.rest.now ≡ formals_declared l.fn.env l.formals l.types;
}
