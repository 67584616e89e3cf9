use Rattle.std.proofs.Common.{◌+◌, ◌*◌, max}
use denote.Param.Weighed.{most}
use Rattle.lang_typed.specs.declared.expr.Expr.{size-Expr}
use Rattle.body_infer.proofs.callers.+expression_calls.Given as goal

-- the depth of what is left, and which of these functions calls which with as much
abbrev pub decreases-calls_of_expr : goal.decreases-calls_of_expr
decreases-calls_of_expr l = 3 * size-Expr l.e.now

abbrev pub decreases-calls_of_exprs : goal.decreases-calls_of_exprs
decreases-calls_of_exprs l = 3 * most size-Expr l.all.now + 1

abbrev pub decreases-calls_of_call : goal.decreases-calls_of_call
decreases-calls_of_call l = 3 * max (size-Expr l.of.now) (most size-Expr l.actuals.now) + 2

abbrev pub decreases-calls_of_creation : goal.decreases-calls_of_creation
decreases-calls_of_creation l = 3 * most size-Expr l.actuals.now + 2

abbrev pub decreases-calls_of_two : goal.decreases-calls_of_two
decreases-calls_of_two l = 3 * max (size-Expr l.left.now) (size-Expr l.right.now) + 1
