use Rattle.std.proofs.Common.{◌+◌, ◌*◌, max}
use denote.Param.Weighed.{most}
use Rattle.syntax_tree.specs.declared.expr.Expr.{size-Expr}
use Rattle.body_exprs.proofs.Several.{SoFar}
use Rattle.body_exprs.proofs.typing.+exprs.Given as goal

abbrev pub decreases-expr : goal.decreases-expr
decreases-expr l = 3 * size-Expr l.e.now

abbrev pub decreases-field : goal.decreases-field
decreases-field l = 3 * size-Expr l.of.now + 1

abbrev pub decreases-element : goal.decreases-element
decreases-element l = 3 * max (size-Expr l.array.now) (size-Expr l.index.now) + 1

abbrev pub decreases-method_call : goal.decreases-method_call
decreases-method_call l = 3 * max (size-Expr l.of.now) (most size-Expr l.actuals.now) + 2

abbrev pub decreases-new_object : goal.decreases-new_object
decreases-new_object l = 3 * most size-Expr l.actuals.now + 2

abbrev pub decreases-new_array : goal.decreases-new_array
decreases-new_array l = 3 * size-Expr l.length.now + 1

abbrev pub decreases-one_operand : goal.decreases-one_operand
decreases-one_operand l = 3 * size-Expr l.arg.now + 1

abbrev pub decreases-two_operands : goal.decreases-two_operands
decreases-two_operands l = 3 * max (size-Expr l.left.now) (size-Expr l.right.now) + 1

abbrev pub decreases-exprs : goal.decreases-exprs
decreases-exprs l = 3 * most size-Expr l.all.now + 1

abbrev pub invariant-exprs-loop-e : goal.invariant-exprs-loop-e
invariant-exprs-loop-e l = SoFar l.env l.all l.fn.found l.e-index l.made l.found
