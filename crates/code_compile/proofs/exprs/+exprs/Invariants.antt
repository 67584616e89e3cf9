use Rattle.std.proofs.Common.{◌≡◌, ◌+◌, ◌*◌, max, map, drop}
use denote.Param.Weighed.{most}
use Rattle.lang_typed.specs.declared.expr.Expr.{size-Expr}
use Rattle.lang_typed.specs.Plain.{plain_expr, exprs_of}
use Rattle.code_scheme.specs.Scheme.{exprs_piece}
use Rattle.code_compile.specs.Emitted.{emitted_of, after}
use Rattle.code_compile.proofs.exprs.+exprs.Given as goal

-- the depth of what is left, and which of these functions calls which with as much
abbrev pub decreases-expr : goal.decreases-expr
decreases-expr l = 3 * size-Expr l.e.now

abbrev pub decreases-exprs : goal.decreases-exprs
decreases-exprs l = 3 * most size-Expr l.all.now + 1

abbrev pub decreases-read_field : goal.decreases-read_field
decreases-read_field l = 3 * size-Expr l.of.now + 1

abbrev pub decreases-read_element : goal.decreases-read_element
decreases-read_element l = 3 * max (size-Expr l.array.now) (size-Expr l.index.now) + 1

abbrev pub decreases-length : goal.decreases-length
decreases-length l = 3 * size-Expr l.array.now + 1

abbrev pub decreases-call : goal.decreases-call
decreases-call l = 3 * max (size-Expr l.of.now) (most size-Expr l.actuals.now) + 2

abbrev pub decreases-new_object : goal.decreases-new_object
decreases-new_object l = 3 * most size-Expr l.actuals.now + 2

abbrev pub decreases-new_array : goal.decreases-new_array
decreases-new_array l = 3 * size-Expr l.length.now + 1

abbrev pub decreases-unary : goal.decreases-unary
decreases-unary l = 3 * size-Expr l.arg.now + 1

abbrev pub decreases-binary : goal.decreases-binary
decreases-binary l = 3 * max (size-Expr l.left.now) (size-Expr l.right.now) + 1

abbrev pub decreases-both : goal.decreases-both
decreases-both l = 3 * max (size-Expr l.left.now) (size-Expr l.right.now) + 1

abbrev pub decreases-either : goal.decreases-either
decreases-either l = 3 * max (size-Expr l.left.now) (size-Expr l.right.now) + 1

abbrev pub decreases-read_part : goal.decreases-read_part
decreases-read_part l = 3 * size-Expr l.index.now + 1

abbrev pub invariant-exprs-loop-e : goal.invariant-exprs-loop-e
invariant-exprs-loop-e l =
    after (emitted_of l.out) (λ k p. exprs_piece k p (exprs_of (map plain_expr (drop l.e-index l.e-items))))
    ≡ after (emitted_of l.fn.out) (λ k p. exprs_piece k p (exprs_of (map plain_expr l.e-items)))
