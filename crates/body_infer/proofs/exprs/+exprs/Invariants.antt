use Rattle.std.proofs.Common.{◌≡◌, ◌+◌, ◌*◌, ◌++◌, max, map, drop}
use denote.Param.Weighed.{most}
use Rattle.lang_typed.specs.declared.expr.Expr.{size-Expr}
use Rattle.lang_typed.specs.Plain.{plain_program, plain_expr, exprs_of}
use Rattle.body_infer.specs.Kept.{program_kept}
use Rattle.body_infer.specs.Doing.{done_by_all}
use Rattle.body_infer.specs.Walked.{all_done, scope_of}
use Rattle.body_infer.proofs.exprs.+exprs.Given as goal

-- the depth of what is left, and which of these functions calls which with as much
abbrev pub decreases-expr : goal.decreases-expr
decreases-expr l = 3 * size-Expr l.e.now

abbrev pub decreases-exprs : goal.decreases-exprs
decreases-exprs l = 3 * most size-Expr l.all.now + 1

abbrev pub decreases-read_field : goal.decreases-read_field
decreases-read_field l = 3 * size-Expr l.of.now + 1

abbrev pub decreases-read_element : goal.decreases-read_element
decreases-read_element l = 3 * max (size-Expr l.array.now) (size-Expr l.index.now) + 1

abbrev pub decreases-read_part : goal.decreases-read_part
decreases-read_part l = 3 * size-Expr l.index.now + 1

abbrev pub decreases-call : goal.decreases-call
decreases-call l = 3 * max (size-Expr l.of.now) (most size-Expr l.actuals.now) + 2

abbrev pub decreases-creation : goal.decreases-creation
decreases-creation l = 3 * most size-Expr l.actuals.now + 2

abbrev pub decreases-operands : goal.decreases-operands
decreases-operands l = 3 * max (size-Expr l.left.now) (size-Expr l.right.now) + 1

abbrev pub invariant-exprs-loop-e : goal.invariant-exprs-loop-e
invariant-exprs-loop-e l =
    all_done l.out ++ done_by_all (program_kept l.walk.kept.now (plain_program l.walk.program.now)) (scope_of l.scope) (exprs_of (map plain_expr (drop l.e-index l.e-items)))
    ≡ all_done l.initial.out ++ done_by_all (program_kept l.walk.kept.now (plain_program l.walk.program.now)) (scope_of l.scope) (exprs_of (map plain_expr l.e-items))
