use Rattle.lang_typed.specs.Plain.{plain_expr}
use Rattle.code_compile.proofs.Emits.{on_ok}
use Rattle.code_compile.proofs.Statements.{one_then_line}
use Rattle.code_compile.proofs.stmts.print.Goals as goal

pub returns-clause-int : goal.returns-clause-int
returns-clause-int c = on_ok c.line.result (λ h. one_then_line _ _ _ _ c.args.place (plain_expr c.args.value.now) c.in_ok-expr.ensures h) c.line.ensures

pub returns-clause-boolean : goal.returns-clause-boolean
returns-clause-boolean c = on_ok c.line.result (λ h. one_then_line _ _ _ _ c.args.place (plain_expr c.args.value.now) c.in_ok-expr.ensures h) c.line.ensures
