use Rattle.lang_typed.specs.Plain.{plain_expr}
use Rattle.code_compile.proofs.Emits.{on_ok}
use Rattle.code_compile.proofs.Statements.{one_then_line}
use Rattle.code_compile.proofs.stmts.store.Goals as goal

pub returns-clause-declared : goal.returns-clause-declared
returns-clause-declared c = λ ty is_final.
    on_ok c.line.result (λ h. one_then_line _ _ _ _ c.args.place (plain_expr c.args.value.now) c.in_ok-expr.ensures h) c.line.ensures

pub returns-clause-assigned : goal.returns-clause-assigned
returns-clause-assigned c = on_ok c.line.result (λ h. one_then_line _ _ _ _ c.args.place (plain_expr c.args.value.now) c.in_ok-expr.ensures h) c.line.ensures
