use Rattle.lang_typed.specs.Plain.{plain_expr}
use Rattle.code_compile.proofs.Emits.{on_ok}
use Rattle.code_compile.proofs.Statements.{store_emitted}
use Rattle.code_compile.proofs.stmts.store_field.Goals as goal

pub returns : goal.returns
returns c = λ class.
    on_ok c.line.result (λ h. store_emitted _ _ _ _ c.args.place class c.args.field.number (plain_expr c.args.of.now) (plain_expr c.args.value.now)
    c.in_ok-expr.ensures c.in_ok-expr-2.ensures h) c.line.ensures
