use Rattle.lang_typed.specs.Plain.{plain_expr}
use Rattle.code_compile.proofs.Emits.{on_ok}
use Rattle.code_compile.proofs.Statements.{element_emitted}
use Rattle.code_compile.proofs.stmts.store_element.Goals as goal

pub returns : goal.returns
returns c =
    on_ok c.line.result (λ h. element_emitted _ _ _ _ _ c.args.place (plain_expr c.args.array.now) (plain_expr c.args.index.now) (plain_expr c.args.value.now)
    c.in_ok-expr.ensures c.in_ok-expr-2.ensures c.in_ok-expr-3.ensures h) c.line.ensures
