use Rattle.lang_typed.specs.Plain.{plain_expr}
use Rattle.code_compile.proofs.Emits.{on_ok}
use Rattle.code_compile.proofs.Statements.{part_emitted}
use Rattle.code_compile.proofs.stmts.store_part.Goals as goal

pub returns : goal.returns
returns c =
    on_ok c.line-2.result (λ h. part_emitted _ _ _ _ _ c.args.place c.args.part.number (plain_expr c.args.index.now) (plain_expr c.args.value.now)
    c.in_ok-expr.ensures c.in_ok-expr-2.ensures c.in_ok-line.ensures h) c.line-2.ensures
