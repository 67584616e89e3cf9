use Rattle.lang_typed.specs.Plain.{plain_expr, plain_stmt}
use Rattle.code_compile.proofs.Emits.{on_ok}
use Rattle.code_compile.proofs.Statements.{foreach_emitted}
use Rattle.code_compile.proofs.stmts.foreach.Goals as goal

pub returns : goal.returns
returns c =
    on_ok c.spread.result (λ h. foreach_emitted _ _ _ _ c.args.place c.args.forking c.args.slot.number (plain_expr c.args.start.now) (plain_expr c.args.count.now) (plain_stmt c.args.body.now)
    c.in_ok-expr.ensures c.in_ok-expr-2.ensures h) c.spread.ensures
