use Rattle.lang_typed.specs.Plain.{plain_expr, plain_stmt}
use Rattle.code_compile.proofs.Emits.{on_ok}
use Rattle.code_compile.proofs.Statements.{whole_part_emitted}
use Rattle.code_compile.proofs.parts.of_part.Goals as goal

pub returns : goal.returns
returns c =
    on_ok c.each_part.result (λ h. whole_part_emitted _ _ _ _ _ _ _ _ _ _ c.args.place c.args.part.number c.args.whole.number (plain_expr c.args.count.now) (plain_stmt c.args.body.now)
    c.in_ok-line.ensures c.in_ok-line-2.ensures c.in_ok-line-3.ensures c.in_ok-line-4.ensures c.in_ok-expr.ensures c.in_ok-line-5.ensures c.in_ok-line-6.ensures c.in_ok-line-7.ensures h)
    c.each_part.ensures
