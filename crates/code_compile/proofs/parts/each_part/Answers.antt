use Rattle.lang_typed.specs.Plain.{plain_stmt}
use Rattle.code_compile.proofs.Emits.{on_ok}
use Rattle.code_compile.proofs.Statements.{parts_emitted}
use Rattle.code_compile.proofs.parts.each_part.Goals as goal

pub returns : goal.returns
returns c =
    on_ok c.spread.result (λ h. parts_emitted _ _ _ _ c.args.place c.args.part.number (plain_stmt c.args.body.now) c.in_ok-line.ensures c.in_ok-line-2.ensures h) c.spread.ensures
