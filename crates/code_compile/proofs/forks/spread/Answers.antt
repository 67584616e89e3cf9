use Rattle.lang_typed.specs.Plain.{plain_stmt}
use Rattle.code_compile.proofs.Emits.{on_ok}
use Rattle.code_compile.proofs.Statements.{spread_emitted}
use Rattle.code_compile.proofs.forks.spread.Goals as goal

pub returns : goal.returns
returns c =
    on_ok c.line.result (λ h. spread_emitted _ _ _ _ c.args.place c.args.forking c.args.slot c.in_ok-number.number c.args.takes (plain_stmt c.args.body.now) c.in_ok-number.ensures
    c.in_ok-branch.ensures c.in_ok-sited.ensures h) c.line.ensures
