use Rattle.std.proofs.Common.{ap}
use Rattle.std.specs.Option.{option_copied}
use Rattle.lang_typed.specs.Plain.{plain_expr, statement, return_form}
use Rattle.code_compile.proofs.Emits.{on_ok}
use Rattle.code_compile.proofs.Statements.{one_then_line, stmt_is}
use Rattle.code_compile.proofs.stmts.leave.Goals as goal

pub returns-in-None : goal.returns-in-None
returns-in-None c =
    on_ok c.line.result (stmt_is (ap (λ o. statement c.args.place (return_form (option_copied o))) c.in-None.is)) c.line.ensures

pub returns-in_ok-expr-in-Some : goal.returns-in_ok-expr-in-Some
returns-in_ok-expr-in-Some c =
    on_ok c.line-in-Some.result (λ h. stmt_is (ap (λ o. statement c.args.place (return_form (option_copied o))) c.in-Some.is)
    (one_then_line _ _ _ _ c.args.place (plain_expr c.in-Some.value.now) c.in_ok-expr-in-Some.ensures h)) c.line-in-Some.ensures
