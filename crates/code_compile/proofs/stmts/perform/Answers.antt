use Rattle.std.proofs.Common.{◌∙◌, ap, sym}
use Rattle.lang_typed.specs.Plain.{plain_expr}
use Rattle.lang_typed.specs.Resolved.{is_void}
use Rattle.code_compile.proofs.Emits.{on_ok}
use Rattle.code_compile.proofs.Forms.{type_is}
use Rattle.code_compile.proofs.Statements.{perform_dropped, perform_popped}
use Rattle.code_compile.proofs.stmts.perform.Goals as goal

pub returns-then-is_void : goal.returns-then-is_void
returns-then-is_void c =
    perform_dropped _ _ c.args.place (plain_expr c.args.value.now) (ap is_void (type_is c.args.value.now) ∙ sym c.is_void.ensures ∙ c.if-is_void.true) c.in_ok-expr.ensures

pub returns : goal.returns
returns c =
    on_ok c.line.result (λ h. perform_popped _ _ _ c.args.place (plain_expr c.args.value.now) (ap is_void (type_is c.args.value.now) ∙ sym c.is_void.ensures ∙ c.if-is_void.false)
    c.in_ok-expr.ensures h) c.line.ensures
