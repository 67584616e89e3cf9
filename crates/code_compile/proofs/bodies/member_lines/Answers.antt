use Rattle.std.proofs.Common.{◌∙◌, sym}
use Rattle.lang_typed.specs.Plain.{plain_member}
use Rattle.code_compile.specs.Emitted.{emitted_of}
use Rattle.code_compile.proofs.Emits.{on_ok}
use Rattle.code_compile.proofs.Generating.{member_closed, member_open}
use Rattle.code_compile.proofs.bodies.member_lines.Goals as goal

pub returns-then-closes : goal.returns-then-closes
returns-then-closes c =
    on_ok c.line.result (λ h. member_closed (emitted_of c.args.out.now) _ _ (plain_member c.args.member.now) c.requires (sym c.closes.ensures ∙ c.if-closes.true) c.in_ok-stmts.ensures h) c.line.ensures

pub returns : goal.returns
returns c = member_open (emitted_of c.args.out.now) _ (plain_member c.args.member.now) c.requires (sym c.closes.ensures ∙ c.if-closes.false) c.in_ok-stmts.ensures
