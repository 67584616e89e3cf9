use Rattle.std.proofs.Common.{◌≡◌, ◌∙◌, ◌+◌, false, not, ap}
use Rattle.lang_base.specs.declared.refusal.Kind.TheVariants as kind
use Rattle.region_interfere.specs.Uses.{parts_interfere}
use Rattle.syntax_tree.specs.Plain.{plain_stmt}
use Rattle.body_exprs.specs.Env.{given_in}
use Rattle.body_check.specs.Checking.{meeting}
use Rattle.body_check.specs.Deciding.{interference}
use Rattle.body_check.specs.Noting.{fault_of, with_fault_if}
use Rattle.body_check.specs.Touching.{assigns_outer}
use Rattle.body_check.specs.Walks.{passes}
use Rattle.body_check.proofs.Passing.{meeting_ends, meeting_first, not_not, settle_stopped, third_is}
use Rattle.body_check.proofs.meet.settle_parts.Goals as goal

pub returns-in_err-settle : goal.returns-in_err-settle
returns-in_err-settle c made w =
    let assigns = assigns_outer (plain_stmt c.args.iteration.now) in
    let interferes = parts_interfere (given_in c.args.env.now) c.args.part (c.args.part + 4) c.args.found.now.effects c.args.found.now.uses in
    settle_stopped (λ v. meeting c.args.node assigns (interference false) interferes made w ≡ v)
    (fault_of c.note_if.new.self) c.from_residual-in_err-settle.result c.in_err-settle.field-0.0 (λ _. passes made w) c.from_residual-in_err-settle.ensures.1
    c.in_err-settle.ensures.result
    (λ q reported. meeting_first c.args.node c.note_if.new.self assigns _ _ made w q
    (c.note_if.ensures.node ∙ ap (with_fault_if c.args.node kind.Assign) c.in_ok-assigns_outer.ensures) reported)

pub returns : goal.returns
returns c made w =
    let assigns = assigns_outer (plain_stmt c.args.iteration.now) in
    let interferes = parts_interfere (given_in c.args.env.now) c.args.part (c.args.part + 4) c.args.found.now.effects c.args.found.now.uses in
    meeting_ends c.args.node c.note_if.new.self c.note_if-2.new.self assigns interferes (interference false) made w c.settle-2.result
    (c.note_if.ensures.node ∙ ap (with_fault_if c.args.node kind.Assign) c.in_ok-assigns_outer.ensures) c.in_ok-settle.ensures.clean
    (third_is c.note_if.new.self c.settle.new.self c.note_if-2.new.self c.interference.result (interference false) (not c.in_ok-pass.pass) interferes
    c.settle.ensures.forgotten c.interference.ensures (not_not c.in_ok-pass.pass interferes c.in_ok-pass.ensures) c.note_if-2.ensures.node)
    c.settle-2.ensures.result
