use Rattle.std.proofs.Common.{◌≡◌, ◌∙◌, ap}
use Rattle.lang_base.specs.declared.refusal.Kind.TheVariants as kind
use Rattle.syntax_tree.specs.Plain.{plain_stmt}
use Rattle.body_check.specs.Deciding.{interference}
use Rattle.body_check.specs.Noting.{fault_of, with_fault_if}
use Rattle.body_check.specs.Touching.{assigns_outer}
use Rattle.body_check.specs.Walks.{passes}
use Rattle.body_check.proofs.Iterations.{clash_in, iterations_met}
use Rattle.body_check.proofs.Passing.{meeting_ends, meeting_first, settle_stopped, third_is}
use Rattle.body_check.proofs.meet.settle_iterations.Goals as goal

pub returns-in_err-settle : goal.returns-in_err-settle
returns-in_err-settle c made w =
    let assigns = assigns_outer (plain_stmt c.args.iteration.now) in
    settle_stopped
    (λ v. iterations_met c.args.env.now c.args.node c.args.nd c.args.slot (plain_stmt c.args.iteration.now) c.args.found.now
    made w ≡ v)
    (fault_of c.note_if.new.self) c.from_residual-in_err-settle.result c.in_err-settle.field-0.0 (λ _. passes made w) c.from_residual-in_err-settle.ensures.1
    c.in_err-settle.ensures.result
    (λ q reported. meeting_first c.args.node c.note_if.new.self assigns _ _ made w q
    (c.note_if.ensures.node ∙ ap (with_fault_if c.args.node kind.Assign) c.in_ok-assigns_outer.ensures) reported)

pub returns : goal.returns
returns c made w =
    let assigns = assigns_outer (plain_stmt c.args.iteration.now) in
    let clash = clash_in c.args.env.now c.args.nd c.args.slot c.args.found.now in
    meeting_ends c.args.node c.note_if.new.self c.note_if-2.new.self assigns clash (interference c.args.nd) made w c.settle-2.result
    (c.note_if.ensures.node ∙ ap (with_fault_if c.args.node kind.Assign) c.in_ok-assigns_outer.ensures) c.in_ok-settle.ensures.clean
    (third_is c.note_if.new.self c.settle.new.self c.note_if-2.new.self c.interference.result (interference c.args.nd) c.in_ok-clash.clash clash
    c.settle.ensures.forgotten c.interference.ensures c.in_ok-clash.ensures c.note_if-2.ensures.node)
    c.settle-2.ensures.result
