use Rattle.std.proofs.Common.{◌≡◌, not}
use Rattle.body_check.specs.Methods.{atomic_params}
use Rattle.body_check.specs.Checking.{meeting}
use Rattle.body_check.specs.Deciding.{interference}
use Rattle.body_check.specs.Meeting.{branches_interfere}
use Rattle.body_check.specs.Noting.{fault_of}
use Rattle.body_check.specs.Walks.{passes}
use Rattle.body_check.proofs.Passing.{meeting_ends, meeting_first, not_not, settle_stopped, third_is}
use Rattle.body_check.proofs.meet.settle_branches.Goals as goal

pub returns-in_err-settle : goal.returns-in_err-settle
returns-in_err-settle c made w =
    settle_stopped
    (λ v. meeting c.args.node c.args.clash (interference c.args.nd)
    (branches_interfere (atomic_params c.args.env.now) c.args.nd c.args.env.now c.args.branches.now) made w ≡ v)
    (fault_of c.note_if.new.self) c.from_residual.result c.in_err-settle.field-0.0 (λ _. passes made w) c.from_residual.ensures.1
    c.in_err-settle.ensures.result
    (λ q reported. meeting_first c.args.node c.note_if.new.self c.args.clash _ _ made w q c.note_if.ensures.node reported)

pub returns : goal.returns
returns c made w =
    let interferes = branches_interfere (atomic_params c.args.env.now) c.args.nd c.args.env.now c.args.branches.now in
    meeting_ends c.args.node c.note_if.new.self c.note_if-2.new.self c.args.clash interferes (interference c.args.nd) made w c.settle-2.result
    c.note_if.ensures.node c.in_ok-settle.ensures.clean
    (third_is c.note_if.new.self c.settle.new.self c.note_if-2.new.self c.interference.result (interference c.args.nd) (not c.in_ok-pass.pass) interferes
    c.settle.ensures.forgotten c.interference.ensures (not_not c.in_ok-pass.pass interferes c.in_ok-pass.ensures) c.note_if-2.ensures.node)
    c.settle-2.ensures.result
