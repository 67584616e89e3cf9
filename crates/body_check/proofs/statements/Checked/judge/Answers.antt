use Rattle.std.proofs.Common.{◌≡◌}
use Rattle.lang_typed.specs.Plain.{plain_stmt as typed_stmt}
use Rattle.body_check.specs.Noting.{fault_of}
use Rattle.body_check.specs.Walks.{judged}
use Rattle.body_check.proofs.Passing.{settle_stopped}
use Rattle.body_check.proofs.statements.Checked.judge.Goals as goal

pub returns-in_err-settle-clause-checks : goal.returns-in_err-settle-clause-checks
returns-in_err-settle-clause-checks c w =
    settle_stopped (λ v. judged (fault_of c.args.node) (typed_stmt c.args.stmt) w ≡ v) (fault_of c.args.node) c.from_residual.result c.in_err-settle.field-0.0 _
    c.from_residual.ensures.1 c.in_err-settle.ensures.result (λ q reported. rw reported)

pub returns-clause-checks : goal.returns-clause-checks
returns-clause-checks c w = rw c.in_ok-settle.ensures.clean
