use Rattle.std.proofs.Common.{◌≡◌, Err, Ok, map}
use Rattle.body_assembly.specs.Assembled.{plain_body}
use Rattle.body_check.specs.Methods.{check_classes, BodiesChecking}
use Rattle.body_check.proofs.Fresh.{whole_from}
use Rattle.body_check.proofs.Methodic.{stopped_at}
use Rattle.body_check.proofs.bodies.check.Goals as goal

pub returns-in_err-bodies-clause-checks : goal.returns-in_err-bodies-clause-checks
returns-in_err-bodies-clause-checks c =
    stopped_at (λ q. check_classes c.new-env.result 0 c.as_slice.result.now 0 ≡ Err q)
    (BodiesChecking c.args.program.now c.args.table.now) c.from_residual.result _ c.in_err-bodies.field-0.0 c.from_residual.ensures.1
    (λ q d.
    whole_from c.args.program.now c.args.table.now c.length_name.result c.new-env.result c.as_slice.result.now (Err q)
    c.length_name.ensures c.new-env.ensures c.as_slice.ensures d)
    c.in_err-bodies.ensures.checks

pub returns-clause-checks : goal.returns-clause-checks
returns-clause-checks c =
    whole_from c.args.program.now c.args.table.now c.length_name.result c.new-env.result c.as_slice.result.now
    (Ok (map plain_body c.in_ok-bodies.bodies)) c.length_name.ensures c.new-env.ensures c.as_slice.ensures c.in_ok-bodies.ensures.checks
