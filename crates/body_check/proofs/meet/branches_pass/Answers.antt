use Rattle.std.proofs.Common.{arith}
use Rattle.region_interfere.specs.Nd.{plain_nd}
use Rattle.body_check.specs.Methods.{atomic_params}
use Rattle.body_check.proofs.Meeting.{pass_where_counted}
use Rattle.body_check.proofs.meet.branches_pass.Goals as goal

pub returns : goal.returns
returns c =
    pass_where_counted (atomic_params c.args.env.now) c.args.nd c.args.env.now c.given.result.now (plain_nd c.declared_atomic-atomic.result)
    c.args.branches.now c.branches_apart.result (omega arith) c.given.ensures c.declared_atomic-atomic.ensures c.branches_apart.ensures
