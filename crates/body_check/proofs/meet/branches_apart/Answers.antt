use Rattle.region_interfere.specs.Nd.{plain_nd}
use Rattle.body_check.proofs.Meeting.{interfere_where_some}
use Rattle.body_check.proofs.meet.branches_apart.Goals as goal

pub returns : goal.returns
returns c =
    interfere_where_some c.args.given.now (plain_nd c.args.nd) c.args.branches.now c.in_ok-first_meeting.field-0 c.is_none.result
    c.in_ok-first_meeting.ensures c.is_none.ensures
