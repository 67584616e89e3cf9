use Rattle.region_interfere.specs.Nd.{plain_nd}
use Rattle.region_interfere.proofs.Transport.{empty-after}
use Rattle.region_interfere.proofs.meeting.first_after.Goals as goal

pub returns-then-is_empty : goal.returns-then-is_empty
returns-then-is_empty c =
    empty-after c.args.given.now (plain_nd c.args.nd) c.args.branches.now c.args.i c.index-branches-i.result c.requires c.index-branches-i.is (c.is_empty.ensures.0 c.if-is_empty.true)
