use Rattle.body_locals.proofs.Earlier.{assigned_reported}
use Rattle.body_locals.proofs.meeting.add_assigned.Goals as goal

pub returns : goal.returns
returns c = assigned_reported c.args.set.now c.add_all.new.set c.args.branch.now c.as_slice.result.now c.as_slice.ensures c.in_ok-add_all.ensures
