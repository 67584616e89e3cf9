use Rattle.body_locals.proofs.Earlier.{used_reported}
use Rattle.body_locals.proofs.meeting.add_used.Goals as goal

pub returns : goal.returns
returns c = used_reported c.args.set.now c.add_all.new.set c.add_all-2.new.set c.args.branch.now c.as_slice.result.now c.as_slice-2.result.now c.as_slice.ensures c.as_slice-2.ensures c.in_ok-add_all.ensures c.in_ok-add_all-2.ensures
