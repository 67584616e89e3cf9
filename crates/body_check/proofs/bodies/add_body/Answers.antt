use Rattle.body_check.proofs.Methodic.{body_next, body_pushed, no_body_next, no_body_pushed}
use Rattle.body_check.proofs.bodies.add_body.Goals as goal

pub returns-in_ok-push-clause-next : goal.returns-in_ok-push-clause-next
returns-in_ok-push-clause-next c = body_next c.args.made c.in-Some.body c.args.done.now.next c.saturating_add-done.result c.in-Some.is c.saturating_add-done.ensures

pub returns-in_ok-push-clause-bodies : goal.returns-in_ok-push-clause-bodies
returns-in_ok-push-clause-bodies c = body_pushed c.args.made c.in-Some.body c.args.done.now.bodies c.push.new.self c.in-Some.is c.in_ok-push.ensures.ok

pub returns-in_default-clause-next : goal.returns-in_default-clause-next
returns-in_default-clause-next c = no_body_next c.args.made c.args.done.now.next c.in_default.is

pub returns-in_default-clause-bodies : goal.returns-in_default-clause-bodies
returns-in_default-clause-bodies c = no_body_pushed c.args.made c.args.done.now.bodies c.in_default.is
