-- Where the root alone has begun, it is in the run queue.
use Rattle.exec_world.proofs.Places.{opened_places}
use Rattle.exec_world.proofs.queued.QueuedWorld.open.Goals as goal

pub invariant_of-result : goal.invariant_of-result
invariant_of-result c = opened_places c.args.world c.in_ok-queues.queues c.requires c.in_ok-queues.ensures
