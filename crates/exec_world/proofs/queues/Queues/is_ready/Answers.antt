-- A task that leaves the run queue isn't ready in the tree, or comes into a wait queue.
use Rattle.exec_world.proofs.Places.{forgotten, aside}
use Rattle.exec_world.proofs.queues.Queues.is_ready.Goals as goal

pub returns-in-Unready-clause-places : goal.returns-in-Unready-clause-places
returns-in-Unready-clause-places c = λ q.
    forgotten c.args.world.now.tree c.args.world.now.locks c.args.world.now.waits c.args.self.now c.forget.new.self q c.args.task c.forget.ensures
    c.in-Unready.ensures (c.requires q)

pub returns-in-Hindered-clause-places : goal.returns-in-Hindered-clause-places
returns-in-Hindered-clause-places c = λ q.
    aside c.args.world.now.tree c.args.world.now.locks c.args.world.now.waits c.args.self.now c.put_aside.new.self q c.args.task c.in-Hindered.by
    c.put_aside.ensures c.in-Hindered.ensures (c.requires q)
