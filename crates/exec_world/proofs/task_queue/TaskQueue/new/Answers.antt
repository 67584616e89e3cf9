-- The empty set.
use Rattle.exec_world.proofs.Sets.{empty_has, empty_bounded}
use Rattle.exec_world.proofs.task_queue.TaskQueue.new.Goals as goal

pub invariant_of-result : goal.invariant_of-result
invariant_of-result c = empty_bounded c.new.result c.new.ensures

pub returns : goal.returns
returns c = empty_has c.new.result c.new.ensures
