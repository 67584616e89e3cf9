use Rattle.std.proofs.Common.{◌≡◌, length}
use Rattle.exec_machine.specs.Away.{put_back}
use Rattle.exec_machine.proofs.slots.Slots.put_each.Given as goal

abbrev pub invariant-loop-task : goal.invariant-loop-task
invariant-loop-task l = put_back l.self l.left.items ≡ put_back l.fn.self l.fn.away.items

abbrev pub decreases-loop-task : goal.decreases-loop-task
decreases-loop-task l = length l.left.items
