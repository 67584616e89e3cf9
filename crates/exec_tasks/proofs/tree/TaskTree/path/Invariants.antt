use Rattle.exec_tasks.proofs.Paths.{LeadsTo}
use Rattle.exec_tasks.proofs.tree.TaskTree.path.Given as goal

abbrev pub invariant-loop-origin : goal.invariant-loop-origin
invariant-loop-origin l = LeadsTo l.self-inside.tasks l.at l.task l.upwards.items

abbrev pub decreases-loop-origin : goal.decreases-loop-origin
decreases-loop-origin l = l.at
