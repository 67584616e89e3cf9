-- The last that came is task 0, so all have come.
use Rattle.std.proofs.Common.{arith, sym, subst}
use Rattle.exec_world.specs.Words.{Words, Has}
use Rattle.exec_world.proofs.Sets.{moved_on}
use Rattle.exec_world.proofs.task_queue.TaskQueue.insert_each.Goals as goal

pub returns-then-task-eq0-clause-there : goal.returns-then-task-eq0-clause-there
returns-then-task-eq0-clause-there c = λ q has.
    moved_on c.others.inside.words c.loop-task.self c.insert.new.self c.loop-task.rest c.in-Some.task c.in-Some.ensures c.in_ok-insert.ensures.ok
    c.loop-task.invariant.moved q (omega (arith, c.if-task-eq0.true)) (subst (λ (ws : Words). Has ws q) (sym c.others.view_is) has)
