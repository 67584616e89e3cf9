use Rattle.exec_task.proofs.task.Level.load.Goals as goal

pub returns-clause-local_step : goal.returns-clause-local_step
returns-clause-local_step c = rw c.slot-value.ensures at c.push.ensures.local_step
