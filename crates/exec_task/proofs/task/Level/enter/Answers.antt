use Rattle.std.proofs.lemmas.Result.{IfOk-weaker}
use Rattle.exec_task.proofs.task.Level.enter.Goals as goal

pub returns : goal.returns
returns c = IfOk-weaker c.enter_line.result _ _ (λ s l task fs. rw (← c.in-Some.ensures.line) (l task fs)) c.enter_line.ensures
