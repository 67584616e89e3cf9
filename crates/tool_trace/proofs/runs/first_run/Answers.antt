use Rattle.std.proofs.Common.{sym}
use Rattle.tool_trace.proofs.Splitting.{first_run-is}
use Rattle.tool_trace.proofs.runs.first_run.Goals as goal

pub returns : goal.returns
returns c =
    first_run-is c.args.schedule.now c.in_ok-task.field-0.now c.equal_front-many.result (sym c.in_ok-task.ensures.value) c.equal_front-many.ensures.within
    c.equal_front-many.ensures.equal c.equal_front-many.ensures.other
