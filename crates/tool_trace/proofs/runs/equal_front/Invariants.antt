use Rattle.std.proofs.Common.{◌≡◌, take, replicate}
use Rattle.tool_trace.proofs.runs.equal_front.Given as goal

abbrev pub invariant-loop-at : goal.invariant-loop-at
invariant-loop-at l = take l.at l.schedule ≡ replicate l.at l.task
