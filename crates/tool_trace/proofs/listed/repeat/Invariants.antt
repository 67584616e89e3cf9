use Rattle.std.proofs.Common.{◌≡◌, ◌++◌, replicate}
use Rattle.tool_trace.proofs.listed.repeat.Given as goal

abbrev pub invariant-loop-copy : goal.invariant-loop-copy
invariant-loop-copy l = l.numbers ≡ l.fn.numbers ++ replicate l._copy l.task
