use Rattle.std.proofs.Common.{◌≡◌, ◌≤◌, ◌+◌, length}
use Rattle.tool_trace.specs.Runs.{line_from, line_of, runs_of}
use Rattle.tool_trace.proofs.runs.trace_line.Given as goal

abbrev pub invariant-loop-run : goal.invariant-loop-run
invariant-loop-run l = record {
  same : line_from l.line (runs_of l.rest) l.left ≡ line_of l.schedule l.at;
  bound : l.line + length l.rest ≤ 4 + length l.schedule;
}

abbrev pub decreases-loop-run : goal.decreases-loop-run
decreases-loop-run l = length l.rest
