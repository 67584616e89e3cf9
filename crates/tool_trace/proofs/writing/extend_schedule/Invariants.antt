use Rattle.std.proofs.Common.{◌≡◌, ◌++◌, ◌≤◌, length}
use Rattle.tool_trace.specs.Text.{schedule_text}
use Rattle.tool_trace.proofs.writing.extend_schedule.Given as goal

abbrev pub invariant-loop-run : goal.invariant-loop-run
invariant-loop-run l = record {
  same : l.text ++ schedule_text l.rest ≡ l.fn.text ++ schedule_text l.schedule;
  within : length l.rest ≤ length l.schedule;
}

abbrev pub decreases-loop-run : goal.decreases-loop-run
decreases-loop-run l = length l.rest
