use Rattle.std.proofs.Common.{◌≡◌, ◌++◌, ◌+◌, ◌≤◌, drop}
use Rattle.tool_trace.specs.events.Names.{spelling_of}
use Rattle.tool_trace.specs.events.Text.{lines_from, walk_at_start}
use Rattle.tool_trace.proofs.events.event_lines.lines.Given as goal

abbrev pub invariant-loop-at : goal.invariant-loop-at
invariant-loop-at l = record {
  same : l.out ++ lines_from (spelling_of l.program l.fields) l.walk (l.at + 1) (drop l.at l.events)
      ≡ l.fn.out ++ lines_from (spelling_of l.program l.fields) (walk_at_start l.program.main_class.number) 1 l.events;
  few : l.walk.begun ≤ l.at + 1;
}
