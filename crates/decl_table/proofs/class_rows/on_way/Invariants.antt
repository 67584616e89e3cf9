use Rattle.std.proofs.Common.{◌≡◌, [], drop, length, replicate}
use Rattle.decl_headers.specs.Headers.{class_count}
use Rattle.decl_headers.specs.Inheriting.{made_at}
use Rattle.decl_headers.specs.Way.{entered_on}
use Rattle.decl_table.specs.Inherited.{members_after}
use Rattle.decl_table.specs.Table.{headers_of}
use Rattle.decl_table.proofs.class_rows.on_way.Given as goal

abbrev pub invariant-loop-step : goal.invariant-loop-step
invariant-loop-step l = record {
  as_many : length l.all.items ≡ length l.own;
  made : entered_on (made_at (headers_of l.table) [] (members_after l.table)) l.all.items (drop l.step-index l.steps)
      ≡ entered_on (made_at (headers_of l.table) [] (members_after l.table)) (replicate (class_count (headers_of l.table)) []) l.steps;
}
