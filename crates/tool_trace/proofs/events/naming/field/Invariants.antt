use Rattle.std.proofs.Common.{◌≡◌, [], length}
use Rattle.std.specs.Prelude.{slice_index_or}
use Rattle.tool_trace.specs.events.Names.{field_name, names_along, spelling_of}
use Rattle.tool_trace.proofs.events.naming.field.Given as goal

abbrev pub invariant-loop-at : goal.invariant-loop-at
invariant-loop-at l = record {
  named : slice_index_or (names_along l.fields l.left) l.slot [] ≡ field_name (spelling_of l.program l.fields) l.class l.fn.slot;
  out : l.out ≡ l.fn.out;
}

abbrev pub decreases-loop-at : goal.decreases-loop-at
decreases-loop-at l = length l.left
