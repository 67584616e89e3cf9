use Rattle.std.proofs.Common.{◌≡◌, ◌≤◌, ◌+◌, ◌++◌, map, drop, length}
use Rattle.std.specs.Prelude.{vec_len}
use Rattle.std.specs.Vec.{vec_capacity}
use Rattle.lang_base.specs.FirstValues.{constant_of}
use Rattle.exec_heap.proofs.heap.hold_first.Given as goal

abbrev pub invariant-loop-first : goal.invariant-loop-first
invariant-loop-first l = record {
  room : vec_len l.cells + length (drop l.first-index l.fields) ≤ vec_capacity l.cells;
  held : l.cells.items ++ map constant_of (drop l.first-index l.fields) ≡ l.initial.cells.items ++ map constant_of l.fields;
}
