use Rattle.std.proofs.Common.{◌≡◌, drop, fold}
use Rattle.decl_resolve.specs.Scoped.{with_name}
use Rattle.decl_reach.specs.Calls.{IsPaired, formal_shapes}
use Rattle.decl_reach.specs.Shapes.{tree_shape}
use Rattle.decl_table.specs.Table.{headers_of}
use Rattle.decl_reach.proofs.calls.reached_by.Given as goal

abbrev pub invariant-loop-formal : goal.invariant-loop-formal
invariant-loop-formal l = record {
  locals : fold (λ locals formal. with_name locals formal.name (tree_shape (headers_of l.table) formal.ty)) l.locals (drop l.formal-index l.formal-items) ≡ formal_shapes (headers_of l.table) l.formal-items;
  paired : IsPaired l.locals;
}
