use Rattle.std.proofs.Common.{◌≡◌, ◌++◌, length, drop}
use Rattle.std.specs.List.{flat_map}
use Rattle.decl_reach.specs.Bodies.{own_marks}
use Rattle.decl_reach.specs.Edges.{class_edges}
use Rattle.decl_reach.proofs.forking.add_class.Given as goal

abbrev pub invariant-loop-member : goal.invariant-loop-member
invariant-loop-member l =
    let left = drop l.member-index l.member-items in
    record {
      marks : l.marks.items ++ flat_map own_marks left ≡ l.initial.marks.items ++ flat_map own_marks l.member-items;
      edges : l.edges ++ class_edges l.table l.number (length l.marks.items) left ≡ l.initial.edges ++ class_edges l.table l.number (length l.initial.marks.items) l.member-items;
    }
