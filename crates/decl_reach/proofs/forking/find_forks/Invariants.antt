use Rattle.std.proofs.Common.{◌≡◌, ◌++◌, length, drop}
use Rattle.std.specs.List.{flat_map}
use Rattle.decl_reach.specs.Bodies.{class_marks}
use Rattle.decl_reach.specs.Edges.{call_edges}
use Rattle.decl_reach.proofs.forking.find_forks.Given as goal

abbrev pub invariant-loop-at : goal.invariant-loop-at
invariant-loop-at l =
    let left = drop l.at l.classes in
    record {
      marks : l.marks.items ++ flat_map class_marks left ≡ flat_map class_marks l.classes;
      edges : l.edges ++ call_edges l.table l.at (length l.marks.items) left ≡ call_edges l.table 0 0 l.classes;
    }
