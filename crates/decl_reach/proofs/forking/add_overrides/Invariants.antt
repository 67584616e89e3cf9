use Rattle.std.proofs.Common.{◌≡◌, ◌++◌, take}
use Rattle.decl_reach.specs.Bodies.{override_edges}
use Rattle.decl_reach.proofs.forking.add_overrides.Given as goal

abbrev pub invariant-loop-row : goal.invariant-loop-row
invariant-loop-row l = l.edges ≡ l.initial.edges ++ override_edges l.table (take l.row-index l.row-items)
