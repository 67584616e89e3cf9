use Rattle.std.proofs.Common.{◌≡◌, ◌++◌, drop}
use Rattle.decl_reach.specs.Edges.{edges_from}
use Rattle.decl_reach.proofs.forking.add_calls.Given as goal

abbrev pub invariant-loop-to : goal.invariant-loop-to
invariant-loop-to l = l.edges ++ edges_from l.from (drop l.to-index l.called) ≡ l.initial.edges ++ edges_from l.from l.called
