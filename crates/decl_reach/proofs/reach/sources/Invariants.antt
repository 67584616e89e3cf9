use Rattle.std.proofs.Common.{◌≡◌, ◌++◌, ℕ, [], ◌<◌, length, drop, get_or}
use Rattle.decl_reach.specs.Marking.{sources}
use Rattle.decl_reach.proofs.reach.sources.Given as goal

abbrev pub invariant-loop-edge : goal.invariant-loop-edge
invariant-loop-edge l = record {
  count : length l.made.items ≡ l.count;
  found : (to : ℕ) → to < l.count → get_or l.made.items to [] ++ sources (drop l.edge-index l.edges) to ≡ sources l.edges to;
}
