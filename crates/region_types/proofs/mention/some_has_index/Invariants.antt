use Rattle.std.proofs.Common.{◌≡◌, ℕ, drop}
use Rattle.std.specs.List.{list_any}
use Rattle.lang_base.specs.Types.{has_index}
use Rattle.region_types.specs.Depth.{IsDepth}
use Rattle.region_types.proofs.mention.some_has_index.Given as goal

abbrev pub invariant-loop-path : goal.invariant-loop-path
invariant-loop-path l = (n : ℕ) → IsDepth l.depth n → list_any (has_index n) (drop l.path-index l.paths) ≡ list_any (has_index n) l.paths
