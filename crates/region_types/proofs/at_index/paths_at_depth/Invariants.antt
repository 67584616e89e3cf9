use Rattle.std.proofs.Common.{◌≡◌, ℕ, take, map}
use Rattle.lang_base.specs.Types.{path_at}
use Rattle.region_types.specs.Depth.{IsDepth}
use Rattle.region_types.proofs.at_index.paths_at_depth.Given as goal

abbrev pub invariant-loop-path : goal.invariant-loop-path
invariant-loop-path l = (n : ℕ) → IsDepth l.depth n → l.made ≡ map (path_at n l.value) (take l.path-index l.paths)
