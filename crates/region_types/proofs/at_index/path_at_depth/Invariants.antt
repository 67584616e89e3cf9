use Rattle.std.proofs.Common.{◌≡◌, ℕ, take, map}
use Rattle.lang_base.specs.Types.{elem_at}
use Rattle.region_types.specs.Depth.{IsDepth}
use Rattle.region_types.proofs.at_index.path_at_depth.Given as goal

abbrev pub invariant-loop-elem : goal.invariant-loop-elem
invariant-loop-elem l = (n : ℕ) → IsDepth l.depth n → l.elems ≡ map (elem_at n l.value) (take l.elem-index l.elem-items)
