use Rattle.std.proofs.Common.{◌≡◌, drop}
use Rattle.lang_base.specs.Regions.{all_specified}
use Rattle.region_paths.proofs.path.is_full.Given as goal

abbrev pub invariant-loop-elem : goal.invariant-loop-elem
invariant-loop-elem l = all_specified (drop l.elem-index l.elem-items) ≡ all_specified l.elem-items
