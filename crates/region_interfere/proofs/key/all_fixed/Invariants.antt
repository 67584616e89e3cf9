use Rattle.std.proofs.Common.{◌≡◌, drop}
use Rattle.lang_base.specs.Matching.{all_concrete}
use Rattle.region_interfere.proofs.key.all_fixed.Given as goal

abbrev pub invariant-loop-elem : goal.invariant-loop-elem
invariant-loop-elem l = all_concrete (drop l.elem-index l.elems) ≡ all_concrete l.elems
