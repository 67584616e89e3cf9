use Rattle.std.proofs.Common.{◌≡◌, map, take}
use Rattle.lang_base.specs.Branches.{renamed_elem}
use Rattle.region_interfere.proofs.renaming.renamed.Given as goal

abbrev pub invariant-loop-elem : goal.invariant-loop-elem
invariant-loop-elem l = l.elems ≡ map (renamed_elem l.var) (take l.elem-index l.elem-items)
