use Rattle.std.proofs.Common.{◌≡◌, map, take}
use Rattle.lang_base.specs.Branches.{renamed_effect}
use Rattle.region_interfere.proofs.renaming.renamed_all.Given as goal

abbrev pub invariant-loop-e : goal.invariant-loop-e
invariant-loop-e l = l.made ≡ map (renamed_effect l.var) (take l.e-index l.effects)
