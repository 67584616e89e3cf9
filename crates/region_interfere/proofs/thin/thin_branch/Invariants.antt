use Rattle.std.proofs.Common.{◌≡◌, take}
use Rattle.std.specs.List.{filter}
use Rattle.region_interfere.specs.Kept.{kept}
use Rattle.region_interfere.proofs.thin.thin_branch.Given as goal

abbrev pub invariant-loop-e : goal.invariant-loop-e
invariant-loop-e l = l.left ≡ filter (kept l.kinds l.branch) (take l.e-index l.effects)
