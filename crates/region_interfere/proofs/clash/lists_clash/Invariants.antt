use Rattle.std.proofs.Common.{◌≡◌, drop}
use Rattle.lang_base.specs.Branches.{lists_clash}
use Rattle.region_interfere.specs.Nd.{plain_nd}
use Rattle.region_interfere.proofs.clash.lists_clash.Given as goal

abbrev pub invariant-loop-e : goal.invariant-loop-e
invariant-loop-e l = lists_clash l.given (plain_nd l.nd) (drop l.e-index l.effects) l.others ≡ lists_clash l.given (plain_nd l.nd) l.effects l.others
