use Rattle.std.proofs.Common.{◌≡◌, drop}
use Rattle.lang_base.specs.Branches.{some_clashes}
use Rattle.region_interfere.specs.Nd.{plain_nd}
use Rattle.region_interfere.proofs.clash.some_clashes.Given as goal

abbrev pub invariant-loop-f : goal.invariant-loop-f
invariant-loop-f l = some_clashes l.given (plain_nd l.nd) l.e (drop l.f-index l.others) ≡ some_clashes l.given (plain_nd l.nd) l.e l.others
