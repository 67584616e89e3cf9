use Rattle.std.proofs.Common.{IsTrue}
use Rattle.lang_base.specs.Pairs.{NoneBetween}
use Rattle.lang_base.specs.Branches.{lists_clash}
use Rattle.region_interfere.specs.Nd.{plain_nd}
use Rattle.region_interfere.proofs.meeting.first_after.Given as goal

abbrev pub invariant-loop-j : goal.invariant-loop-j
invariant-loop-j l = NoneBetween (λ es fs. IsTrue (lists_clash l.given (plain_nd l.nd) es fs)) l.branches l.fn.i l.j
