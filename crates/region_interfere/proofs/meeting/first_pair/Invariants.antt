use Rattle.std.proofs.Common.{IsTrue}
use Rattle.lang_base.specs.Pairs.{NoneBefore}
use Rattle.lang_base.specs.Branches.{lists_clash}
use Rattle.region_interfere.specs.Nd.{plain_nd}
use Rattle.region_interfere.proofs.meeting.first_pair.Given as goal

abbrev pub invariant-loop-i : goal.invariant-loop-i
invariant-loop-i l = NoneBefore (λ es fs. IsTrue (lists_clash l.given (plain_nd l.nd) es fs)) l.branches l.i
