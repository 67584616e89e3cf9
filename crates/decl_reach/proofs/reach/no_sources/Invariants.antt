use Rattle.std.proofs.Common.{◌≡◌, [], replicate}
use Rattle.decl_reach.proofs.reach.no_sources.Given as goal

abbrev pub invariant-loop-to : goal.invariant-loop-to
invariant-loop-to l = l.made.items ≡ replicate l._to []
