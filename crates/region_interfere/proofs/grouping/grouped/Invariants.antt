use Rattle.region_interfere.specs.Groups.{ShowsFirst}
use Rattle.region_interfere.proofs.grouping.grouped.Given as goal

abbrev pub invariant-loop-i : goal.invariant-loop-i
invariant-loop-i l = ShowsFirst l.groups l.branches l.i
