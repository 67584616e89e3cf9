use Rattle.std.proofs.Common.{◌≡◌, drop}
use Rattle.decl_classes.specs.Overriding.{same_kinds}
use Rattle.decl_classes.proofs.overriding.same_kinds.Given as goal

abbrev pub invariant-loop-i : goal.invariant-loop-i
invariant-loop-i l = same_kinds (drop l.i l.own) (drop l.i l.others) ≡ same_kinds l.own l.others
