use Rattle.std.proofs.Common.{◌≡◌, drop}
use Rattle.decl_classes.specs.Overriding.{same_constraints}
use Rattle.decl_classes.proofs.overriding.same_constraints.Given as goal

abbrev pub invariant-loop-i : goal.invariant-loop-i
invariant-loop-i l = same_constraints l.args (drop l.i l.own) (drop l.i l.others) ≡ same_constraints l.args l.own l.others
