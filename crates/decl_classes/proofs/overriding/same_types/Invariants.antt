use Rattle.std.proofs.Common.{◌≡◌, drop}
use Rattle.decl_classes.specs.Overriding.{same_types}
use Rattle.decl_classes.proofs.overriding.same_types.Given as goal

abbrev pub invariant-loop-i : goal.invariant-loop-i
invariant-loop-i l = same_types l.args (drop l.i l.own) (drop l.i l.others) ≡ same_types l.args l.own l.others
