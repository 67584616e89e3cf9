use Rattle.std.proofs.Common.{◌≡◌, ◌++◌, drop}
use Rattle.decl_classes.proofs.signatures.add_copies.Given as goal

abbrev pub invariant-loop-constraint : goal.invariant-loop-constraint
invariant-loop-constraint l = l.in_force ++ drop l.constraint-index l.given ≡ l.initial.in_force ++ l.given
