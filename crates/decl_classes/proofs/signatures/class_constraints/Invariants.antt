use Rattle.std.proofs.Common.{◌≡◌, ◌++◌, drop}
use Rattle.decl_headers.specs.Faults.{all_noted}
use Rattle.decl_classes.specs.Rows.{all_constraints, all_constraint_faults}
use Rattle.decl_classes.proofs.signatures.class_constraints.Given as goal

abbrev pub invariant-loop-at : goal.invariant-loop-at
invariant-loop-at l = record {
  given : l.given ++ all_constraints l.headers l.at (drop l.at l.classes) ≡ all_constraints l.headers 0 l.classes;
  noted : all_noted l.faults (all_constraint_faults l.headers l.at (drop l.at l.classes)) ≡ all_noted l.initial.faults (all_constraint_faults l.headers 0 l.classes);
}
