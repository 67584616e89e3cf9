use Rattle.std.proofs.Common.{◌≡◌, drop}
use Rattle.decl_headers.specs.Faults.{all_noted}
use Rattle.decl_headers.specs.Members.{marks, all_entered, second_names, formal_names}
use Rattle.decl_headers.proofs.members.enter_formals.Given as goal

abbrev pub invariant-loop-formal : goal.invariant-loop-formal
invariant-loop-formal l = record {
  entered : all_entered (marks l.declared) l.owner (formal_names (drop l.formal-index l.formals)) ≡ all_entered (marks l.initial.declared) l.owner (formal_names l.formals);
  faults : all_noted l.faults (second_names (marks l.declared) l.owner (formal_names (drop l.formal-index l.formals))) ≡ all_noted l.initial.faults (second_names (marks l.initial.declared) l.owner (formal_names l.formals));
}
