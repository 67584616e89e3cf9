use Rattle.std.proofs.Common.{◌≡◌, drop}
use Rattle.decl_headers.specs.Faults.{all_noted}
use Rattle.decl_headers.specs.Members.{marks, all_entered, second_names}
use Rattle.decl_headers.proofs.members.enter_names.Given as goal

abbrev pub invariant-loop-named : goal.invariant-loop-named
invariant-loop-named l = record {
  entered : all_entered (marks l.declared) l.owner (drop l.named-index l.names) ≡ all_entered (marks l.initial.declared) l.owner l.names;
  faults : all_noted l.faults (second_names (marks l.declared) l.owner (drop l.named-index l.names)) ≡ all_noted l.initial.faults (second_names (marks l.initial.declared) l.owner l.names);
}
