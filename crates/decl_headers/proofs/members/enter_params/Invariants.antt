use Rattle.std.proofs.Common.{◌≡◌, drop}
use Rattle.decl_headers.specs.Faults.{all_noted}
use Rattle.decl_headers.specs.Members.{marks, all_entered, second_names, param_names}
use Rattle.decl_headers.proofs.members.enter_params.Given as goal

abbrev pub invariant-loop-param : goal.invariant-loop-param
invariant-loop-param l = record {
  entered : all_entered (marks l.declared) l.owner (param_names (drop l.param-index l.params)) ≡ all_entered (marks l.initial.declared) l.owner (param_names l.params);
  faults : all_noted l.faults (second_names (marks l.declared) l.owner (param_names (drop l.param-index l.params))) ≡ all_noted l.initial.faults (second_names (marks l.initial.declared) l.owner (param_names l.params));
}
