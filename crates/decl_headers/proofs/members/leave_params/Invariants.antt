use Rattle.std.proofs.Common.{◌≡◌, drop}
use Rattle.decl_headers.specs.Members.{marks, all_left, param_names}
use Rattle.decl_headers.proofs.members.leave_params.Given as goal

abbrev pub invariant-loop-param : goal.invariant-loop-param
invariant-loop-param l = all_left (marks l.declared) l.owner (param_names (drop l.param-index l.params)) ≡ all_left (marks l.initial.declared) l.owner (param_names l.params)
