use Rattle.std.proofs.Common.{◌≡◌, drop}
use Rattle.decl_headers.specs.Members.{marks, all_left, formal_names}
use Rattle.decl_headers.proofs.members.leave_formals.Given as goal

abbrev pub invariant-loop-formal : goal.invariant-loop-formal
invariant-loop-formal l = all_left (marks l.declared) l.owner (formal_names (drop l.formal-index l.formals)) ≡ all_left (marks l.initial.declared) l.owner (formal_names l.formals)
