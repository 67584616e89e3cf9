use Rattle.std.proofs.Common.{◌≡◌, drop}
use Rattle.decl_headers.specs.Members.{marks, all_left}
use Rattle.decl_headers.proofs.members.leave_names.Given as goal

abbrev pub invariant-loop-named : goal.invariant-loop-named
invariant-loop-named l = all_left (marks l.declared) l.owner (drop l.named-index l.names) ≡ all_left (marks l.initial.declared) l.owner l.names
