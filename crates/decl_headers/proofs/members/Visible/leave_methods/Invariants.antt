use Rattle.std.proofs.Common.{◌≡◌, drop}
use Rattle.decl_headers.specs.Around.{around, methods_left}
use Rattle.decl_headers.proofs.members.Visible.leave_methods.Given as goal

abbrev pub invariant-loop-member : goal.invariant-loop-member
invariant-loop-member l = methods_left (around l.self) (drop l.member-index l.members) ≡ methods_left (around l.initial.self) l.members
