use Rattle.std.proofs.Common.{◌≡◌, drop}
use Rattle.decl_headers.specs.Around.{around, class_left}
use Rattle.decl_headers.proofs.members.Visible.leave_class.Given as goal

abbrev pub invariant-loop-member : goal.invariant-loop-member
invariant-loop-member l = class_left (around l.self) l.number (drop l.member-index l.class.members) ≡ class_left (around l.initial.self) l.number l.class.members
