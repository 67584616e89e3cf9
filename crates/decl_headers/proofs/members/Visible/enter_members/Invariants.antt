use Rattle.std.proofs.Common.{◌≡◌, drop}
use Rattle.decl_headers.specs.Around.{around, members_entered, members_faults}
use Rattle.decl_headers.specs.Faults.{all_noted}
use Rattle.decl_headers.proofs.members.Visible.enter_members.Given as goal

abbrev pub invariant-loop-member : goal.invariant-loop-member
invariant-loop-member l = record {
  visible : members_entered (around l.self) l.number (drop l.member-index l.class.members) ≡ members_entered (around l.initial.self) l.number l.class.members;
  faults : all_noted l.faults (members_faults (around l.self) l.class l.number (drop l.member-index l.class.members)) ≡ all_noted l.initial.faults (members_faults (around l.initial.self) l.class l.number l.class.members);
}
