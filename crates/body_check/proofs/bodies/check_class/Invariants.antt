use Rattle.std.proofs.Common.{◌≡◌, map}
use Rattle.body_assembly.specs.Assembled.{plain_body}
use Rattle.body_exprs.specs.Env.{at_class, at_members}
use Rattle.body_check.proofs.Methodic.{MembersSoFar}
use Rattle.body_check.proofs.bodies.check_class.Given as goal

abbrev pub invariant-loop-member : goal.invariant-loop-member
invariant-loop-member l = record {
  stays : at_members l.env ≡ at_class l.fn.env l.number;
  so_far : MembersSoFar l.fn.env l.number l.first l.done.next l.member-index l.member-items (map plain_body l.done.bodies);
}
