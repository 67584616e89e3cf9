use Rattle.std.proofs.Common.{◌≡◌, Ok, Err, map, option_map, ap, subst}
use Rattle.std.proofs.lemmas.List.{drop_all}
use Rattle.body_assembly.specs.Assembled.{plain_body}
use Rattle.body_exprs.specs.Env.{at_class, table_of, class_params}
use Rattle.body_check.specs.Methods.{check_member, plain_bodies}
use Rattle.body_check.proofs.Methodic.{stopped_at, class_entered, members_all, members_more, members_none, members_stop, members_in}
use Rattle.body_check.proofs.bodies.check_class.Goals as goal

pub returns-in_err-made-clause-checks : goal.returns-in_err-made-clause-checks
returns-in_err-made-clause-checks c =
    stopped_at
    (λ q. check_member (at_class c.args.env.now c.args.number) (class_params (table_of c.args.env.now) c.args.number) c.member-item.result
    c.loop-member.done.next ≡ Err q)
    (λ v. members_in c.args.env.now c.args.number c.args.class.now.members c.args.first ≡ v)
    c.from_residual-in_err-made.result _ c.in_err-made.field-0.0 c.from_residual-in_err-made.ensures.1
    (λ q d.
    subst (λ ms. members_in c.args.env.now c.args.number ms c.args.first ≡ Err q) c.as_slice-member-items.ensures
    (members_stop c.args.env.now c.args.number c.args.first c.loop-member.done.next c.loop-member.member-index c.as_slice-member-items.result.now
    c.member-item.result (map plain_body c.loop-member.done.bodies) q c.loop-member-test.true c.member-item.is c.loop-member.invariant.so_far d))
    (c.in_err-made.ensures.checks c.args.env.now c.args.number c.loop-member.invariant.stays)

pub returns-clause-checks : goal.returns-clause-checks
returns-clause-checks c =
    subst (λ ms. members_in c.args.env.now c.args.number ms c.args.first ≡ Ok (plain_bodies c.loop-member.done))
    c.as_slice-member-items.ensures
    (members_all c.args.env.now c.args.number c.args.first c.loop-member.done.next c.loop-member.member-index c.as_slice-member-items.result.now
    (map plain_body c.loop-member.done.bodies) (drop_all c.loop-member.member-index c.as_slice-member-items.result.now c.loop-member-test.false)
    c.loop-member.invariant.so_far)

pub loop-member-init : goal.loop-member-init
loop-member-init c = record {
  stays =
      class_entered c.args.env.now c.args.number c.enter_class.new.self c.in_ok-enter_class.ensures;
  so_far =
      members_none c.args.env.now c.args.number c.args.first c.as_slice-member-items.result.now (map plain_body c.new.result)
      (ap (map plain_body) c.new.ensures);
}

pub loop-member-preserved : goal.loop-member-preserved
loop-member-preserved c = record {
  stays = c.in_ok-made.ensures.stays c.args.env.now c.args.number c.loop-member.invariant.stays;
  so_far =
      members_more c.args.env.now c.args.number c.args.first c.loop-member.done.next c.add_body.new.done.next c.loop-member.member-index
      c.as_slice-member-items.result.now c.member-item.result (map plain_body c.loop-member.done.bodies) (map plain_body c.add_body.new.done.bodies)
      (option_map plain_body c.in_ok-made.made) c.loop-member-test.true c.member-item.is c.loop-member.invariant.so_far
      (c.in_ok-made.ensures.checks c.args.env.now c.args.number c.loop-member.invariant.stays) c.in_ok-add_body.ensures.next
      c.in_ok-add_body.ensures.bodies;
}
