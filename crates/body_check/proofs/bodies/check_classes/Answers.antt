use Rattle.std.proofs.Common.{◌≡◌, Err, map, ap}
use Rattle.std.proofs.lemmas.List.{drop_all}
use Rattle.body_assembly.specs.Assembled.{plain_body}
use Rattle.body_check.specs.Methods.{check_classes}
use Rattle.body_check.proofs.Methodic.{classes_all, classes_begin, classes_go_on, classes_stop, map_both, stopped_at, members_in}
use Rattle.body_check.proofs.bodies.check_classes.Goals as goal

pub returns-in_err-done : goal.returns-in_err-done
returns-in_err-done c = record {
  checks =
      stopped_at
      (λ q. members_in c.loop-number.env c.number_at.result c.index-classes-number.result.members c.loop-number.methods ≡ Err q)
      (λ v. check_classes c.args.env.now 0 c.args.classes.now 0 ≡ v) c.from_residual.result _ c.in_err-done.field-0.0
      c.from_residual.ensures.1
      (λ q d.
      classes_stop c.args.env.now c.loop-number.env c.loop-number.number c.loop-number.methods c.number_at.result c.args.classes.now
      c.index-classes-number.result (map plain_body c.loop-number.bodies) q c.loop-number-test.true c.index-classes-number.is c.number_at.ensures
      c.loop-number.invariant.so_far d)
      c.in_err-done.ensures.checks;
}

pub returns : goal.returns
returns c = record {
  checks =
      classes_all c.args.env.now c.loop-number.env c.loop-number.number c.loop-number.methods c.args.classes.now (map plain_body c.loop-number.bodies)
      (drop_all c.loop-number.number c.args.classes.now c.loop-number-test.false) c.loop-number.invariant.so_far;
}

pub loop-number-init : goal.loop-number-init
loop-number-init c = record {
  so_far = classes_begin c.args.env.now c.args.classes.now (map plain_body c.new-bodies.result) (ap (map plain_body) c.new-bodies.ensures);
}

pub loop-number-preserved : goal.loop-number-preserved
loop-number-preserved c = record {
  so_far =
      classes_go_on c.args.env.now c.loop-number.env c.check_class.new.env c.loop-number.number c.loop-number.methods c.in_ok-done.done.next
      c.number_at.result c.args.classes.now c.index-classes-number.result (map plain_body c.loop-number.bodies) (map plain_body c.append.new.bodies)
      (map plain_body c.in_ok-done.done.bodies) c.loop-number-test.true c.index-classes-number.is c.number_at.ensures c.loop-number.invariant.so_far
      c.in_ok-done.ensures.around c.in_ok-done.ensures.checks
      (map_both plain_body c.loop-number.bodies c.in_ok-done.done.bodies c.append.new.bodies c.in_ok-append.ensures);
}
