use Rattle.std.proofs.Common.{Some}
use Rattle.body_exprs.specs.Targeting.{plain_target}
use Rattle.body_exprs.specs.Typed.{node_at, plain_typed, value_type}
use Rattle.body_check.specs.Simple.{put_in_place}
use Rattle.body_check.specs.Walks.{walk_of}
use Rattle.body_check.proofs.Passing.{judged_so}
use Rattle.body_check.proofs.simple.assign_target.Goals as goal

pub returns-clause-checks : goal.returns-clause-checks
returns-clause-checks c =
    judged_so
    (put_in_place c.args.node c.args.place (Some (plain_target c.args.target)) (node_at c.args.value (plain_typed c.args.given)) (value_type c.args.given)
    (walk_of c.args.env.now c.args.out.now)) _ _ _ c.judge.result _
    (rw (
      ← c.in_ok-fit.ensures,
      ← c.target_fault.ensures,
      ← c.note_found.ensures,
      c.stored-stmt.ensures,
      c.into_node.ensures,
      c.in_ok-write.ensures,
    ))
    (c.judge.ensures.checks (walk_of c.args.env.now c.write.new.found))
