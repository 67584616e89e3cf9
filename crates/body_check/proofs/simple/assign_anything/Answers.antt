use Rattle.std.proofs.Common.{None}
use Rattle.body_exprs.specs.Typed.{node_at, plain_typed, value_type}
use Rattle.body_check.specs.Simple.{put_in_place}
use Rattle.body_check.proofs.Making.{made_Perform}
use Rattle.body_check.proofs.Passing.{judged_so}
use Rattle.body_check.proofs.simple.assign_anything.Goals as goal

pub returns-clause-checks : goal.returns-clause-checks
returns-clause-checks c w =
    judged_so (put_in_place c.args.node c.args.place None (node_at c.args.value (plain_typed c.args.given)) (value_type c.args.given) w) _ _ _ c.judge.result _
    (rw (← c.is_value.ensures, ← c.note_if.ensures.node, made_Perform c.args.place c.into_node.result, c.into_node.ensures)) (c.judge.ensures.checks w)
