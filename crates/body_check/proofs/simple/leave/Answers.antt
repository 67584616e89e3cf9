use Rattle.body_check.specs.Simple.{leave}
use Rattle.body_check.specs.Walks.{walk_of}
use Rattle.body_check.proofs.Making.{made_Return_nothing}
use Rattle.body_check.proofs.Passing.{judged_so}
use Rattle.body_check.proofs.simple.leave.Goals as goal

pub returns-clause-checks : goal.returns-clause-checks
returns-clause-checks c found =
    judged_so (leave c.args.around c.args.node (walk_of c.args.env.now found)) _ _ _ c.judge.result _
    (rw (← c.is_misplaced.ensures, ← c.note_if.ensures.node, made_Return_nothing c.args.node.place)) (c.judge.ensures.checks (walk_of c.args.env.now found))
