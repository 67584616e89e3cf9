use Rattle.lang_typed.specs.Plain as typed
use Rattle.body_check.specs.Noting.{fault_of}
use Rattle.body_check.specs.Walks.{walk_of, judged}
use Rattle.body_check.proofs.Making.{made_PrintText}
use Rattle.body_check.proofs.Passing.{judged_so}
use Rattle.body_check.proofs.simple.print_text.Goals as goal

pub returns-clause-checks : goal.returns-clause-checks
returns-clause-checks c found =
    judged_so (judged (fault_of c.args.node) (typed.statement c.args.node.place (typed.print_text c.args.text.now)) (walk_of c.args.env.now found)) _ _ _ c.judge.result _
    (rw (made_PrintText c.args.node.place c.in_ok-copy.field-0, c.in_ok-copy.ensures)) (c.judge.ensures.checks (walk_of c.args.env.now found))
