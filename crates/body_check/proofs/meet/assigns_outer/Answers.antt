use Rattle.syntax_tree.specs.Plain.{plain_stmt}
use Rattle.body_check.proofs.Touched.{assigns_is}
use Rattle.body_check.proofs.meet.assigns_outer.Goals as goal

pub returns : goal.returns
returns c =
    assigns_is (plain_stmt c.args.stmt.now) c.in_ok-touched.field-0.writes c.is_empty.result c.in_ok-touched.ensures.writes c.in_ok-touched.ensures.once.1
    c.is_empty.ensures
