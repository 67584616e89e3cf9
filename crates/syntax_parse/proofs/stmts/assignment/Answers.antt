use Rattle.syntax_parse.proofs.Stating.{made_assignment}
use Rattle.syntax_parse.proofs.stmts.assignment.Goals as goal

pub returns-clause-derives : goal.returns-clause-derives
returns-clause-derives c =
    made_assignment
    c.in_ok-target.target
    c.in_ok-value.value
    c.in_ok-target.ensures.takes
    c.in_ok-place.ensures.takes
    c.in_ok-value.ensures.derives
    c.made.ensures
