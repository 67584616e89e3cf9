use Rattle.syntax_parse.proofs.Stating.{made_print}
use Rattle.syntax_parse.proofs.stmts.printed.Goals as goal

pub returns-clause-derives : goal.returns-clause-derives
returns-clause-derives c =
    made_print
    c.in_ok-place.ensures.takes
    c.in_ok-open.ensures.takes
    c.in_ok-kind.ensures.derives
    c.in_ok-close.ensures.takes
    c.in_ok-symbol.ensures.takes
    c.made.ensures
