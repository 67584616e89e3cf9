use Rattle.std.proofs.lemmas.Result.{err_from_is_err_and}
use Rattle.syntax_parse.proofs.Stating.{made_range}
use Rattle.syntax_parse.proofs.parts.StmtParts.{range_not_closed}
use Rattle.syntax_parse.proofs.stmts.range.Goals as goal

pub returns-clause-derives : goal.returns-clause-derives
returns-clause-derives c =
    made_range
    c.in_ok-keyword.ensures.takes
    c.in_ok-var.ensures.takes
    c.in_ok-keyword-2.ensures.takes
    c.in_ok-first.ensures.derives
    c.in_ok-symbol.ensures.takes
    c.in_ok-second.ensures.derives
    c.in_ok-close.ensures.takes

pub returns-in_err-close-clause-stops : goal.returns-in_err-close-clause-stops
returns-in_err-close-clause-stops c =
    let residual = err_from_is_err_and c.from_residual-in_err-close.result c.from_residual-in_err-close.ensures.1 in
    rw
    (residual.1, residual.2)
    (range_not_closed
    c.in_err-close.field-0.0
    c.in_ok-keyword.ensures.reads
    c.in_ok-keyword.ensures.moves.end
    c.in_ok-var.ensures.reads
    c.in_ok-var.ensures.moves.end
    c.in_ok-keyword-2.ensures.reads
    c.in_ok-keyword-2.ensures.moves.end
    c.in_ok-first.ensures.reads
    c.in_ok-first.ensures.moves.end
    c.in_ok-symbol.ensures.reads
    c.in_ok-symbol.ensures.moves.end
    c.in_ok-second.ensures.reads
    c.in_ok-second.ensures.moves.end
    c.in_err-close.ensures.stops)
