use Rattle.std.proofs.Common.{◌∙◌, refl}
use Rattle.std.proofs.lemmas.Result.{err_from_is_err_and}
use Rattle.syntax_exprs.proofs.parts.PathParts.{path_reads, path_at_elems}
use Rattle.syntax_exprs.proofs.region.rpl.Goals as goal

pub returns-in_err-elems-clause-stops : goal.returns-in_err-elems-clause-stops
returns-in_err-elems-clause-stops c =
    let p = err_from_is_err_and c.from_residual-in_err-elems.result c.from_residual-in_err-elems.ensures.1 in
    rw (p.1, p.2) (path_at_elems _ _ _ _ _ _ _ c.in_ok-head.ensures.reads c.in_ok-head.ensures.moves.end c.in_err-elems.ensures.stops)

pub returns-clause-reads : goal.returns-clause-reads
returns-clause-reads c = path_reads c.in_ok-head.ensures.reads c.in_ok-elems.ensures.reads (c.in_ok-elems.ensures.moves.level ∙ c.in_ok-head.ensures.moves.level) refl
