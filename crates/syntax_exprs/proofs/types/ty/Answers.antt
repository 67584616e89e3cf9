use Rattle.std.proofs.Common.{◌∙◌, refl}
use Rattle.std.proofs.lemmas.Result.{err_from_is_err_and}
use Rattle.syntax_exprs.proofs.parts.TypeParts.{type_reads, type_at_suffixes}
use Rattle.syntax_exprs.proofs.types.ty.Goals as goal

pub returns-in_err-suffixes-clause-stops : goal.returns-in_err-suffixes-clause-stops
returns-in_err-suffixes-clause-stops c =
    let p = err_from_is_err_and c.from_residual-in_err-suffixes.result c.from_residual-in_err-suffixes.ensures.1 in
    rw (p.1, p.2) (type_at_suffixes _ _ _ _ _ _ _ c.in_ok-base.ensures.reads c.in_ok-base.ensures.moves.end c.in_err-suffixes.ensures.stops)

pub returns-clause-reads : goal.returns-clause-reads
returns-clause-reads c = type_reads c.in_ok-base.ensures.reads c.in_ok-suffixes.ensures.reads (c.in_ok-suffixes.ensures.moves.level ∙ c.in_ok-base.ensures.moves.level) refl
