use Rattle.std.proofs.Common.{rules}
use Rattle.std.proofs.lemmas.Result.{err_from_is_err_and}
use Rattle.syntax_grammar.proofs.Lists.{many_more}
use Rattle.syntax_exprs.proofs.InOrder.{few_read}
use Rattle.syntax_exprs.proofs.TypeForms.{suffix_of}
use Rattle.syntax_exprs.proofs.parts.TypeParts.{suffixes_on, suffixes_at_close, suffixes_at_rest}
use Rattle.syntax_exprs.proofs.types.suffixes.Goals as goal

pub returns-in_err-close-clause-stops : goal.returns-in_err-close-clause-stops
returns-in_err-close-clause-stops c =
    let p = err_from_is_err_and c.from_residual-in_err-close.result c.from_residual-in_err-close.ensures.1 in
    rw (p.1, p.2) (suffixes_at_close _ _ _ _ _ _ _ _ _ _ c.loop-alloc.invariant.onward c.loop-alloc.invariant.moves.end c.in_ok-join_open.ensures.reads c.in_ok-join_open.ensures.moves.end c.in_err-close.ensures.stops)

pub returns-in_err-after_brackets-clause-stops : goal.returns-in_err-after_brackets-clause-stops
returns-in_err-after_brackets-clause-stops c =
    let p = err_from_is_err_and c.from_residual-in_err-after_brackets.result c.from_residual-in_err-after_brackets.ensures.1 in
    rw (p.1, p.2) (suffixes_at_rest _ _ _ _ _ _ _ _ _ _ _ _ _ c.loop-alloc.invariant.onward c.loop-alloc.invariant.moves.end c.in_ok-join_open.ensures.reads c.in_ok-join_open.ensures.moves.end
    c.in_ok-close.ensures.reads c.in_ok-close.ensures.moves.end c.in_err-after_brackets.ensures.stops)

pub loop-alloc-preserved : goal.loop-alloc-preserved
loop-alloc-preserved c =
    let few = few_read c.in_ok-close.ensures.reads in
    record {
      moves = search rules;
      onward = suffixes_on c.loop-alloc.invariant.onward c.in_ok-join_open.ensures.reads c.in_ok-close.ensures.reads c.in_ok-after_brackets.ensures.reads;
      derives = search (rules, many_more, suffix_of);
      few = rw (c.in_ok-after_brackets.ensures.same) few;
    }
