use Rattle.std.proofs.Common.{[], refl}
use Rattle.std.proofs.lemmas.Result.{err_from_is_err_and}
use Rattle.syntax_grammar.specs.Statements.{cobegin_word, foreach_word}
use Rattle.syntax_parse.proofs.parts.StmtParts.{reads_anew, reads_seen, reads_two, reads_four, refused_second, refused_third, refused_fourth}
use Rattle.syntax_parse.proofs.Stating.{made_cobegin, made_foreach, made_parts}
use Rattle.syntax_parse.proofs.stmts.+stmts.Goals as goal

pub stmt-returns-clause-reads : goal.stmt-returns-clause-reads
stmt-returns-clause-reads t c = reads_anew c.begun-stmt.result c.args.cursor.now.joined _ _ c.begun-stmt.ensures.moves refl c.begun-stmt.ensures.reads

pub cobegin-returns-clause-derives : goal.cobegin-returns-clause-derives
cobegin-returns-clause-derives t c =
    made_cobegin
    c.args.nd
    c.in_ok-branches.branches
    c.place-place.ensures.stands
    c.requires
    c.in_ok-accept.ensures.takes
    c.in_ok-branches.ensures.derives
    c.made.ensures

pub foreach-returns-clause-derives : goal.foreach-returns-clause-derives
foreach-returns-clause-derives t c =
    made_foreach
    c.args.nd
    c.in_ok-range.range.var
    c.in_ok-range.range.first
    c.in_ok-range.range.second
    c.in_ok-body.body
    c.place-place.ensures.stands
    c.requires
    c.in_ok-accept.ensures.takes
    c.in_ok-open.ensures.takes
    c.in_ok-range.ensures.derives
    c.in_ok-body.ensures.derives
    c.made.ensures

pub foreach_parts-returns-clause-derives : goal.foreach_parts-returns-clause-derives
foreach_parts-returns-clause-derives t c =
    made_parts
    c.in_ok-view.view
    c.in_ok-range.range.var
    c.in_ok-range.range.first
    c.in_ok-range.range.second
    c.in_ok-body.body
    c.in_ok-place.ensures.takes
    c.in_ok-open.ensures.takes
    c.in_ok-view.ensures.takes
    c.in_ok-symbol.ensures.takes
    c.in_ok-range.ensures.derives
    c.in_ok-body.ensures.derives
    c.made.ensures

pub cobegin-returns-clause-reads : goal.cobegin-returns-clause-reads
cobegin-returns-clause-reads t c = reads_two (reads_seen (cobegin_word c.args.nd) c.args.cursor.now c.accept.new.self c.requires c.in_ok-accept.ensures.took) c.in_ok-branches.ensures.reads

pub cobegin-returns-in_err-branches-clause-stops : goal.cobegin-returns-in_err-branches-clause-stops
cobegin-returns-in_err-branches-clause-stops t c =
    let residual = err_from_is_err_and c.from_residual-in_err-branches.result c.from_residual-in_err-branches.ensures.1 in
    rw (residual.1, residual.2) (refused_second _ _ [] c.in_err-branches.field-0.0 (reads_seen (cobegin_word c.args.nd) c.args.cursor.now c.accept.new.self c.requires c.in_ok-accept.ensures.took) c.in_ok-accept.ensures.moves.end c.in_err-branches.ensures.stops)

pub foreach-returns-clause-reads : goal.foreach-returns-clause-reads
foreach-returns-clause-reads t c = reads_four (reads_seen (foreach_word c.args.nd) c.args.cursor.now c.accept.new.self c.requires c.in_ok-accept.ensures.took) c.in_ok-open.ensures.reads c.in_ok-range.ensures.reads c.in_ok-body.ensures.reads

pub foreach-returns-in_err-open-clause-stops : goal.foreach-returns-in_err-open-clause-stops
foreach-returns-in_err-open-clause-stops t c =
    let residual = err_from_is_err_and c.from_residual-in_err-open.result c.from_residual-in_err-open.ensures.1 in
    rw (residual.1, residual.2) (refused_second _ _ _ c.in_err-open.field-0.0 (reads_seen (foreach_word c.args.nd) c.args.cursor.now c.accept.new.self c.requires c.in_ok-accept.ensures.took) c.in_ok-accept.ensures.moves.end c.in_err-open.ensures.stops)

pub foreach-returns-in_err-range-clause-stops : goal.foreach-returns-in_err-range-clause-stops
foreach-returns-in_err-range-clause-stops t c =
    let residual = err_from_is_err_and c.from_residual-in_err-range.result c.from_residual-in_err-range.ensures.1 in
    rw (residual.1, residual.2) (refused_third _ _ _ _ c.in_err-range.field-0.0 (reads_seen (foreach_word c.args.nd) c.args.cursor.now c.accept.new.self c.requires c.in_ok-accept.ensures.took) c.in_ok-accept.ensures.moves.end c.in_ok-open.ensures.reads c.in_ok-open.ensures.moves.end c.in_err-range.ensures.stops)

pub foreach-returns-in_err-body-clause-stops : goal.foreach-returns-in_err-body-clause-stops
foreach-returns-in_err-body-clause-stops t c =
    let residual = err_from_is_err_and c.from_residual-in_err-body.result c.from_residual-in_err-body.ensures.1 in
    rw (residual.1, residual.2) (refused_fourth _ _ _ _ [] c.in_err-body.field-0.0 (reads_seen (foreach_word c.args.nd) c.args.cursor.now c.accept.new.self c.requires c.in_ok-accept.ensures.took) c.in_ok-accept.ensures.moves.end c.in_ok-open.ensures.reads c.in_ok-open.ensures.moves.end c.in_ok-range.ensures.reads c.in_ok-range.ensures.moves.end c.in_err-body.ensures.stops)
