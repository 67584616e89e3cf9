use Rattle.std.proofs.Common.{[]}
use Rattle.std.proofs.lemmas.Result.{err_from_is_err_and}
use Rattle.syntax_exprs.proofs.Composed.{refused_first}
use Rattle.syntax_parse.proofs.Declarations.{Started, declared_reads, declared_refused, final_refused, type_refused}
use Rattle.syntax_parse.proofs.parts.StmtParts.{reads_three, refused_second, refused_third}
use Rattle.syntax_parse.proofs.Stating.{made_declaration}
use Rattle.syntax_parse.proofs.stmts.declaration.Goals as goal

pub returns-clause-derives : goal.returns-clause-derives
returns-clause-derives c =
    made_declaration
    c.in_ok-is_final.is_final
    c.in_ok-ty.ty
    c.in_ok-named.named
    c.in_ok-value.value
    c.in_ok-is_final.ensures.takes
    c.in_ok-ty.ensures.derives
    c.in_ok-named.ensures.takes
    c.in_ok-symbol.ensures.takes
    c.in_ok-value.ensures.derives
    c.made.ensures

pub returns-clause-reads : goal.returns-clause-reads
returns-clause-reads c =
    let s : Started _ _ _ = record {
      is = c.requires.declares;
      zero = c.requires.anew;
      takes = c.in_ok-is_final.ensures.takes;
      moves = c.in_ok-is_final.ensures.moves;
      reads = c.in_ok-is_final.ensures.reads;
    } in
    let v = reads_three c.in_ok-named.ensures.reads c.in_ok-symbol.ensures.reads c.in_ok-value.ensures.reads in
    declared_reads c.args.cursor.now c.keyword_if.new.self c.ty.new.cursor c.in_ok-is_final.is_final s c.in_ok-ty.ensures.reads v

pub returns-in_err-is_final-clause-stops : goal.returns-in_err-is_final-clause-stops
returns-in_err-is_final-clause-stops c =
    let residual = err_from_is_err_and c.from_residual.result c.from_residual.ensures.1 in
    rw (residual.1, residual.2) (final_refused c.args.cursor.now c.in_err-is_final.field-0.0 c.in_err-is_final.ensures.stops.0 c.in_err-is_final.ensures.stops.1)

pub returns-in_err-ty-clause-stops : goal.returns-in_err-ty-clause-stops
returns-in_err-ty-clause-stops c =
    let residual = err_from_is_err_and c.from_residual-in_err-ty.result c.from_residual-in_err-ty.ensures.1 in
    let s : Started _ _ _ = record {
      is = c.requires.declares;
      zero = c.requires.anew;
      takes = c.in_ok-is_final.ensures.takes;
      moves = c.in_ok-is_final.ensures.moves;
      reads = c.in_ok-is_final.ensures.reads;
    } in
    rw (residual.1, residual.2) (type_refused c.args.cursor.now c.keyword_if.new.self c.in_ok-is_final.is_final c.in_err-ty.field-0.0 s c.in_err-ty.ensures.stops)

pub returns-in_err-named-clause-stops : goal.returns-in_err-named-clause-stops
returns-in_err-named-clause-stops c =
    let residual = err_from_is_err_and c.from_residual-in_err-named.result c.from_residual-in_err-named.ensures.1 in
    let s : Started _ _ _ = record {
      is = c.requires.declares;
      zero = c.requires.anew;
      takes = c.in_ok-is_final.ensures.takes;
      moves = c.in_ok-is_final.ensures.moves;
      reads = c.in_ok-is_final.ensures.reads;
    } in
    rw (residual.1, residual.2) (declared_refused c.args.cursor.now c.keyword_if.new.self c.ty.new.cursor c.in_ok-is_final.is_final c.in_err-named.field-0.0 s c.in_ok-ty.ensures.reads c.in_ok-ty.ensures.moves.end (refused_first _ _ _ _ _ c.in_err-named.field-0.0 c.in_err-named.ensures.stops))

pub returns-in_err-symbol-clause-stops : goal.returns-in_err-symbol-clause-stops
returns-in_err-symbol-clause-stops c =
    let residual = err_from_is_err_and c.from_residual-in_err-symbol.result c.from_residual-in_err-symbol.ensures.1 in
    let s : Started _ _ _ = record {
      is = c.requires.declares;
      zero = c.requires.anew;
      takes = c.in_ok-is_final.ensures.takes;
      moves = c.in_ok-is_final.ensures.moves;
      reads = c.in_ok-is_final.ensures.reads;
    } in
    rw (residual.1, residual.2) (declared_refused c.args.cursor.now c.keyword_if.new.self c.ty.new.cursor c.in_ok-is_final.is_final c.in_err-symbol.field-0.0 s c.in_ok-ty.ensures.reads c.in_ok-ty.ensures.moves.end (refused_second _ _ _ c.in_err-symbol.field-0.0 c.in_ok-named.ensures.reads c.in_ok-named.ensures.moves.end c.in_err-symbol.ensures.stops))

pub returns-in_err-value-clause-stops : goal.returns-in_err-value-clause-stops
returns-in_err-value-clause-stops c =
    let residual = err_from_is_err_and c.from_residual-in_err-value.result c.from_residual-in_err-value.ensures.1 in
    let s : Started _ _ _ = record {
      is = c.requires.declares;
      zero = c.requires.anew;
      takes = c.in_ok-is_final.ensures.takes;
      moves = c.in_ok-is_final.ensures.moves;
      reads = c.in_ok-is_final.ensures.reads;
    } in
    rw (residual.1, residual.2) (declared_refused c.args.cursor.now c.keyword_if.new.self c.ty.new.cursor c.in_ok-is_final.is_final c.in_err-value.field-0.0 s c.in_ok-ty.ensures.reads c.in_ok-ty.ensures.moves.end (refused_third _ _ _ [] c.in_err-value.field-0.0 c.in_ok-named.ensures.reads c.in_ok-named.ensures.moves.end c.in_ok-symbol.ensures.reads c.in_ok-symbol.ensures.moves.end c.in_err-value.ensures.stops))
