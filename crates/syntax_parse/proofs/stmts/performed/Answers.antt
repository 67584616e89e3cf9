use Rattle.std.proofs.Common.{◌≡◌, [], ◌∷◌, Some, inl, inr, ap}
use Rattle.std.proofs.lemmas.Result.{err_from_is_err_and}
use Rattle.syntax_grammar.specs.Expecting.{one, ending_parts}
use Rattle.syntax_grammar.specs.Words.{is_semicolon}
use Rattle.syntax_grammar.specs.Reading.{ending_of}
use Rattle.syntax_tree.specs.Plain.{plain_expr}
use Rattle.syntax_exprs.proofs.Composed.{refused_first}
use Rattle.syntax_parse.proofs.parts.StmtParts.{reads_two, refused_second}
use Rattle.syntax_parse.proofs.Stating.{field_ending, element_ending, call_ending, new_ending, call_performed, new_performed}
use Rattle.syntax_parse.proofs.Performing.{led_reads, led_refused, is_alone, alone_refused}
use Rattle.syntax_parse.proofs.stmts.performed.Goals as goal

pub returns-in_ok-value-in-Field-clause-reads : goal.returns-in_ok-value-in-Field-clause-reads
returns-in_ok-value-in-Field-clause-reads c =
    record { last = _; reads = led_reads _ c.in_ok-target.ensures.leads (ap ending_parts (field_ending c.in_ok-target.target _ _ c.in-Field.is)) (reads_two c.in_ok-place-in-Field.ensures.reads c.in_ok-value-in-Field.ensures.reads) }

pub returns-in_err-place-in-Field-clause-stops : goal.returns-in_err-place-in-Field-clause-stops
returns-in_err-place-in-Field-clause-stops c =
    let residual = err_from_is_err_and c.from_residual-in_err-place-in-Field.result c.from_residual-in_err-place-in-Field.ensures.1 in
    rw (residual.1, residual.2) (led_refused _ c.in_err-place-in-Field.field-0.0 c.in_ok-target.ensures.leads (ap ending_parts (field_ending c.in_ok-target.target _ _ c.in-Field.is)) c.in_ok-target.ensures.moves.end (refused_first _ _ _ _ _ c.in_err-place-in-Field.field-0.0 c.in_err-place-in-Field.ensures.stops))

pub returns-in_err-value-in-Field-clause-stops : goal.returns-in_err-value-in-Field-clause-stops
returns-in_err-value-in-Field-clause-stops c =
    let residual = err_from_is_err_and c.from_residual-in_err-value-in-Field.result c.from_residual-in_err-value-in-Field.ensures.1 in
    rw (residual.1, residual.2) (led_refused _ c.in_err-value-in-Field.field-0.0 c.in_ok-target.ensures.leads (ap ending_parts (field_ending c.in_ok-target.target _ _ c.in-Field.is)) c.in_ok-target.ensures.moves.end (refused_second _ _ [] c.in_err-value-in-Field.field-0.0 c.in_ok-place-in-Field.ensures.reads c.in_ok-place-in-Field.ensures.moves.end c.in_err-value-in-Field.ensures.stops))

pub returns-in_ok-value-in-Element-clause-reads : goal.returns-in_ok-value-in-Element-clause-reads
returns-in_ok-value-in-Element-clause-reads c =
    record { last = _; reads = led_reads _ c.in_ok-target.ensures.leads (ap ending_parts (element_ending c.in_ok-target.target _ _ c.in-Element.is)) (reads_two c.in_ok-place-in-Element.ensures.reads c.in_ok-value-in-Element.ensures.reads) }

pub returns-in_err-place-in-Element-clause-stops : goal.returns-in_err-place-in-Element-clause-stops
returns-in_err-place-in-Element-clause-stops c =
    let residual = err_from_is_err_and c.from_residual-in_err-place-in-Element.result c.from_residual-in_err-place-in-Element.ensures.1 in
    rw (residual.1, residual.2) (led_refused _ c.in_err-place-in-Element.field-0.0 c.in_ok-target.ensures.leads (ap ending_parts (element_ending c.in_ok-target.target _ _ c.in-Element.is)) c.in_ok-target.ensures.moves.end (refused_first _ _ _ _ _ c.in_err-place-in-Element.field-0.0 c.in_err-place-in-Element.ensures.stops))

pub returns-in_err-value-in-Element-clause-stops : goal.returns-in_err-value-in-Element-clause-stops
returns-in_err-value-in-Element-clause-stops c =
    let residual = err_from_is_err_and c.from_residual-in_err-value-in-Element.result c.from_residual-in_err-value-in-Element.ensures.1 in
    rw (residual.1, residual.2) (led_refused _ c.in_err-value-in-Element.field-0.0 c.in_ok-target.ensures.leads (ap ending_parts (element_ending c.in_ok-target.target _ _ c.in-Element.is)) c.in_ok-target.ensures.moves.end (refused_second _ _ [] c.in_err-value-in-Element.field-0.0 c.in_ok-place-in-Element.ensures.reads c.in_ok-place-in-Element.ensures.moves.end c.in_err-value-in-Element.ensures.stops))

pub returns-in_err-symbol-in-Call-clause-stops : goal.returns-in_err-symbol-in-Call-clause-stops
returns-in_err-symbol-in-Call-clause-stops c =
    let residual = err_from_is_err_and c.from_residual-in_err-symbol-in-Call.result c.from_residual-in_err-symbol-in-Call.ensures.1 in
    let ends : ending_parts (ending_of (plain_expr c.in_ok-target.target)) ≡ Some (one is_semicolon ∷ []) =
    elim c.in-Call.is [
      | inl is ↦ ap ending_parts (call_ending c.in_ok-target.target is.0 is.1 is.2 is.3 is.4)
      | inr is ↦ ap ending_parts (new_ending c.in_ok-target.target is.0 is.1 is.2 is.3)
    ]
    in
    rw
    (residual.1, residual.2)
    (led_refused _ c.in_err-symbol-in-Call.field-0.0 c.in_ok-target.ensures.leads ends c.in_ok-target.ensures.moves.end c.in_err-symbol-in-Call.ensures.stops)

pub returns-in_ok-symbol-in-Call-clause-reads : goal.returns-in_ok-symbol-in-Call-clause-reads
returns-in_ok-symbol-in-Call-clause-reads c =
    let ends : ending_parts (ending_of (plain_expr c.in_ok-target.target)) ≡ Some (one is_semicolon ∷ []) =
    elim c.in-Call.is [
      | inl is ↦ ap ending_parts (call_ending c.in_ok-target.target is.0 is.1 is.2 is.3 is.4)
      | inr is ↦ ap ending_parts (new_ending c.in_ok-target.target is.0 is.1 is.2 is.3)
    ]
    in
    record { last = _; reads = led_reads _ c.in_ok-target.ensures.leads ends c.in_ok-symbol-in-Call.ensures.reads }

pub returns-in_ok-symbol-in-Call-clause-derives : goal.returns-in_ok-symbol-in-Call-clause-derives
returns-in_ok-symbol-in-Call-clause-derives c =
    elim c.in-Call.is [
      | inl is ↦ call_performed c.in_ok-target.target is.0 is.1 is.2 is.3 is.4 c.in_ok-target.ensures.derives c.in_ok-symbol-in-Call.ensures.takes c.made-in-Call.ensures
      | inr is ↦ new_performed c.in_ok-target.target is.0 is.1 is.2 is.3 c.in_ok-target.ensures.derives c.in_ok-symbol-in-Call.ensures.takes c.made-in-Call.ensures
    ]

pub returns-in_default : goal.returns-in_default
returns-in_default c =
    let alone = is_alone c.in_ok-target.target c.in_default.not-Field c.in_default.not-Element c.in_default.not-Call c.in_default.not-New in
    record {
      moves = tt;
      reads = tt;
      stops =
          alone_refused c.unexpected.result alone c.in_ok-target.ensures.leads c.in_ok-target.ensures.derives c.requires.other c.in_ok-target.ensures.moves.end c.unexpected.ensures;
      derives = tt;
    }
