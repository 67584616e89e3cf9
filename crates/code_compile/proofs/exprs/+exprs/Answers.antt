use Rattle.std.proofs.Common.{◌∙◌, ap, sym, map}
use Rattle.std.proofs.lemmas.List.{drop_all}
use Rattle.lang_base.specs.Types.{plain_type}
use Rattle.lang_typed.specs.Plain.{plain_expr, exprs_of}
use Rattle.code_instrs.specs.declared.instr.Instr.TheVariants as i
use Rattle.code_instrs.specs.Plain.{plain_site, call_site}
use Rattle.code_scheme.specs.Scheme.{exprs_piece}
use Rattle.code_compile.specs.Emitted.{emitted_of, after}
use Rattle.code_compile.proofs.Emits.{on_ok}
use Rattle.code_compile.proofs.Forms.{at_Field, at_Element, at_Length, at_Call, at_New, at_NewArray, at_Unary, at_Binary, at_And, at_Or, at_PartElement}
use Rattle.code_compile.proofs.Operands.{expr_is, one_operand, two_operands, both_emitted, either_emitted, both_below, either_below, called, made, made_array, part_read, site_is, one_more, none_more, next_is}
use Rattle.code_compile.proofs.exprs.+exprs.Goals as goal

pub expr-returns-in-Field : goal.expr-returns-in-Field
expr-returns-in-Field t c = on_ok c.read_field.result (expr_is (at_Field c.args.e.now c.in-Field.is c.get.ensures)) (c.read_field.ensures (plain_type c.args.e.now.ty) c.in-Field.class.number)

pub expr-returns-in-Element : goal.expr-returns-in-Element
expr-returns-in-Element t c = on_ok c.read_element.result (expr_is (at_Element c.args.e.now c.in-Element.is c.get-in-Element.ensures c.get-in-Element-2.ensures)) (c.read_element.ensures (plain_type c.args.e.now.ty))

pub expr-returns-in-Length : goal.expr-returns-in-Length
expr-returns-in-Length t c = on_ok c.length.result (expr_is (at_Length c.args.e.now c.in-Length.is c.get-in-Length.ensures)) (c.length.ensures (plain_type c.args.e.now.ty))

pub expr-returns-in-Call : goal.expr-returns-in-Call
expr-returns-in-Call t c = on_ok c.call.result (expr_is (at_Call c.args.e.now _ c.in-Call.is c.get-in-Call.ensures)) (c.call.ensures (plain_type c.args.e.now.ty))

pub expr-returns-in-New : goal.expr-returns-in-New
expr-returns-in-New t c = on_ok c.new_object.result (expr_is (at_New c.args.e.now _ c.in-New.is)) c.new_object.ensures

pub expr-returns-in-NewArray : goal.expr-returns-in-NewArray
expr-returns-in-NewArray t c = on_ok c.new_array.result (expr_is (at_NewArray c.args.e.now c.in-NewArray.is c.get-in-NewArray.ensures)) c.new_array.ensures

pub expr-returns-in-Unary : goal.expr-returns-in-Unary
expr-returns-in-Unary t c = on_ok c.unary.result (expr_is (at_Unary c.args.e.now c.in-Unary.is c.get-in-Unary.ensures)) (c.unary.ensures (plain_type c.args.e.now.ty))

pub expr-returns-in-Binary : goal.expr-returns-in-Binary
expr-returns-in-Binary t c = on_ok c.binary.result (expr_is (at_Binary c.args.e.now c.in-Binary.is c.get-in-Binary.ensures c.get-in-Binary-2.ensures)) (c.binary.ensures (plain_type c.args.e.now.ty))

pub expr-returns-in-And : goal.expr-returns-in-And
expr-returns-in-And t c = on_ok c.both.result (expr_is (at_And c.args.e.now c.in-And.is c.get-in-And.ensures c.get-in-And-2.ensures)) (c.both.ensures (plain_type c.args.e.now.ty))

pub expr-returns-in-Or : goal.expr-returns-in-Or
expr-returns-in-Or t c = on_ok c.either.result (expr_is (at_Or c.args.e.now c.in-Or.is c.get-in-Or.ensures c.get-in-Or-2.ensures)) (c.either.ensures (plain_type c.args.e.now.ty))

pub expr-returns-in-PartElement : goal.expr-returns-in-PartElement
expr-returns-in-PartElement t c = on_ok c.read_part.result (expr_is (at_PartElement c.args.e.now c.in-PartElement.is c.get-in-PartElement.ensures)) (c.read_part.ensures (plain_type c.args.e.now.ty))

pub read_field-returns : goal.read_field-returns
read_field-returns t c = λ ty class. on_ok c.line.result (λ h. one_operand _ _ (plain_expr c.args.of.now) c.in_ok-expr.ensures h) c.line.ensures

pub read_element-returns : goal.read_element-returns
read_element-returns t c = λ ty.
    on_ok c.line.result (λ h. two_operands _ _ (plain_expr c.args.array.now) (plain_expr c.args.index.now) c.in_ok-expr.ensures c.in_ok-expr-2.ensures h) c.line.ensures

pub length-returns : goal.length-returns
length-returns t c = λ ty. on_ok c.line.result (λ h. one_operand _ _ (plain_expr c.args.array.now) c.in_ok-expr.ensures h) c.line.ensures

pub call-returns : goal.call-returns
call-returns t c = λ ty.
    on_ok c.sited.result (λ h. called c.args.place c.args.class.number c.args.row.number c.len.result c.args.regions.now (plain_expr c.args.of.now) c.args.actuals.now ty
    c.len.ensures c.in_ok-expr.ensures c.in_ok-exprs.ensures
    (site_is c.args.place (λ m. i.Call m) (ap (λ rs. call_site c.args.class.number c.args.row.number c.len.result rs) c.in_ok-copy.ensures) h)) c.sited.ensures

pub new_object-returns : goal.new_object-returns
new_object-returns t c =
    on_ok c.sited.result (λ h. made c.args.place (plain_type c.args.ty.now) c.len.result c.args.actuals.now c.len.ensures c.in_ok-exprs.ensures
    (plain_site c.in_ok-site.site) c.in_ok-site.ensures h) c.sited.ensures

pub new_array-returns : goal.new_array-returns
new_array-returns t c =
    on_ok c.sited.result (λ h. made_array c.args.place (plain_type c.args.ty.now) (plain_expr c.args.length.now) c.in_ok-expr.ensures
    (plain_site c.in_ok-site.site) c.in_ok-site.ensures h) c.sited.ensures

pub unary-returns : goal.unary-returns
unary-returns t c = λ ty.
    on_ok c.line.result (λ h. one_operand _ _ (plain_expr c.args.arg.now) c.in_ok-expr.ensures h) c.line.ensures

pub binary-returns : goal.binary-returns
binary-returns t c = λ ty.
    on_ok c.line.result (λ h. two_operands _ _ (plain_expr c.args.left.now) (plain_expr c.args.right.now) c.in_ok-expr.ensures c.in_ok-expr-2.ensures h)
    c.line.ensures

pub both-close_both-requires : goal.both-close_both-requires
both-close_both-requires t c =
    both_below (emitted_of c.expr.new.out) _ (emitted_of c.expr-2.new.out) c.args.place c.in_ok-test.test (plain_expr c.args.right.now) c.in_ok-test.ensures.at
    c.in_ok-test.ensures.ok c.in_ok-expr-2.ensures

pub both-returns : goal.both-returns
both-returns t c = λ ty.
    on_ok c.close_both.result (λ closed. both_emitted _ _ _ _ _ c.args.place c.in_ok-test.test ty (plain_expr c.args.left.now) (plain_expr c.args.right.now)
    c.in_ok-expr.ensures c.in_ok-test.ensures.at c.in_ok-test.ensures.ok c.in_ok-expr-2.ensures closed) c.close_both.ensures

pub either-jump_here-requires : goal.either-jump_here-requires
either-jump_here-requires t c =
    either_below (emitted_of c.expr.new.out) _ (emitted_of c.expr-2.new.out) c.args.place c.in_ok-jump.jump (plain_expr c.args.right.now) c.in_ok-jump.ensures.at
    c.in_ok-jump.ensures.ok c.in_ok-expr-2.ensures

pub either-returns : goal.either-returns
either-returns t c = λ ty.
    either_emitted _ _ _ _ _ c.args.place c.in_ok-jump.jump ty (plain_expr c.args.left.now) (plain_expr c.args.right.now)
    c.in_ok-expr.ensures c.in_ok-jump.ensures.at c.in_ok-jump.ensures.ok c.in_ok-expr-2.ensures c.jump_here.ensures

pub read_part-returns : goal.read_part-returns
read_part-returns t c = λ ty.
    on_ok c.line-2.result (λ h. part_read c.args.place ty c.args.part.number (plain_expr c.args.index.now) c.in_ok-expr.ensures c.in_ok-line.ensures h) c.line-2.ensures

pub exprs-loop-e-preserved : goal.exprs-loop-e-preserved
exprs-loop-e-preserved t c =
    one_more (emitted_of c.loop-e.out) (emitted_of c.expr.new.out) c.e-item.result _ _ (next_is _ c.loop-e.e-index c.e-item.result c.loop-e-test.true c.e-item.is) c.in_ok-expr.ensures
    ∙ c.loop-e.invariant

pub exprs-returns : goal.exprs-returns
exprs-returns t c =
    record {
      is = sym (none_more (emitted_of c.loop-e.out) _ (drop_all c.loop-e.e-index _ c.loop-e-test.false)) ∙ c.loop-e.invariant
          ∙ ap (λ xs. after (emitted_of c.args.out.now) (λ k p. exprs_piece k p (exprs_of (map plain_expr xs)))) c.as_slice-e-items.ensures;
    }
