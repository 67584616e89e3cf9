use Rattle.std.proofs.Common.{◌∙◌, ap, sym, map, Some, option_map}
use Rattle.std.proofs.lemmas.List.{drop_all}
use Rattle.std.specs.Option.{option_copied}
use Rattle.lang_base.specs.Types.{plain_type}
use Rattle.lang_typed.specs.Plain.{plain_expr, choice_form, statement, plain_stmt, stmts_of}
use Rattle.code_instrs.specs.declared.instr.Instr.TheVariants as i
use Rattle.code_instrs.specs.Plain.{block_site}
use Rattle.code_scheme.specs.Scheme.{stmts_piece}
use Rattle.code_compile.specs.Emitted.{emitted_of, after}
use Rattle.code_compile.proofs.Emits.{on_ok, patched_long}
use Rattle.code_compile.proofs.Forms.{at_Declare, at_Store, at_StoreField, at_StoreElement, at_StorePart, at_Perform, at_If, at_While, at_PrintInt, at_PrintBool, at_Atomic, at_Cobegin, at_Foreach, at_ForeachParts, at_Return}
use Rattle.code_compile.proofs.Operands.{next_is, site_is}
use Rattle.code_compile.proofs.Statements.{stmt_is, one_more, none_more, test_below_two, jump_below, skip_below, choice_emitted, choice_else_emitted, while_emitted, atomic_emitted}
use Rattle.code_compile.proofs.stmts.+stmts.Goals as goal

pub stmt-returns-in-Declare : goal.stmt-returns-in-Declare
stmt-returns-in-Declare t c = on_ok c.store.result (stmt_is (at_Declare c.args.s.now c.in-Declare.is)) (c.store.ensures.declared (plain_type c.in-Declare.ty) c.in-Declare.is_final)

pub stmt-returns-in-Store : goal.stmt-returns-in-Store
stmt-returns-in-Store t c = on_ok c.store-in-Store.result (stmt_is (at_Store c.args.s.now c.in-Store.is)) c.store-in-Store.ensures.assigned

pub stmt-returns-in-StoreField : goal.stmt-returns-in-StoreField
stmt-returns-in-StoreField t c = on_ok c.store_field.result (stmt_is (at_StoreField c.args.s.now c.in-StoreField.is)) (c.store_field.ensures c.in-StoreField.class.number)

pub stmt-returns-in-StoreElement : goal.stmt-returns-in-StoreElement
stmt-returns-in-StoreElement t c = on_ok c.store_element.result (stmt_is (at_StoreElement c.args.s.now c.in-StoreElement.is)) c.store_element.ensures

pub stmt-returns-in-StorePart : goal.stmt-returns-in-StorePart
stmt-returns-in-StorePart t c = on_ok c.store_part.result (stmt_is (at_StorePart c.args.s.now c.in-StorePart.is)) c.store_part.ensures

pub stmt-returns-in-Perform : goal.stmt-returns-in-Perform
stmt-returns-in-Perform t c = on_ok c.perform.result (stmt_is (at_Perform c.args.s.now c.in-Perform.is)) c.perform.ensures

pub stmt-returns-in-If : goal.stmt-returns-in-If
stmt-returns-in-If t c = on_ok c.choice.result (stmt_is (at_If c.args.s.now c.in-If.is c.get.ensures c.as_ref.ensures.value)) c.choice.ensures

pub stmt-returns-in-While : goal.stmt-returns-in-While
stmt-returns-in-While t c = on_ok c.while_loop.result (stmt_is (at_While c.args.s.now c.in-While.is c.get-in-While.ensures)) c.while_loop.ensures

pub stmt-returns-in-PrintInt : goal.stmt-returns-in-PrintInt
stmt-returns-in-PrintInt t c = on_ok c.print.result (stmt_is (at_PrintInt c.args.s.now c.in-PrintInt.is)) c.print.ensures.int

pub stmt-returns-in-PrintBool : goal.stmt-returns-in-PrintBool
stmt-returns-in-PrintBool t c = on_ok c.print-in-PrintBool.result (stmt_is (at_PrintBool c.args.s.now c.in-PrintBool.is)) c.print-in-PrintBool.ensures.boolean

pub stmt-returns-in-Atomic : goal.stmt-returns-in-Atomic
stmt-returns-in-Atomic t c = on_ok c.atomic.result (stmt_is (at_Atomic c.args.s.now _ c.in-Atomic.is)) c.atomic.ensures

pub stmt-returns-in-Cobegin : goal.stmt-returns-in-Cobegin
stmt-returns-in-Cobegin t c = on_ok c.forked.result (stmt_is (at_Cobegin c.args.s.now _ c.in-Cobegin.is)) c.forked.ensures

pub stmt-returns-in-Foreach : goal.stmt-returns-in-Foreach
stmt-returns-in-Foreach t c = on_ok c.foreach.result (stmt_is (at_Foreach c.args.s.now c.in-Foreach.is c.get-in-Foreach.ensures)) c.foreach.ensures

pub stmt-returns-in-ForeachParts : goal.stmt-returns-in-ForeachParts
stmt-returns-in-ForeachParts t c = on_ok c.foreach_parts.result (stmt_is (at_ForeachParts c.args.s.now c.in-ForeachParts.is c.get-in-ForeachParts.ensures)) c.foreach_parts.ensures

pub stmt-returns-in-Return : goal.stmt-returns-in-Return
stmt-returns-in-Return t c = on_ok c.leave.result (stmt_is (at_Return c.args.s.now c.in-Return.is c.as_ref-in-Return.ensures.value)) c.leave.ensures

pub atomic-returns : goal.atomic-returns
atomic-returns t c =
    on_ok c.line.result (λ h. atomic_emitted _ _ _ _ c.args.place c.args.effects.now (stmts_of (map plain_stmt c.args.body.now))
    (site_is c.args.place (λ m. i.Enter m) (ap block_site c.in_ok-effects.ensures) c.in_ok-sited.ensures) c.in_ok-stmts.ensures h) c.line.ensures

pub stmts-loop-s-preserved : goal.stmts-loop-s-preserved
stmts-loop-s-preserved t c =
    one_more (emitted_of c.loop-s.out) (emitted_of c.stmt.new.out) c.s-item.result _ _ (next_is _ c.loop-s.s-index c.s-item.result c.loop-s-test.true c.s-item.is) c.in_ok-stmt.ensures
    ∙ c.loop-s.invariant

pub stmts-returns : goal.stmts-returns
stmts-returns t c =
    record {
      is = sym (none_more (emitted_of c.loop-s.out) _ (drop_all c.loop-s.s-index _ c.loop-s-test.false)) ∙ c.loop-s.invariant
          ∙ ap (λ xs. after (emitted_of c.args.out.now) (λ k p. stmts_piece k p (stmts_of (map plain_stmt xs)))) c.as_slice-s-items.ensures;
    }

pub while_loop-unless_here-requires : goal.while_loop-unless_here-requires
while_loop-unless_here-requires t c =
    test_below_two (emitted_of c.expr.new.out) (emitted_of c.hole.new.self) (emitted_of c.line.new.self) (emitted_of c.stmt.new.out) (emitted_of c.line-2.new.self)
    c.args.place c.in_ok-skip.skip _ (plain_stmt c.args.body.now) _
    c.in_ok-skip.ensures.at c.in_ok-skip.ensures.ok c.in_ok-line.ensures c.in_ok-stmt.ensures c.in_ok-line-2.ensures

pub while_loop-returns : goal.while_loop-returns
while_loop-returns t c =
    while_emitted _ _ _ _ _ _ _ c.args.place c.here-start.result c.in_ok-skip.skip (plain_expr c.args.test.now) (plain_stmt c.args.body.now) c.here-start.ensures
    c.in_ok-expr.ensures c.in_ok-skip.ensures.at c.in_ok-skip.ensures.ok c.in_ok-line.ensures c.in_ok-stmt.ensures c.in_ok-line-2.ensures c.unless_here.ensures

pub choice-unless_here-requires : goal.choice-unless_here-requires
choice-unless_here-requires t c =
    jump_below (emitted_of c.expr.new.out) (emitted_of c.hole.new.self) (emitted_of c.stmt.new.out) c.args.place c.in_ok-skip.skip _
    (plain_stmt c.args.then.now) c.in_ok-skip.ensures.at c.in_ok-skip.ensures.ok c.in_ok-stmt.ensures

pub choice-jump_here-requires : goal.choice-jump_here-requires
choice-jump_here-requires t c =
    jump_below (emitted_of c.stmt.new.out) (emitted_of c.jump.new.self) (emitted_of c.stmt-in-Some.new.out) c.args.place
    c.in_ok-jump-in-Some.jump _ (plain_stmt c.get.result.now) c.in_ok-jump-in-Some.ensures.at c.in_ok-jump-in-Some.ensures.ok c.in_ok-stmt-in-Some.ensures

pub choice-patch-requires : goal.choice-patch-requires
choice-patch-requires t c =
    skip_below (emitted_of c.expr.new.out) (emitted_of c.hole.new.self) (emitted_of c.stmt.new.out) (emitted_of c.jump.new.self) (emitted_of c.stmt-in-Some.new.out)
    (emitted_of c.jump_here.new.self) c.args.place c.in_ok-skip.skip _ _ (plain_stmt c.args.then.now) (plain_stmt c.get.result.now)
    c.in_ok-skip.ensures.at c.in_ok-skip.ensures.ok c.in_ok-stmt.ensures c.in_ok-jump-in-Some.ensures.ok c.in_ok-stmt-in-Some.ensures
    (patched_long (emitted_of c.stmt-in-Some.new.out) (emitted_of c.jump_here.new.self) _ _ c.jump_here.ensures)

pub choice-returns-in-None : goal.choice-returns-in-None
choice-returns-in-None t c =
    stmt_is (ap (λ o. statement c.args.place (choice_form (plain_expr c.args.test.now) (plain_stmt c.args.then.now) (option_map plain_stmt o))) (ap option_copied c.in-None.is))
    (choice_emitted _ _ _ _ _ c.args.place c.in_ok-skip.skip (plain_expr c.args.test.now) (plain_stmt c.args.then.now)
    c.in_ok-expr.ensures c.in_ok-skip.ensures.at c.in_ok-skip.ensures.ok c.in_ok-stmt.ensures c.unless_here.ensures)

pub choice-returns-in_ok-stmt-in-Some : goal.choice-returns-in_ok-stmt-in-Some
choice-returns-in_ok-stmt-in-Some t c =
    stmt_is (ap (λ o. statement c.args.place (choice_form (plain_expr c.args.test.now) (plain_stmt c.args.then.now) (option_map plain_stmt o)))
    (ap option_copied c.in-Some.is ∙ ap Some (sym c.get.ensures)))
    (choice_else_emitted _ _ _ _ _ _ _ _ c.args.place c.in_ok-skip.skip c.in_ok-jump-in-Some.jump c.here-start.result
    (plain_expr c.args.test.now) (plain_stmt c.args.then.now) (plain_stmt c.get.result.now)
    c.in_ok-expr.ensures c.in_ok-skip.ensures.at c.in_ok-skip.ensures.ok c.in_ok-stmt.ensures c.in_ok-jump-in-Some.ensures.at
    c.in_ok-jump-in-Some.ensures.ok c.here-start.ensures c.in_ok-stmt-in-Some.ensures c.jump_here.ensures c.patch.ensures)
