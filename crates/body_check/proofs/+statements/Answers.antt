use Rattle.std.proofs.Common.{◌≡◌, ◌∙◌, ◌&&◌, List, true, false, not, map, option_map, Some, None, IfOk, refl, sym, ap, subst}
use Rattle.std.proofs.lemmas.List.{drop_all}
use Rattle.std.specs.Option.{option_copied}
use Rattle.lang_base.specs.declared.effect.Effect.{Effect}
use Rattle.syntax_tree.specs.Plain.{PlainStmt, choice_form, plain_expr, plain_stmt, plain_stmts, return_form}
use Rattle.syntax_tree.specs.Plain.{StmtForm as form}
use Rattle.syntax_tree.specs.declared.stmt.Stmt.{Stmt}
use Rattle.syntax_tree.specs.declared.stmt.StmtKind.TheVariants as tree
use Rattle.lang_typed.specs.Plain.{TypedBranch, plain_source}
use Rattle.lang_typed.specs.declared.stmt.Stmt.{Stmt as Made}
use Rattle.lang_typed.specs.Plain.{plain_stmt as typed_stmt}
use Rattle.body_exprs.specs.declared.found.Found.{Found}
use Rattle.body_exprs.specs.Answer.{refused}
use Rattle.body_exprs.specs.Env.{bare, slots_in}
use Rattle.body_exprs.specs.Typed.{plain_typed}
use Rattle.body_exprs.specs.Typing.{Typing}
use Rattle.body_exprs.specs.declared.env.Env.{Env}
use Rattle.body_check.specs.Methods.{atomic_params}
use Rattle.body_check.specs.declared.leaving.Marks.TheVariants as marks
use Rattle.body_check.specs.Checking.{check_stmt, check_form, check_scope, check_block, check_all, check_branches, cut, outer_part, part_slot, parts_declared, plain_branch, variable_declared, with_nd}
use Rattle.body_check.specs.Completes.{completes}
use Rattle.body_check.specs.Deciding.{marks_after}
use Rattle.body_check.specs.Gathering.{handed_on, with_uses}
use Rattle.body_check.specs.Around.{inside}
use Rattle.body_check.specs.Noting.{fault_of}
use Rattle.body_check.specs.Touching.{some_disturb}
use Rattle.body_check.specs.Walks.{walk_of, passes}
use Rattle.body_check.specs.Walks.{Verdict as verdict}
use Rattle.body_check.proofs.Atomics.{block_in, atomic_is, atomic_made}
use Rattle.body_check.proofs.Forks.{Branch, branch_made, branches_made, branches_met, branches_with, fork_all, fork_more, fork_refused, forks_are, taken_so, touched_all, touched_more}
use Rattle.body_check.proofs.Homes.{home_params, piece_in}
use Rattle.body_check.proofs.Iterations.{Iterated, Left, iterations_are, iterations_left, iterations_made, iterations_met}
use Rattle.body_check.proofs.Making.{made_Block, made_While}
use Rattle.body_check.proofs.Nodes.{choice_made, foreach_made, node_made, parts_formed}
use Rattle.body_check.proofs.Orders.{map_pushed, order_refused, order_more, order_all, and_then_so, and_else_so, complete_step}
use Rattle.body_check.proofs.Parting.{Opened, Part, body_refused, parts_are, parts_closed, parts_made, parts_met}
use Rattle.body_check.proofs.Passing.{anyhow, closed_is, completes_so, judged_as, judged_so, passes_so, stopped, walk_from}
use Rattle.body_check.proofs.Stands.{as_said, at_Block, at_Declare, at_AssignLocal, at_AssignField, at_AssignElement, at_Do, at_Print, at_PrintText, at_Region, at_Cobegin, at_Atomic, at_If, at_While, at_Foreach, at_Parts, at_Return}
use Rattle.body_check.proofs.Touched.{AllTouched, assigned_is, clashing_is}
use Rattle.body_check.proofs.Walking.{FirstMet, block_stops, block_closes, scope_passes, test_refused, first_refused, either_so, neither_so, either_completes, neither_completes}
use Rattle.body_check.proofs.+statements.Goals as goal
use Rattle.body_check.proofs.+statements.Goals.{statements::statements-then-completes, statements::statements-else-completes}

pub statements::block-returns-in_err-done-clause-checks : goal.statements::block-returns-in_err-done-clause-checks
statements::block-returns-in_err-done-clause-checks t c =
    stopped (λ q. check_all (atomic_params c.args.env.now) c.args.around true (plain_stmts (map plain_stmt c.args.stmts.now)) (walk_of c.args.env.now c.new-inner.result) ≡ verdict.refused q)
    (λ v. check_block (atomic_params c.args.env.now) c.args.around (plain_stmts (map plain_stmt c.args.stmts.now)) (walk_of c.args.env.now c.args.out.now) ≡ v) c.from_residual.result _ c.in_err-done.field-0.0 c.from_residual.ensures.1
    (λ q d. block_stops (atomic_params c.args.env.now) c.args.around (plain_stmts (map plain_stmt c.args.stmts.now)) c.args.env.now c.args.out.now c.new-inner.result q c.new-inner.ensures d)
    c.in_err-done.ensures.checks

pub statements::block-returns-clause-checks : goal.statements::block-returns-clause-checks
statements::block-returns-clause-checks t c =
    block_closes (atomic_params c.args.env.now) c.args.around (plain_stmts (map plain_stmt c.args.stmts.now)) c.args.env.now c.statements.new.env
    c.args.out.now c.new-inner.result
    c.statements.new.out c.take_in.new.out c.leave.new.self c.mark-scope.result c.from_here-leaving.result (map typed_stmt c.in_ok-done.done.stmts)
    c.new-inner.ensures
    c.in_ok-done.ensures.checks c.mark-scope.ensures c.leave.ensures c.from_here-leaving.ensures c.in_ok-take_in.ensures

pub statements::scoped-returns-in_err-done-clause-checks : goal.statements::scoped-returns-in_err-done-clause-checks
statements::scoped-returns-in_err-done-clause-checks t c =
    stopped (λ q. check_stmt (atomic_params c.args.env.now) c.args.around false (plain_stmt c.args.stmt.now) (walk_of c.args.env.now c.args.out.now) ≡ verdict.refused q)
    (λ v. check_scope (atomic_params c.args.env.now) c.args.around (plain_stmt c.args.stmt.now) (walk_of c.args.env.now c.args.out.now) ≡ v)
    c.from_residual.result _ c.in_err-done.field-0.0 c.from_residual.ensures.1 (λ q d. rw d) c.in_err-done.ensures.checks

pub statements::scoped-returns-clause-checks : goal.statements::scoped-returns-clause-checks
statements::scoped-returns-clause-checks t c =
    scope_passes (atomic_params c.args.env.now) c.args.around (plain_stmt c.args.stmt.now) c.args.env.now c.statement.new.env c.args.out.now
    c.statement.new.out c.leave.new.self c.mark-scope.result (typed_stmt c.in_ok-stmt.stmt)
    (subst (λ z. check_stmt (atomic_params c.args.env.now) c.args.around false (plain_stmt c.args.stmt.now) (walk_of c.args.env.now c.args.out.now) ≡
    passes (typed_stmt z) (walk_of c.statement.new.env c.statement.new.out))
    (sym c.in_ok-stmt.ensures) c.in_ok-done.ensures.checks)
    c.mark-scope.ensures c.leave.ensures

pub statements::statement-returns-in-Block-clause-checks : goal.statements::statement-returns-in-Block-clause-checks
statements::statement-returns-in-Block-clause-checks t c =
    as_said (atomic_params c.args.env.now) c.args.around c.args.follows c.of-node.result c.args.stmt.now
    (form.block (plain_stmts (map plain_stmt c.as_slice.result.now))) (walk_of c.args.env.now c.args.out.now) c.nested.result _
    (at_Block c.args.stmt.now c.as_slice.result.now (c.in-Block.is ∙ ap tree.Block (sym c.as_slice.ensures))) c.of-node.ensures c.nested.ensures.checks

pub statements::statement-returns-in-Declare-clause-checks : goal.statements::statement-returns-in-Declare-clause-checks
statements::statement-returns-in-Declare-clause-checks t c =
    as_said (atomic_params c.args.env.now) c.args.around c.args.follows c.of-node.result c.args.stmt.now
    (form.declare c.in-Declare.is_final c.in-Declare.ty c.in-Declare.name (plain_expr c.in-Declare.value)) (walk_of c.args.env.now c.args.out.now) c.declare.result _
    (at_Declare c.args.stmt.now c.in-Declare.is_final c.in-Declare.ty c.in-Declare.name c.in-Declare.value c.in-Declare.is) c.of-node.ensures c.declare.ensures.checks

pub statements::statement-returns-in-AssignLocal-clause-checks : goal.statements::statement-returns-in-AssignLocal-clause-checks
statements::statement-returns-in-AssignLocal-clause-checks t c =
    as_said (atomic_params c.args.env.now) c.args.around c.args.follows c.of-node.result c.args.stmt.now
    (form.assign_local c.in-AssignLocal.target (plain_expr c.in-AssignLocal.value)) (walk_of c.args.env.now c.args.out.now) c.assign_local.result _
    (at_AssignLocal c.args.stmt.now c.in-AssignLocal.target c.in-AssignLocal.value c.in-AssignLocal.is) c.of-node.ensures c.assign_local.ensures.checks

pub statements::statement-returns-in-AssignField-clause-checks : goal.statements::statement-returns-in-AssignField-clause-checks
statements::statement-returns-in-AssignField-clause-checks t c =
    as_said (atomic_params c.args.env.now) c.args.around c.args.follows c.of-node.result c.args.stmt.now
    (form.assign_field (plain_expr c.in-AssignField.target) (plain_expr c.in-AssignField.value)) (walk_of c.args.env.now c.args.out.now) c.assign_place.result _
    (at_AssignField c.args.stmt.now c.in-AssignField.target c.in-AssignField.value c.in-AssignField.is) c.of-node.ensures c.assign_place.ensures.checks

pub statements::statement-returns-in-AssignElement-clause-checks : goal.statements::statement-returns-in-AssignElement-clause-checks
statements::statement-returns-in-AssignElement-clause-checks t c =
    as_said (atomic_params c.args.env.now) c.args.around c.args.follows c.of-node.result c.args.stmt.now
    (form.assign_element (plain_expr c.in-AssignElement.target) (plain_expr c.in-AssignElement.value)) (walk_of c.args.env.now c.args.out.now) c.assign_place-in-AssignElement.result _
    (at_AssignElement c.args.stmt.now c.in-AssignElement.target c.in-AssignElement.value c.in-AssignElement.is) c.of-node.ensures c.assign_place-in-AssignElement.ensures.checks

pub statements::statement-returns-in-Do-clause-checks : goal.statements::statement-returns-in-Do-clause-checks
statements::statement-returns-in-Do-clause-checks t c =
    as_said (atomic_params c.args.env.now) c.args.around c.args.follows c.of-node.result c.args.stmt.now
    (form.perform (plain_expr c.in-Do.value)) (walk_of c.args.env.now c.args.out.now) c.perform.result _
    (at_Do c.args.stmt.now c.in-Do.value c.in-Do.is) c.of-node.ensures c.perform.ensures.checks

pub statements::statement-returns-in-If-clause-completes : goal.statements::statement-returns-in-If-clause-completes
statements::statement-returns-in-If-clause-completes t c =
    subst (λ (z : PlainStmt). IfOk c.branching.result (λ done. done.completes ≡ completes z))
    (sym (at_If c.args.stmt.now c.in-If.test c.get.result.now (option_copied c.as_ref.result)
    (c.in-If.is ∙ ap (λ (z : Stmt). tree.If c.in-If.test z c.in-If.other) (sym c.get.ensures)
    ∙ ap (tree.If c.in-If.test c.get.result.now) (sym c.as_ref.ensures.value))))
    c.branching.ensures.completes

pub statements::statement-returns-in-If-clause-checks : goal.statements::statement-returns-in-If-clause-checks
statements::statement-returns-in-If-clause-checks t c =
    as_said (atomic_params c.args.env.now) c.args.around c.args.follows c.of-node.result c.args.stmt.now
    (choice_form (plain_expr c.in-If.test) (plain_stmt c.get.result.now) (option_map plain_stmt (option_copied c.as_ref.result))) (walk_of c.args.env.now c.args.out.now) c.branching.result _
    (at_If c.args.stmt.now c.in-If.test c.get.result.now (option_copied c.as_ref.result)
    (c.in-If.is ∙ ap (λ (z : Stmt). tree.If c.in-If.test z c.in-If.other) (sym c.get.ensures)
    ∙ ap (tree.If c.in-If.test c.get.result.now) (sym c.as_ref.ensures.value))) c.of-node.ensures c.branching.ensures.checks

pub statements::statement-returns-in-While-clause-checks : goal.statements::statement-returns-in-While-clause-checks
statements::statement-returns-in-While-clause-checks t c =
    as_said (atomic_params c.args.env.now) c.args.around c.args.follows c.of-node.result c.args.stmt.now
    (form.while_loop (plain_expr c.in-While.test) (plain_stmt c.get-in-While.result.now)) (walk_of c.args.env.now c.args.out.now) c.repeat.result _
    (at_While c.args.stmt.now c.in-While.test c.get-in-While.result.now
    (c.in-While.is ∙ ap (tree.While c.in-While.test) (sym c.get-in-While.ensures))) c.of-node.ensures c.repeat.ensures.checks

pub statements::statement-returns-in-Return-clause-checks : goal.statements::statement-returns-in-Return-clause-checks
statements::statement-returns-in-Return-clause-checks t c =
    as_said (atomic_params c.args.env.now) c.args.around c.args.follows c.of-node.result c.args.stmt.now
    (return_form (option_copied c.as_ref-in-Return.result)) (walk_of c.args.env.now c.args.out.now) c.returning.result _
    (at_Return c.args.stmt.now (option_copied c.as_ref-in-Return.result) (c.in-Return.is ∙ ap tree.Return (sym c.as_ref-in-Return.ensures.value))) c.of-node.ensures (c.returning.ensures.checks (atomic_params c.args.env.now))

pub statements::statement-returns-in-Print-clause-checks : goal.statements::statement-returns-in-Print-clause-checks
statements::statement-returns-in-Print-clause-checks t c =
    as_said (atomic_params c.args.env.now) c.args.around c.args.follows c.of-node.result c.args.stmt.now
    (form.print (plain_expr c.in-Print.value)) (walk_of c.args.env.now c.args.out.now) c.print.result _
    (at_Print c.args.stmt.now c.in-Print.value c.in-Print.is) c.of-node.ensures c.print.ensures.checks

pub statements::statement-returns-in-PrintText-clause-checks : goal.statements::statement-returns-in-PrintText-clause-checks
statements::statement-returns-in-PrintText-clause-checks t c =
    as_said (atomic_params c.args.env.now) c.args.around c.args.follows c.of-node.result c.args.stmt.now
    (form.print_text c.in-PrintText.text) (walk_of c.args.env.now c.args.out.now) c.print_text.result _
    (at_PrintText c.args.stmt.now c.in-PrintText.text c.in-PrintText.is) c.of-node.ensures (c.print_text.ensures.checks c.args.out.now)

pub statements::statement-returns-in-Cobegin-clause-checks : goal.statements::statement-returns-in-Cobegin-clause-checks
statements::statement-returns-in-Cobegin-clause-checks t c =
    as_said (atomic_params c.args.env.now) c.args.around c.args.follows c.of-node.result c.args.stmt.now
    (form.cobegin c.in-Cobegin.nd (plain_stmts (map plain_stmt c.as_slice-in-Cobegin.result.now))) (walk_of c.args.env.now c.args.out.now) c.cobegin.result _
    (at_Cobegin c.args.stmt.now c.in-Cobegin.nd c.as_slice-in-Cobegin.result.now
    (c.in-Cobegin.is ∙ ap (tree.Cobegin c.in-Cobegin.nd) (sym c.as_slice-in-Cobegin.ensures))) c.of-node.ensures c.cobegin.ensures.checks

pub statements::statement-returns-in-Foreach-clause-checks : goal.statements::statement-returns-in-Foreach-clause-checks
statements::statement-returns-in-Foreach-clause-checks t c =
    as_said (atomic_params c.args.env.now) c.args.around c.args.follows c.of-node.result c.args.stmt.now
    (form.foreach c.in-Foreach.nd c.in-Foreach.var (plain_expr c.in-Foreach.start) (plain_expr c.in-Foreach.count)
    (plain_stmt c.get-in-Foreach.result.now)) (walk_of c.args.env.now c.args.out.now) c.foreach.result _
    (at_Foreach c.args.stmt.now c.in-Foreach.nd c.in-Foreach.var c.in-Foreach.start c.in-Foreach.count c.get-in-Foreach.result.now
    (c.in-Foreach.is ∙ ap (tree.Foreach c.in-Foreach.nd c.in-Foreach.var c.in-Foreach.start c.in-Foreach.count) (sym c.get-in-Foreach.ensures))) c.of-node.ensures c.foreach.ensures.checks

pub statements::statement-returns-in-ForeachParts-clause-checks : goal.statements::statement-returns-in-ForeachParts-clause-checks
statements::statement-returns-in-ForeachParts-clause-checks t c =
    as_said (atomic_params c.args.env.now) c.args.around c.args.follows c.of-node.result c.args.stmt.now
    (form.foreach_parts c.in-ForeachParts.view c.in-ForeachParts.var (plain_expr c.in-ForeachParts.array) (plain_expr c.in-ForeachParts.count)
    (plain_stmt c.get-in-ForeachParts.result.now)) (walk_of c.args.env.now c.args.out.now) c.foreach_parts.result _
    (at_Parts c.args.stmt.now c.in-ForeachParts.view c.in-ForeachParts.var c.in-ForeachParts.array c.in-ForeachParts.count
    c.get-in-ForeachParts.result.now
    (c.in-ForeachParts.is
    ∙ ap (tree.ForeachParts c.in-ForeachParts.view c.in-ForeachParts.var c.in-ForeachParts.array c.in-ForeachParts.count)
    (sym c.get-in-ForeachParts.ensures))) c.of-node.ensures c.foreach_parts.ensures.checks

pub statements::statement-returns-in-Atomic-clause-checks : goal.statements::statement-returns-in-Atomic-clause-checks
statements::statement-returns-in-Atomic-clause-checks t c =
    as_said (atomic_params c.args.env.now) c.args.around c.args.follows c.of-node.result c.args.stmt.now
    (form.atomic (plain_stmts (map plain_stmt c.as_slice-in-Atomic.result.now))) (walk_of c.args.env.now c.args.out.now) c.atomic.result _
    (at_Atomic c.args.stmt.now c.as_slice-in-Atomic.result.now (c.in-Atomic.is ∙ ap tree.Atomic (sym c.as_slice-in-Atomic.ensures))) c.of-node.ensures c.atomic.ensures.checks

pub statements::statement-returns-in-Region-clause-checks : goal.statements::statement-returns-in-Region-clause-checks
statements::statement-returns-in-Region-clause-checks t c =
    as_said (atomic_params c.args.env.now) c.args.around c.args.follows c.of-node.result c.args.stmt.now
    (form.local_regions c.as_slice-in-Region.result.now) (walk_of c.args.env.now c.args.out.now) c.declare_regions.result _
    (at_Region c.args.stmt.now c.as_slice-in-Region.result.now (c.in-Region.is ∙ ap tree.Region (sym c.as_slice-in-Region.ensures))) c.of-node.ensures (c.declare_regions.ensures.checks c.args.out.now)

pub statements::nested-returns-in_err-done-clause-checks : goal.statements::nested-returns-in_err-done-clause-checks
statements::nested-returns-in_err-done-clause-checks t c =
    stopped (λ q. check_block (atomic_params c.args.env.now) c.args.around (plain_stmts (map plain_stmt c.args.all.now)) (walk_of c.args.env.now c.args.out.now) ≡ verdict.refused q)
    (λ v. check_form (atomic_params c.args.env.now) c.args.around c.args.node (form.block (plain_stmts (map plain_stmt c.args.all.now))) (walk_of c.args.env.now c.args.out.now) ≡ v)
    c.from_residual.result _ c.in_err-done.field-0.0 c.from_residual.ensures.1 (λ q d. rw d) c.in_err-done.ensures.checks

pub statements::nested-returns-clause-completes : goal.statements::nested-returns-clause-completes
statements::nested-returns-clause-completes t c = completes_so c.judge.result c.in_ok-done.ensures.completes c.judge.ensures.completes

pub statements::nested-returns-clause-home : goal.statements::nested-returns-clause-home
statements::nested-returns-clause-home t c = anyhow c.judge.result c.in_ok-done.ensures.home

pub statements::nested-returns-clause-checks : goal.statements::nested-returns-clause-checks
statements::nested-returns-clause-checks t c =
    judged_so (check_form (atomic_params c.args.env.now) c.args.around c.args.node (form.block (plain_stmts (map plain_stmt c.args.all.now))) (walk_of c.args.env.now c.args.out.now)) _ _ _ c.judge.result _
    (rw (c.in_ok-done.ensures.checks, made_Block c.args.node.place c.in_ok-done.done.stmts)) (c.judge.ensures.checks (walk_of c.block.new.env c.block.new.out))

pub statements::branching-returns-in_err-given-clause-checks : goal.statements::branching-returns-in_err-given-clause-checks
statements::branching-returns-in_err-given-clause-checks t c =
    stopped (λ q. Typing c.args.env.now (plain_expr c.args.test.now) c.args.out.now (refused q))
    (λ v. check_form (atomic_params c.args.env.now) c.args.around c.args.node (choice_form (plain_expr c.args.test.now) (plain_stmt c.args.then.now)
    (option_map plain_stmt (option_copied c.args.other))) (walk_of c.args.env.now c.args.out.now) ≡ v) c.from_residual.result _ c.in_err-given.field-0.0 c.from_residual.ensures.1
    (λ q d.
    test_refused (atomic_params c.args.env.now) c.args.around c.args.node (plain_expr c.args.test.now) (plain_stmt c.args.then.now) (option_map plain_stmt (option_copied c.args.other))
    (walk_of c.args.env.now c.args.out.now) q d) c.in_err-given.ensures.answer

pub statements::branching-returns-in_err-first-clause-checks : goal.statements::branching-returns-in_err-first-clause-checks
statements::branching-returns-in_err-first-clause-checks t c =
    stopped (λ q. check_scope (atomic_params c.args.env.now) c.args.around (plain_stmt c.args.then.now) (walk_of c.args.env.now c.boolean.new.out) ≡ verdict.refused q)
    (λ v. check_form (atomic_params c.args.env.now) c.args.around c.args.node (choice_form (plain_expr c.args.test.now) (plain_stmt c.args.then.now)
    (option_map plain_stmt (option_copied c.args.other))) (walk_of c.args.env.now c.args.out.now) ≡ v) c.from_residual-in_err-first.result _ c.in_err-first.field-0.0 c.from_residual-in_err-first.ensures.1
    (λ q d.
    first_refused (atomic_params c.args.env.now) c.args.around c.args.node (plain_expr c.args.test.now) (plain_stmt c.args.then.now) (option_map plain_stmt (option_copied c.args.other))
    (walk_of c.args.env.now c.args.out.now) c.boolean.new.out (plain_typed c.in_ok-given.given) q c.in_ok-given.ensures.answer d) c.in_err-first.ensures.checks

pub statements::branching-returns-in_err-second-in-Some-clause-checks : goal.statements::branching-returns-in_err-second-in-Some-clause-checks
statements::branching-returns-in_err-second-in-Some-clause-checks t c =
    let met : FirstMet c.args.env.now c.scoped.new.env c.args.around c.args.node c.boolean.new.node (plain_expr c.args.test.now)
    (plain_stmt c.args.then.now) c.args.out.now c.boolean.new.out c.scoped.new.out (plain_typed c.in_ok-given.given)
    (typed_stmt c.in_ok-first.first.stmt) = record {
      typing = c.in_ok-given.ensures.answer;
      noted_is = c.in_ok-given.ensures.node;
      in_scope = c.in_ok-first.ensures.checks;
      home = c.in_ok-first.ensures.home;
    } in
    stopped
    (λ q. check_scope (atomic_params c.scoped.new.env) c.args.around (plain_stmt c.get.result.now) (walk_of c.scoped.new.env c.scoped.new.out) ≡ verdict.refused q)
    (λ v. check_form (atomic_params c.args.env.now) c.args.around c.args.node (choice_form (plain_expr c.args.test.now) (plain_stmt c.args.then.now)
    (option_map plain_stmt (option_copied c.args.other))) (walk_of c.args.env.now c.args.out.now) ≡ v) c.from_residual-in_err-second-in-Some.result _ c.in_err-second-in-Some.field-0.0 c.from_residual-in_err-second-in-Some.ensures.1
    (λ q d. either_so (option_copied c.args.other) c.in-Some.other.now c.get.result.now (verdict.refused q) (ap option_copied c.in-Some.is) met c.get.ensures
    d)
    c.in_err-second-in-Some.ensures.checks

pub statements::branching-returns-in_ok-second-in-Some-clause-completes : goal.statements::branching-returns-in_ok-second-in-Some-clause-completes
statements::branching-returns-in_ok-second-in-Some-clause-completes t c =
    completes_so c.judge.result
    (either_completes c.choose-made.result.completes c.in_ok-first.first.completes c.in_ok-second-in-Some.second.completes (plain_expr c.args.test.now)
    (plain_stmt c.args.then.now) (option_copied c.args.other) c.in-Some.other.now c.get.result.now (ap option_copied c.in-Some.is) c.get.ensures
    c.choose-made.ensures.completes c.in_ok-first.ensures.completes c.in_ok-second-in-Some.ensures.completes)
    c.judge.ensures.completes

pub statements::branching-returns-in_ok-second-in-Some-clause-home : goal.statements::branching-returns-in_ok-second-in-Some-clause-home
statements::branching-returns-in_ok-second-in-Some-clause-home t c = anyhow c.judge.result (c.in_ok-second-in-Some.ensures.home ∙ c.in_ok-first.ensures.home)

pub statements::branching-returns-in_ok-second-in-Some-clause-checks : goal.statements::branching-returns-in_ok-second-in-Some-clause-checks
statements::branching-returns-in_ok-second-in-Some-clause-checks t c =
    let met : FirstMet c.args.env.now c.scoped.new.env c.args.around c.args.node c.boolean.new.node (plain_expr c.args.test.now)
    (plain_stmt c.args.then.now) c.args.out.now c.boolean.new.out c.scoped.new.out (plain_typed c.in_ok-given.given)
    (typed_stmt c.in_ok-first.first.stmt) = record {
      typing = c.in_ok-given.ensures.answer;
      noted_is = c.in_ok-given.ensures.node;
      in_scope = c.in_ok-first.ensures.checks;
      home = c.in_ok-first.ensures.home;
    } in
    judged_so
    (check_form (atomic_params c.args.env.now) c.args.around c.args.node (choice_form (plain_expr c.args.test.now) (plain_stmt c.args.then.now)
    (option_map plain_stmt (option_copied c.args.other))) (walk_of c.args.env.now c.args.out.now)) _ _ _ c.judge.result _
    (either_so (option_copied c.args.other) c.in-Some.other.now c.get.result.now
    (passes (typed_stmt c.in_ok-second-in-Some.second.stmt) (walk_of c.scoped-in-Some.new.env c.scoped-in-Some.new.out)) (ap option_copied c.in-Some.is) met
    c.get.ensures c.in_ok-second-in-Some.ensures.checks
    ∙ judged_as (fault_of c.boolean.new.node) _
    (choice_made c.args.test.now c.into_node-test.result (plain_typed c.in_ok-given.given) c.args.node.place
    (typed_stmt c.in_ok-first.first.stmt) (Some (typed_stmt c.in_ok-second-in-Some.second.stmt)) (typed_stmt c.choose-made.result.stmt)
    c.into_node-test.ensures c.choose-made.ensures.stmt))
    (c.judge.ensures.checks (walk_of c.scoped-in-Some.new.env c.scoped-in-Some.new.out))

pub statements::branching-returns-in-None-clause-completes : goal.statements::branching-returns-in-None-clause-completes
statements::branching-returns-in-None-clause-completes t c =
    completes_so c.judge-in-None.result
    (neither_completes c.choose-made-in-None.result.completes c.in_ok-first.first.completes (plain_expr c.args.test.now) (plain_stmt c.args.then.now)
    (option_copied c.args.other) (ap option_copied c.in-None.is) c.choose-made-in-None.ensures.completes)
    c.judge-in-None.ensures.completes

pub statements::branching-returns-in-None-clause-home : goal.statements::branching-returns-in-None-clause-home
statements::branching-returns-in-None-clause-home t c = anyhow c.judge-in-None.result c.in_ok-first.ensures.home

pub statements::branching-returns-in-None-clause-checks : goal.statements::branching-returns-in-None-clause-checks
statements::branching-returns-in-None-clause-checks t c =
    let met : FirstMet c.args.env.now c.scoped.new.env c.args.around c.args.node c.boolean.new.node (plain_expr c.args.test.now)
    (plain_stmt c.args.then.now) c.args.out.now c.boolean.new.out c.scoped.new.out (plain_typed c.in_ok-given.given)
    (typed_stmt c.in_ok-first.first.stmt) = record {
      typing = c.in_ok-given.ensures.answer;
      noted_is = c.in_ok-given.ensures.node;
      in_scope = c.in_ok-first.ensures.checks;
      home = c.in_ok-first.ensures.home;
    } in
    judged_so
    (check_form (atomic_params c.args.env.now) c.args.around c.args.node (choice_form (plain_expr c.args.test.now) (plain_stmt c.args.then.now)
    (option_map plain_stmt (option_copied c.args.other))) (walk_of c.args.env.now c.args.out.now)) _ _ _ c.judge-in-None.result _
    (neither_so (option_copied c.args.other) (ap option_copied c.in-None.is) met
    ∙ judged_as (fault_of c.boolean.new.node) _
    (choice_made c.args.test.now c.into_node-test.result (plain_typed c.in_ok-given.given) c.args.node.place
    (typed_stmt c.in_ok-first.first.stmt) None (typed_stmt c.choose-made-in-None.result.stmt) c.into_node-test.ensures c.choose-made-in-None.ensures.stmt))
    (c.judge-in-None.ensures.checks (walk_of c.scoped.new.env c.scoped.new.out))

pub statements::statements-returns-in_err-done-clause-checks : goal.statements::statements-returns-in_err-done-clause-checks
statements::statements-returns-in_err-done-clause-checks t c =
    stopped
    (λ q. check_stmt (atomic_params c.loop-stmt.env) c.args.around (not c.loop-stmt.completes) (plain_stmt c.stmt-item.result)
    (walk_of c.loop-stmt.env c.loop-stmt.out) ≡ verdict.refused q)
    (λ v. check_all (atomic_params c.args.env.now) c.args.around true (plain_stmts (map plain_stmt c.args.stmts.now)) (walk_of c.args.env.now c.args.out.now) ≡ v)
    c.from_residual.result _ c.in_err-done.field-0.0 c.from_residual.ensures.1
    (λ q d.
    order_refused (atomic_params c.args.env.now) (atomic_params c.loop-stmt.env) c.args.around c.args.stmts.now (walk_of c.args.env.now c.args.out.now)
    c.loop-stmt.stmt-index c.loop-stmt.completes (map typed_stmt c.loop-stmt.made) c.stmt-item.result (walk_of c.loop-stmt.env c.loop-stmt.out) q
    c.loop-stmt.invariant.goes_on (home_params c.args.env.now c.loop-stmt.env c.loop-stmt.invariant.home) c.loop-stmt-test.true c.stmt-item.is d)
    c.in_err-done.ensures.checks

pub statements::statements-loop-stmt-preserved : goal.statements::statements-loop-stmt-preserved
statements::statements-loop-stmt-preserved t c =
    let next_so : c.if-completes.completes ≡ (c.loop-stmt.completes && c.in_ok-done.done.completes) = (elim c.if-completes.branch [
      | statements::statements-then-completes w ↦
          and_then_so c.loop-stmt.completes c.in_ok-done.done.completes c.if-completes.completes w.if-completes.true w.completes-is
      | statements::statements-else-completes w ↦
          and_else_so c.loop-stmt.completes c.in_ok-done.done.completes c.if-completes.completes w.if-completes.false (w.completes-is ∙ w.if-completes.false)
    ]) in
    record {
      completes =
          complete_step c.args.stmts.now c.loop-stmt.stmt-index c.stmt-item.result c.loop-stmt.completes c.in_ok-done.done.completes c.if-completes.completes
          c.loop-stmt-test.true
          c.stmt-item.is c.in_ok-done.ensures.completes next_so c.loop-stmt.invariant.completes;
      home = c.in_ok-done.ensures.home ∙ c.loop-stmt.invariant.home;
      goes_on =
          order_more (atomic_params c.args.env.now) (atomic_params c.loop-stmt.env) c.args.around c.loop-stmt.completes c.in_ok-done.done.completes
          c.if-completes.completes c.args.stmts.now c.loop-stmt.stmt-index (map typed_stmt c.loop-stmt.made) (map typed_stmt c.push.new.self)
          (typed_stmt c.in_ok-done.done.stmt) c.stmt-item.result (walk_of c.args.env.now c.args.out.now) (walk_of c.loop-stmt.env c.loop-stmt.out)
          (walk_of c.statement.new.env c.statement.new.out) c.loop-stmt.invariant.goes_on
          (home_params c.args.env.now c.loop-stmt.env c.loop-stmt.invariant.home) c.loop-stmt-test.true c.stmt-item.is c.in_ok-done.ensures.checks
          c.in_ok-done.ensures.completes next_so (map_pushed typed_stmt c.loop-stmt.made c.push.new.self c.in_ok-done.done.stmt c.in_ok-push.ensures.ok);
    }

pub statements::statements-returns-clause-checks : goal.statements::statements-returns-clause-checks
statements::statements-returns-clause-checks t c =
    order_all (atomic_params c.args.env.now) c.args.around c.loop-stmt.completes c.args.stmts.now c.loop-stmt.stmt-index (map typed_stmt c.loop-stmt.made)
    (walk_of c.args.env.now c.args.out.now) (walk_of c.loop-stmt.env c.loop-stmt.out) c.loop-stmt.invariant.goes_on
    (drop_all c.loop-stmt.stmt-index c.args.stmts.now c.loop-stmt-test.false)

pub statements::repeat-returns-in_err-given-clause-checks : goal.statements::repeat-returns-in_err-given-clause-checks
statements::repeat-returns-in_err-given-clause-checks t c =
    stopped (λ q. Typing c.args.env.now (plain_expr c.args.test.now) c.args.out.now (refused q))
    (λ v. check_form (atomic_params c.args.env.now) c.args.around c.args.node (form.while_loop (plain_expr c.args.test.now) (plain_stmt c.args.iteration.now)) (walk_of c.args.env.now c.args.out.now) ≡ v) c.from_residual.result _ c.in_err-given.field-0.0 c.from_residual.ensures.1 (λ q d. rw d) c.in_err-given.ensures.answer

pub statements::repeat-returns-in_err-done-clause-checks : goal.statements::repeat-returns-in_err-done-clause-checks
statements::repeat-returns-in_err-done-clause-checks t c =
    stopped
    (λ q. check_scope (atomic_params c.args.env.now) c.args.around (plain_stmt c.args.iteration.now) (walk_of c.args.env.now c.boolean.new.out) ≡ verdict.refused q)
    (λ v. check_form (atomic_params c.args.env.now) c.args.around c.args.node (form.while_loop (plain_expr c.args.test.now) (plain_stmt c.args.iteration.now)) (walk_of c.args.env.now c.args.out.now) ≡ v) c.from_residual-in_err-done.result _ c.in_err-done.field-0.0 c.from_residual-in_err-done.ensures.1
    (λ q d. rw (c.in_ok-given.ensures.answer, d)) c.in_err-done.ensures.checks

pub statements::repeat-returns-clause-home : goal.statements::repeat-returns-clause-home
statements::repeat-returns-clause-home t c = anyhow c.judge.result c.in_ok-done.ensures.home

pub statements::repeat-returns-clause-checks : goal.statements::repeat-returns-clause-checks
statements::repeat-returns-clause-checks t c =
    judged_so
    (check_form (atomic_params c.args.env.now) c.args.around c.args.node (form.while_loop (plain_expr c.args.test.now) (plain_stmt c.args.iteration.now)) (walk_of c.args.env.now c.args.out.now)) _ _ _ c.judge.result _
    (rw (
      c.in_ok-given.ensures.answer,
      c.in_ok-done.ensures.checks,
      ← c.in_ok-given.ensures.node,
      made_While c.args.node.place c.into_node.result c.in_ok-done.done.stmt,
      node_made c.args.test.now c.into_node.result (plain_typed c.in_ok-given.given) c.into_node.ensures,
    ))
    (c.judge.ensures.checks (walk_of c.scoped.new.env c.scoped.new.out))

pub constructs::atomic-returns-in_err-done-clause-checks : goal.constructs::atomic-returns-in_err-done-clause-checks
constructs::atomic-returns-in_err-done-clause-checks t c =
    stopped (λ q. check_block (atomic_params c.args.env.now) c.inside.result (plain_stmts (map plain_stmt c.args.stmts.now)) (walk_of c.args.env.now c.new-inner.result) ≡ verdict.refused q)
    (λ v. check_form (atomic_params c.args.env.now) c.args.around c.args.node (form.atomic (plain_stmts (map plain_stmt c.args.stmts.now))) (walk_of c.args.env.now c.args.out.now) ≡ v) c.from_residual.result _ c.in_err-done.field-0.0 c.from_residual.ensures.1
    (λ q d.
    rw (block_in (atomic_params c.args.env.now) c.args.env.now c.args.around c.inside.result (plain_stmts (map plain_stmt c.args.stmts.now)) c.args.out.now c.new-inner.result (verdict.refused q)
    c.inside.ensures c.new-inner.ensures d))
    c.in_err-done.ensures.checks

pub constructs::atomic-returns-clause-home : goal.constructs::atomic-returns-clause-home
constructs::atomic-returns-clause-home t c = anyhow c.judge.result c.in_ok-done.ensures.home

pub constructs::atomic-returns-clause-checks : goal.constructs::atomic-returns-clause-checks
constructs::atomic-returns-clause-checks t c =
    judged_so
    (check_form (atomic_params c.args.env.now) c.args.around c.args.node (form.atomic (plain_stmts (map plain_stmt c.args.stmts.now))) (walk_of c.args.env.now c.args.out.now)) _ _ _ c.judge.result _
    (atomic_is (atomic_params c.args.env.now) c.args.env.now c.block.new.env c.args.around c.args.node c.note_if.new.self (plain_stmts (map plain_stmt c.args.stmts.now))
    c.args.out.now c.block.new.out (map typed_stmt c.in_ok-done.done.stmts)
    (block_in (atomic_params c.args.env.now) c.args.env.now c.args.around c.inside.result (plain_stmts (map plain_stmt c.args.stmts.now)) c.args.out.now c.new-inner.result
    (passes (map typed_stmt c.in_ok-done.done.stmts) (walk_of c.block.new.env c.block.new.out)) c.inside.ensures c.new-inner.ensures
    c.in_ok-done.ensures.checks) c.note_if.ensures.node
    ∙ atomic_made c.block.new.env c.args.node.place (fault_of c.note_if.new.self) c.args.env.now c.from_here-leaving.result c.args.out.now c.block.new.out
    c.take_in.new.out c.in_ok-entered.field-0 c.in_ok-done.done.stmts c.in_ok-entered.ensures c.from_here-leaving.ensures c.in_ok-take_in.ensures)
    (c.judge.ensures.checks (walk_of c.block.new.env c.take_in.new.out))

pub constructs::foreach-returns-in_err-first-clause-checks : goal.constructs::foreach-returns-in_err-first-clause-checks
constructs::foreach-returns-in_err-first-clause-checks t c =
    stopped (λ q. Typing c.args.env.now (plain_expr c.args.start.now) c.args.out.now (refused q))
    (λ v. check_form (atomic_params c.args.env.now) c.args.around c.args.node
    (form.foreach c.args.nd c.args.var (plain_expr c.args.start.now) (plain_expr c.args.count.now) (plain_stmt c.args.iteration.now)) (walk_of c.args.env.now c.args.out.now) ≡ v) c.from_residual.result _ c.in_err-first.field-0.0 c.from_residual.ensures.1 (λ q d. rw d) c.in_err-first.ensures.answer

pub constructs::foreach-returns-in_err-number-clause-checks : goal.constructs::foreach-returns-in_err-number-clause-checks
constructs::foreach-returns-in_err-number-clause-checks t c =
    stopped (λ q. Typing c.args.env.now (plain_expr c.args.count.now) c.int.new.out (refused q))
    (λ v. check_form (atomic_params c.args.env.now) c.args.around c.args.node
    (form.foreach c.args.nd c.args.var (plain_expr c.args.start.now) (plain_expr c.args.count.now) (plain_stmt c.args.iteration.now)) (walk_of c.args.env.now c.args.out.now) ≡ v) c.from_residual-in_err-number.result _ c.in_err-number.field-0.0 c.from_residual-in_err-number.ensures.1
    (λ q d. rw (c.in_ok-first.ensures.answer, d)) c.in_err-number.ensures.answer

pub constructs::foreach-returns-in_err-done-clause-checks : goal.constructs::foreach-returns-in_err-done-clause-checks
constructs::foreach-returns-in_err-done-clause-checks t c =
    stopped (λ q. check_scope (atomic_params c.declare.new.self) c.inside.result (plain_stmt c.args.iteration.now)
    (walk_of c.declare.new.self c.new-inner.result) ≡ verdict.refused q)
    (λ v. check_form (atomic_params c.args.env.now) c.args.around c.args.node
    (form.foreach c.args.nd c.args.var (plain_expr c.args.start.now) (plain_expr c.args.count.now) (plain_stmt c.args.iteration.now)) (walk_of c.args.env.now c.args.out.now) ≡ v) c.from_residual-in_err-done.result _ c.in_err-done.field-0.0 c.from_residual-in_err-done.ensures.1
    (λ q d.
    rw (
      c.in_ok-first.ensures.answer,
      c.in_ok-number.ensures.answer,
      piece_in (atomic_params c.args.env.now) c.declare.new.self (variable_declared c.args.env.now c.args.var) c.args.around c.inside.result
          (plain_stmt c.args.iteration.now) c.new-inner.result (verdict.refused q)
          (home_params c.args.env.now c.declare.new.self c.in_ok-declare.ensures.home) c.in_ok-declare.ensures.whole
          c.inside.ensures c.new-inner.ensures d,
    ))
    c.in_err-done.ensures.checks

pub constructs::foreach-returns-in_err-settle_iterations-clause-checks : goal.constructs::foreach-returns-in_err-settle_iterations-clause-checks
constructs::foreach-returns-in_err-settle_iterations-clause-checks t c =
    let passed : Iterated c.args.env.now c.scoped.new.env c.args.around c.args.node c.int.new.node c.int-2.new.node c.note_declaration.new.node
    c.args.var (plain_expr c.args.start.now) (plain_expr c.args.count.now) (plain_stmt c.args.iteration.now) c.args.out.now
    c.int.new.out c.int-2.new.out c.scoped.new.out (plain_typed c.in_ok-first.first) (plain_typed c.in_ok-number.number)
    (typed_stmt c.in_ok-done.done.stmt) = record {
      starts = c.in_ok-first.ensures.answer;
      counts = c.in_ok-number.ensures.answer;
      first_is = c.in_ok-first.ensures.node;
      number_is = c.in_ok-number.ensures.node;
      noted_is = c.note_declaration.ensures.node;
      in_scope =
          piece_in (atomic_params c.args.env.now) c.declare.new.self (variable_declared c.args.env.now c.args.var) c.args.around c.inside.result
          (plain_stmt c.args.iteration.now) c.new-inner.result (passes (typed_stmt c.in_ok-done.done.stmt) (walk_of c.scoped.new.env c.scoped.new.out))
          (home_params c.args.env.now c.declare.new.self c.in_ok-declare.ensures.home) c.in_ok-declare.ensures.whole
          c.inside.ensures c.new-inner.ensures c.in_ok-done.ensures.checks;
    } in
    let left : Left c.args.env.now c.scoped.new.env c.args.nd c.slots-slot.result c.leave.new.self c.scoped.new.out c.reach_nd.new.found = record {
      home = c.in_ok-done.ensures.home ∙ c.in_ok-declare.ensures.home;
      env_is = ap bare c.leave.ensures;
      slot_is = c.slots-slot.ensures;
      iteration_is = c.reach_nd.ensures;
    } in
    let made = iterations_made c.args.env.now c.args.node c.args.nd (plain_expr c.args.start.now) (plain_expr c.args.count.now) (plain_typed c.in_ok-first.first)
    (plain_typed c.in_ok-number.number) (typed_stmt c.in_ok-done.done.stmt) in
    let after = iterations_left c.args.env.now c.scoped.new.env c.args.nd c.int-2.new.out c.scoped.new.out in
    stopped
    (λ q. iterations_met c.leave.new.self c.note_declaration.new.node c.args.nd c.slots-slot.result (plain_stmt c.args.iteration.now)
    c.reach_nd.new.found made after ≡ verdict.refused q)
    (λ v. check_form (atomic_params c.args.env.now) c.args.around c.args.node
    (form.foreach c.args.nd c.args.var (plain_expr c.args.start.now) (plain_expr c.args.count.now) (plain_stmt c.args.iteration.now)) (walk_of c.args.env.now c.args.out.now) ≡ v)
    c.from_residual-in_err-settle_iterations.result _ c.in_err-settle_iterations.field-0.0 c.from_residual-in_err-settle_iterations.ensures.1
    (λ q d. iterations_are (verdict.refused q) passed left d) (c.in_err-settle_iterations.ensures made after)

pub constructs::foreach-returns-clause-checks : goal.constructs::foreach-returns-clause-checks
constructs::foreach-returns-clause-checks t c =
    let passed : Iterated c.args.env.now c.scoped.new.env c.args.around c.args.node c.int.new.node c.int-2.new.node c.note_declaration.new.node
    c.args.var (plain_expr c.args.start.now) (plain_expr c.args.count.now) (plain_stmt c.args.iteration.now) c.args.out.now
    c.int.new.out c.int-2.new.out c.scoped.new.out (plain_typed c.in_ok-first.first) (plain_typed c.in_ok-number.number)
    (typed_stmt c.in_ok-done.done.stmt) = record {
      starts = c.in_ok-first.ensures.answer;
      counts = c.in_ok-number.ensures.answer;
      first_is = c.in_ok-first.ensures.node;
      number_is = c.in_ok-number.ensures.node;
      noted_is = c.note_declaration.ensures.node;
      in_scope =
          piece_in (atomic_params c.args.env.now) c.declare.new.self (variable_declared c.args.env.now c.args.var) c.args.around c.inside.result
          (plain_stmt c.args.iteration.now) c.new-inner.result (passes (typed_stmt c.in_ok-done.done.stmt) (walk_of c.scoped.new.env c.scoped.new.out))
          (home_params c.args.env.now c.declare.new.self c.in_ok-declare.ensures.home) c.in_ok-declare.ensures.whole
          c.inside.ensures c.new-inner.ensures c.in_ok-done.ensures.checks;
    } in
    let left : Left c.args.env.now c.scoped.new.env c.args.nd c.slots-slot.result c.leave.new.self c.scoped.new.out c.reach_nd.new.found = record {
      home = c.in_ok-done.ensures.home ∙ c.in_ok-declare.ensures.home;
      env_is = ap bare c.leave.ensures;
      slot_is = c.slots-slot.ensures;
      iteration_is = c.reach_nd.ensures;
    } in
    let made = iterations_made c.args.env.now c.args.node c.args.nd (plain_expr c.args.start.now) (plain_expr c.args.count.now) (plain_typed c.in_ok-first.first)
    (plain_typed c.in_ok-number.number) (typed_stmt c.in_ok-done.done.stmt) in
    let after = iterations_left c.args.env.now c.scoped.new.env c.args.nd c.int-2.new.out c.scoped.new.out in
    iterations_are (passes made after) passed left (c.in_ok-settle_iterations.ensures made after)
    ∙ passes_so (typed_stmt c.iterated.result) made (walk_from c.leave.new.self c.take_in.new.out) after
    (foreach_made c.args.start.now c.args.count.now c.into_node.result c.into_node-2.result (plain_typed c.in_ok-first.first) (plain_typed c.in_ok-number.number)
    c.args.node.place c.args.nd c.slots-slot.result (slots_in c.args.env.now) (typed_stmt c.in_ok-done.done.stmt) (typed_stmt c.iterated.result)
    c.into_node.ensures c.into_node-2.ensures c.slots-slot.ensures c.iterated.ensures)
    (sym
    (closed_is c.args.env.now c.scoped.new.env c.leave.new.self c.mark-scope.result c.from_here-leaving.result c.marks_after.result (marks_after c.args.nd)
    c.int-2.new.out c.int-2.new.out c.reach_nd.new.found (with_nd c.args.nd c.scoped.new.out) c.scoped.new.out c.take_in.new.out c.mark-scope.ensures
    c.leave.ensures c.from_here-leaving.ensures c.marks_after.ensures c.reach_nd.ensures c.in_ok-take_in.ensures))

pub parts::foreach_parts-returns-in_err-whole-clause-checks : goal.parts::foreach_parts-returns-in_err-whole-clause-checks
parts::foreach_parts-returns-in_err-whole-clause-checks t c =
    stopped (λ q. cut (plain_expr c.args.array.now) (walk_of c.args.env.now c.args.out.now) ≡ verdict.refused q)
    (λ v. check_form (atomic_params c.args.env.now) c.args.around c.args.node
    (form.foreach_parts c.args.view.now c.args.var.now (plain_expr c.args.array.now) (plain_expr c.args.count.now) (plain_stmt c.args.iteration.now)) (walk_of c.args.env.now c.args.out.now) ≡ v) c.from_residual.result _ c.in_err-whole.field-0.0 c.from_residual.ensures.1 (λ q d. rw d) c.in_err-whole.ensures.cut

pub parts::foreach_parts-returns-in_err-given-clause-checks : goal.parts::foreach_parts-returns-in_err-given-clause-checks
parts::foreach_parts-returns-in_err-given-clause-checks t c =
    stopped (λ q. Typing c.args.env.now (plain_expr c.args.count.now) c.whole_of.new.out (refused q))
    (λ v. check_form (atomic_params c.args.env.now) c.args.around c.args.node
    (form.foreach_parts c.args.view.now c.args.var.now (plain_expr c.args.array.now) (plain_expr c.args.count.now) (plain_stmt c.args.iteration.now)) (walk_of c.args.env.now c.args.out.now) ≡ v) c.from_residual-in_err-given.result _ c.in_err-given.field-0.0 c.from_residual-in_err-given.ensures.1
    (λ q d. rw (c.in_ok-whole.ensures.cut, d)) c.in_err-given.ensures.answer

pub parts::foreach_parts-returns-in_err-done-clause-checks : goal.parts::foreach_parts-returns-in_err-done-clause-checks
parts::foreach_parts-returns-in_err-done-clause-checks t c =
    let opened : Opened c.args.env.now c.args.node c.note_found.new.self c.int.new.node c.open.new.node c.args.view.now c.args.var.now
    (plain_expr c.args.array.now) (plain_expr c.args.count.now) c.args.out.now c.whole_of.new.out c.int.new.out c.in_ok-whole.whole
    (plain_typed c.in_ok-given.given) = record {
      cuts = c.in_ok-whole.ensures.cut;
      seen_is = c.note_found.ensures;
      counts = c.in_ok-given.ensures.answer;
      number_is = c.in_ok-given.ensures.node;
      first_is = c.in_ok-open.ensures.noted;
    } in
    stopped (λ q. check_scope (atomic_params c.open.new.env) c.inside.result (plain_stmt c.args.iteration.now)
    (walk_of c.open.new.env c.new-inner.result) ≡ verdict.refused q)
    (λ v. check_form (atomic_params c.args.env.now) c.args.around c.args.node
    (form.foreach_parts c.args.view.now c.args.var.now (plain_expr c.args.array.now) (plain_expr c.args.count.now) (plain_stmt c.args.iteration.now)) (walk_of c.args.env.now c.args.out.now) ≡ v) c.from_residual-in_err-done.result _ c.in_err-done.field-0.0 c.from_residual-in_err-done.ensures.1
    (λ q d. body_refused c.args.around (plain_stmt c.args.iteration.now) q opened
    (piece_in (atomic_params c.args.env.now) c.open.new.env (parts_declared c.args.env.now c.args.view.now c.args.var.now c.in_ok-whole.whole.ty) c.args.around c.inside.result
    (plain_stmt c.args.iteration.now) c.new-inner.result (verdict.refused q)
    (home_params c.args.env.now c.open.new.env c.in_ok-open.ensures.home) c.in_ok-open.ensures.whole
    c.inside.ensures c.new-inner.ensures d))
    c.in_err-done.ensures.checks

pub parts::foreach_parts-returns-in_err-settle_parts-clause-checks : goal.parts::foreach_parts-returns-in_err-settle_parts-clause-checks
parts::foreach_parts-returns-in_err-settle_parts-clause-checks t c =
    let part : Part c.args.env.now c.scoped.new.env c.args.around c.args.node c.note_found.new.self c.int.new.node c.open.new.node
    c.args.view.now c.args.var.now (plain_expr c.args.array.now) (plain_expr c.args.count.now) (plain_stmt c.args.iteration.now) c.args.out.now
    c.whole_of.new.out c.int.new.out c.scoped.new.out c.in_ok-whole.whole (plain_typed c.in_ok-given.given) (typed_stmt c.in_ok-done.done.stmt) = record {
      opened = record {
        cuts = c.in_ok-whole.ensures.cut;
        seen_is = c.note_found.ensures;
        counts = c.in_ok-given.ensures.answer;
        number_is = c.in_ok-given.ensures.node;
        first_is = c.in_ok-open.ensures.noted;
      };
      in_scope =
          piece_in (atomic_params c.args.env.now) c.open.new.env (parts_declared c.args.env.now c.args.view.now c.args.var.now c.in_ok-whole.whole.ty) c.args.around c.inside.result
          (plain_stmt c.args.iteration.now) c.new-inner.result (passes (typed_stmt c.in_ok-done.done.stmt) (walk_of c.scoped.new.env c.scoped.new.out))
          (home_params c.args.env.now c.open.new.env c.in_ok-open.ensures.home) c.in_ok-open.ensures.whole
          c.inside.ensures c.new-inner.ensures c.in_ok-done.ensures.checks;
    } in
    let made = parts_made c.args.env.now c.args.node (plain_expr c.args.count.now) c.in_ok-whole.whole (plain_typed c.in_ok-given.given)
    (typed_stmt c.in_ok-done.done.stmt) in
    let after = parts_closed c.args.env.now c.scoped.new.env c.args.out.now c.in_ok-whole.whole c.int.new.out c.scoped.new.out in
    stopped
    (λ q. parts_met c.leave.new.self c.open.new.node c.slots-part.result (plain_stmt c.args.iteration.now) c.scoped.new.out made after ≡ verdict.refused q)
    (λ v. check_form (atomic_params c.args.env.now) c.args.around c.args.node
    (form.foreach_parts c.args.view.now c.args.var.now (plain_expr c.args.array.now) (plain_expr c.args.count.now) (plain_stmt c.args.iteration.now)) (walk_of c.args.env.now c.args.out.now) ≡ v)
    c.from_residual-in_err-settle_parts.result _ c.in_err-settle_parts.field-0.0 c.from_residual-in_err-settle_parts.ensures.1
    (λ q d. parts_are c.slots-part.result c.leave.new.self (verdict.refused q) part (c.in_ok-done.ensures.home ∙ c.in_ok-open.ensures.home)
    (ap bare c.leave.ensures) c.slots-part.ensures d)
    (c.in_err-settle_parts.ensures made after)

pub parts::foreach_parts-returns-clause-checks : goal.parts::foreach_parts-returns-clause-checks
parts::foreach_parts-returns-clause-checks t c =
    let part : Part c.args.env.now c.scoped.new.env c.args.around c.args.node c.note_found.new.self c.int.new.node c.open.new.node
    c.args.view.now c.args.var.now (plain_expr c.args.array.now) (plain_expr c.args.count.now) (plain_stmt c.args.iteration.now) c.args.out.now
    c.whole_of.new.out c.int.new.out c.scoped.new.out c.in_ok-whole.whole (plain_typed c.in_ok-given.given) (typed_stmt c.in_ok-done.done.stmt) = record {
      opened = record {
        cuts = c.in_ok-whole.ensures.cut;
        seen_is = c.note_found.ensures;
        counts = c.in_ok-given.ensures.answer;
        number_is = c.in_ok-given.ensures.node;
        first_is = c.in_ok-open.ensures.noted;
      };
      in_scope =
          piece_in (atomic_params c.args.env.now) c.open.new.env (parts_declared c.args.env.now c.args.view.now c.args.var.now c.in_ok-whole.whole.ty) c.args.around c.inside.result
          (plain_stmt c.args.iteration.now) c.new-inner.result (passes (typed_stmt c.in_ok-done.done.stmt) (walk_of c.scoped.new.env c.scoped.new.out))
          (home_params c.args.env.now c.open.new.env c.in_ok-open.ensures.home) c.in_ok-open.ensures.whole
          c.inside.ensures c.new-inner.ensures c.in_ok-done.ensures.checks;
    } in
    let made = parts_made c.args.env.now c.args.node (plain_expr c.args.count.now) c.in_ok-whole.whole (plain_typed c.in_ok-given.given)
    (typed_stmt c.in_ok-done.done.stmt) in
    let after = parts_closed c.args.env.now c.scoped.new.env c.args.out.now c.in_ok-whole.whole c.int.new.out c.scoped.new.out in
    parts_are c.slots-part.result c.leave.new.self (passes made after) part (c.in_ok-done.ensures.home ∙ c.in_ok-open.ensures.home)
    (ap bare c.leave.ensures) c.slots-part.ensures (c.in_ok-settle_parts.ensures made after)
    ∙ passes_so (typed_stmt c.parted.result) made (walk_from c.leave.new.self c.take_in.new.out) after
    (parts_formed c.args.count.now c.into_node-count.result (plain_typed c.in_ok-given.given) c.args.node.place c.slots-part.result
    (slots_in c.args.env.now) (plain_source c.in_ok-whole.whole.source) (typed_stmt c.in_ok-done.done.stmt) (typed_stmt c.parted.result)
    c.into_node-count.ensures c.slots-part.ensures c.parted.ensures)
    (sym
    (closed_is c.args.env.now c.scoped.new.env c.leave.new.self c.mark-scope.result c.from_here-leaving.result marks.Dropped marks.Dropped c.args.out.now
    c.int.new.out c.in_ok-inner.inner
    (handed_on (part_slot c.args.env.now) (outer_part (plain_source c.in_ok-whole.whole.source)) c.scoped.new.out) c.scoped.new.out c.take_in.new.out
    c.mark-scope.ensures c.leave.ensures c.from_here-leaving.ensures refl
    (c.in_ok-inner.ensures ∙ ap (λ z. handed_on c.slots-part.result z c.scoped.new.out) c.outer_part.ensures
    ∙ ap (λ z. handed_on z (outer_part (plain_source c.in_ok-whole.whole.source)) c.scoped.new.out) c.slots-part.ensures) c.in_ok-take_in.ensures))

pub constructs::cobegin-returns-in_err-done-clause-checks : goal.constructs::cobegin-returns-in_err-done-clause-checks
constructs::cobegin-returns-in_err-done-clause-checks t c =
    stopped (λ q. check_scope (atomic_params c.loop-branch.env) c.inside.result (plain_stmt c.branch-item.result)
    (walk_of c.loop-branch.env c.new-inner.result) ≡ verdict.refused q)
    (λ v. check_form (atomic_params c.args.env.now) c.args.around c.args.node (form.cobegin c.args.nd (plain_stmts (map plain_stmt c.args.branches.now))) (walk_of c.args.env.now c.args.out.now) ≡ v) c.from_residual-in_err-done.result _ c.in_err-done.field-0.0 c.from_residual-in_err-done.ensures.1
    (λ q d.
    fork_refused (atomic_params c.args.env.now) c.args.around c.args.node c.args.nd c.args.branches.now (walk_of c.args.env.now c.args.out.now) c.loop-branch.branch-index c.loop-branch.passed.effects
    (map plain_branch c.loop-branch.passed.made) (walk_of c.loop-branch.env c.loop-branch.out) c.branch-item.result q c.loop-branch.invariant.forks
    c.loop-branch-test.true c.branch-item.is
    (piece_in (atomic_params c.args.env.now) c.loop-branch.env c.loop-branch.env c.args.around c.inside.result (plain_stmt c.branch-item.result) c.new-inner.result
    (verdict.refused q) (home_params c.args.env.now c.loop-branch.env c.loop-branch.invariant.home) refl c.inside.ensures c.new-inner.ensures
    d))
    c.in_err-done.ensures.checks

pub constructs::cobegin-loop-branch-preserved : goal.constructs::cobegin-loop-branch-preserved
constructs::cobegin-loop-branch-preserved t c =
    let at = c.loop-branch in
    let made : Made = c.in_ok-done.done.stmt in
    let one : TypedBranch = plain_branch (record { copies = c.in_ok-copies.copies; body = made }) in
    let set : List Effect = with_uses c.scoped.new.out.effects c.scoped.new.out.uses in
    let found : Branch (atomic_params c.args.env.now) (inside c.args.around) c.args.nd at.env c.scoped.new.env at.out c.scoped.new.out c.take_in.new.out
    c.branch-item.result set one (typed_stmt made) = record {
      in_scope =
          piece_in (atomic_params c.args.env.now) at.env at.env c.args.around c.inside.result (plain_stmt c.branch-item.result) c.new-inner.result
          (passes (typed_stmt made) (walk_of c.scoped.new.env c.scoped.new.out)) (home_params c.args.env.now at.env at.invariant.home) refl c.inside.ensures c.new-inner.ensures
          c.in_ok-done.ensures.checks;
      set_is = refl;
      one_is =
          branch_made at.env c.branch-item.result c.as_slice.result.now c.in_ok-copies.copies made
          (c.as_slice.ensures ∙ assigned_is (plain_stmt c.branch-item.result) c.in_ok-names.names.writes c.in_ok-names.ensures.writes c.in_ok-names.ensures.once.1)
          c.in_ok-copies.ensures;
      out_is =
          taken_so at.env c.args.nd c.marks_after.result c.from_here-leaving.result at.out c.scoped.new.out c.take_in.new.out
          c.marks_after.ensures c.from_here-leaving.ensures c.in_ok-take_in.ensures;
    } in
    record {
      forks =
          fork_more (atomic_params c.args.env.now) (inside c.args.around) c.args.nd c.args.branches.now (walk_of c.args.env.now c.args.out.now) at.branch-index
          at.passed.effects c.add.new.self.effects (map plain_branch at.passed.made) (map plain_branch c.add.new.self.made) at.env c.scoped.new.env at.out
          c.scoped.new.out c.take_in.new.out c.branch-item.result set one (typed_stmt made) at.invariant.forks c.loop-branch-test.true c.branch-item.is found c.in_ok-add.ensures.effects
          (map_pushed plain_branch at.passed.made c.add.new.self.made (record { copies = c.in_ok-copies.copies; body = made }) c.in_ok-add.ensures.made);
      touched =
          touched_more c.args.branches.now at.branch-index c.branch-item.result at.passed.locals c.add.new.self.locals
          c.in_ok-names.names c.loop-branch-test.true c.branch-item.is
          (record { reads = c.in_ok-names.ensures.reads; assigns = c.in_ok-names.ensures.writes; once = c.in_ok-names.ensures.once })
          c.in_ok-add.ensures.locals at.invariant.touched;
      home = c.in_ok-done.ensures.home ∙ at.invariant.home;
    }

pub constructs::cobegin-returns-in_err-settle_branches-clause-checks : goal.constructs::cobegin-returns-in_err-settle_branches-clause-checks
constructs::cobegin-returns-in_err-settle_branches-clause-checks t c =
    let all : check_branches (atomic_params c.args.env.now) (inside c.args.around) c.args.nd (plain_stmts (map plain_stmt c.args.branches.now))
    (walk_of c.args.env.now c.args.out.now)
    ≡ passes (branches_with c.loop-branch.passed.effects (map plain_branch c.loop-branch.passed.made)) (walk_of c.loop-branch.env c.loop-branch.out) =
    fork_all (atomic_params c.args.env.now) (inside c.args.around) c.args.nd c.args.branches.now (walk_of c.args.env.now c.args.out.now) c.loop-branch.branch-index c.loop-branch.passed.effects
    (map plain_branch c.loop-branch.passed.made) (walk_of c.loop-branch.env c.loop-branch.out) c.loop-branch.invariant.forks
    (drop_all c.loop-branch.branch-index c.args.branches.now c.loop-branch-test.false) in
    let clash_is : c.in_ok-clash.clash ≡ some_disturb (plain_stmts (map plain_stmt c.args.branches.now)) =
    clashing_is (plain_stmts (map plain_stmt c.args.branches.now)) c.as_slice-2.result.now c.in_ok-clash.clash
    (subst (AllTouched (plain_stmts (map plain_stmt c.args.branches.now))) (sym c.as_slice-2.ensures)
    (touched_all c.args.branches.now c.loop-branch.branch-index c.loop-branch.passed.locals
    (drop_all c.loop-branch.branch-index c.args.branches.now c.loop-branch-test.false) c.loop-branch.invariant.touched))
    c.in_ok-clash.ensures.none c.in_ok-clash.ensures.some in
    let made = branches_made c.args.node c.args.nd (map plain_branch c.loop-branch.passed.made) in
    let after = walk_of c.loop-branch.env (with_nd c.args.nd c.loop-branch.out) in
    stopped
    (λ q. branches_met (atomic_params c.loop-branch.env) c.loop-branch.env c.args.node c.args.nd c.in_ok-clash.clash c.as_slice-3.result.now made after ≡ verdict.refused q)
    (λ v. check_form (atomic_params c.args.env.now) c.args.around c.args.node (form.cobegin c.args.nd (plain_stmts (map plain_stmt c.args.branches.now))) (walk_of c.args.env.now c.args.out.now) ≡ v)
    c.from_residual-in_err-settle_branches.result _ c.in_err-settle_branches.field-0.0 c.from_residual-in_err-settle_branches.ensures.1
    (λ q d. forks_are c.args.env.now c.loop-branch.env c.args.around c.args.node c.args.nd c.in_ok-clash.clash
    (plain_stmts (map plain_stmt c.args.branches.now)) c.loop-branch.passed.effects c.as_slice-3.result.now (map plain_branch c.loop-branch.passed.made) c.args.out.now
    c.loop-branch.out (verdict.refused q) all clash_is c.loop-branch.invariant.home c.as_slice-3.ensures d)
    (c.in_err-settle_branches.ensures made after)

pub constructs::cobegin-returns-clause-checks : goal.constructs::cobegin-returns-clause-checks
constructs::cobegin-returns-clause-checks t c =
    let all : check_branches (atomic_params c.args.env.now) (inside c.args.around) c.args.nd (plain_stmts (map plain_stmt c.args.branches.now))
    (walk_of c.args.env.now c.args.out.now)
    ≡ passes (branches_with c.loop-branch.passed.effects (map plain_branch c.loop-branch.passed.made)) (walk_of c.loop-branch.env c.loop-branch.out) =
    fork_all (atomic_params c.args.env.now) (inside c.args.around) c.args.nd c.args.branches.now (walk_of c.args.env.now c.args.out.now) c.loop-branch.branch-index c.loop-branch.passed.effects
    (map plain_branch c.loop-branch.passed.made) (walk_of c.loop-branch.env c.loop-branch.out) c.loop-branch.invariant.forks
    (drop_all c.loop-branch.branch-index c.args.branches.now c.loop-branch-test.false) in
    let clash_is : c.in_ok-clash.clash ≡ some_disturb (plain_stmts (map plain_stmt c.args.branches.now)) =
    clashing_is (plain_stmts (map plain_stmt c.args.branches.now)) c.as_slice-2.result.now c.in_ok-clash.clash
    (subst (AllTouched (plain_stmts (map plain_stmt c.args.branches.now))) (sym c.as_slice-2.ensures)
    (touched_all c.args.branches.now c.loop-branch.branch-index c.loop-branch.passed.locals
    (drop_all c.loop-branch.branch-index c.args.branches.now c.loop-branch-test.false) c.loop-branch.invariant.touched))
    c.in_ok-clash.ensures.none c.in_ok-clash.ensures.some in
    let made = branches_made c.args.node c.args.nd (map plain_branch c.loop-branch.passed.made) in
    let after = walk_of c.loop-branch.env (with_nd c.args.nd c.loop-branch.out) in
    forks_are c.args.env.now c.loop-branch.env c.args.around c.args.node c.args.nd c.in_ok-clash.clash
    (plain_stmts (map plain_stmt c.args.branches.now)) c.loop-branch.passed.effects c.as_slice-3.result.now (map plain_branch c.loop-branch.passed.made) c.args.out.now
    c.loop-branch.out (passes made after) all clash_is c.loop-branch.invariant.home c.as_slice-3.ensures (c.in_ok-settle_branches.ensures made after)
    ∙ passes_so (typed_stmt c.forked.result) made (walk_of c.loop-branch.env c.reach_nd.new.found) after c.forked.ensures
    (ap (λ (z : Found). walk_of c.loop-branch.env z) c.reach_nd.ensures)
