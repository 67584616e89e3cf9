use Rattle.std.proofs.Common.{◌∙◌, ◌+◌, ◌++◌, ◌≤◌, length, take, drop, ap, sym, subst, map}
use Rattle.lang_base.specs.Types.{int}
use Rattle.lang_typed.specs.Plain.{plain_program, plain_expr, plain_stmt, plain_source, stmts_of, branches_of}
use Rattle.lang_typed.specs.Scope.{constant, with_local}
use Rattle.lang_typed.specs.declared.stmt.Forking.TheVariants.{Deterministic}
use Rattle.lang_typed.specs.Effects.{after_branches, after_parts, outside_variable}
use Rattle.body_infer.specs.declared.leaving.Opened.{Opened}
use Rattle.body_infer.specs.Kept.{program_kept}
use Rattle.body_infer.specs.Doing.{done_by, effects_of, effects_of_all, effects_of_branches}
use Rattle.body_infer.specs.Walked.{all_done, scope_of, local_of, outside_all, placed_by, variables_by, regions_by, plain_branch}
use Rattle.body_infer.proofs.Blocks.{scope_pushed, block_more, scope_kept, still_long, next_is}
use Rattle.body_infer.proofs.Calling.{on_ok}
use Rattle.body_infer.proofs.Forks.{effects_of_cobegin, effects_of_foreach, cobegin_done, foreach_done, foreach_parts_done}
use Rattle.body_infer.proofs.stmts.+stmts.Goals as goal

pub statement-returns-in-Cobegin-clause-done : goal.statement-returns-in-Cobegin-clause-done
statement-returns-in-Cobegin-clause-done t c =
    let P = program_kept c.args.walk.kept.now (plain_program c.args.walk.program.now) in
    let L = scope_of c.args.scope.now in
    on_ok c.cobegin.result (λ h. h ∙ ap (λ E. all_done c.args.out.now ++ E) (sym (effects_of_cobegin P L c.args.s.now c.in-Cobegin.forking c.in-Cobegin.branches c.in-Cobegin.is))) c.cobegin.ensures.done

pub statement-returns-in-Foreach-clause-done : goal.statement-returns-in-Foreach-clause-done
statement-returns-in-Foreach-clause-done t c =
    let P = program_kept c.args.walk.kept.now (plain_program c.args.walk.program.now) in
    let L = scope_of c.args.scope.now in
    let x = c.in-Foreach.slot.number in
    let start = plain_expr c.in-Foreach.start in
    let count = plain_expr c.in-Foreach.count in
    on_ok c.foreach.result (λ h. h
    ∙ ap (λ s. all_done c.args.out.now ++ (done_by P L start ++ (done_by P L count ++ outside_variable x (after_branches c.in-Foreach.forking (effects_of P (with_local x (constant int) L) (plain_stmt s))))))
    c.get-in-Foreach.ensures
    ∙ ap (λ E. all_done c.args.out.now ++ E)
    (sym (effects_of_foreach P L c.args.s.now c.in-Foreach.forking c.in-Foreach.slot c.in-Foreach.start c.in-Foreach.count c.in-Foreach.body c.in-Foreach.is)))
    c.foreach.ensures.done

pub cobegin-returns-clause-done : goal.cobegin-returns-clause-done
cobegin-returns-clause-done t c =
    let P = program_kept c.args.walk.kept.now (plain_program c.args.walk.program.now) in
    let L = scope_of c.args.scope.now in
    on_ok c.add_after.result (λ h. cobegin_done P L c.args.forking c.args.branches.now (all_done c.args.out.now) (all_done c.all_branches.new.out) (all_done c.add_after.new.out)
    (c.in_ok-all_branches.ensures.done ∙ ap (λ os. all_done os ++ effects_of_branches P L (branches_of (map plain_branch c.as_slice.result.now))) c.new-inner.ensures
    ∙ ap (λ bs. effects_of_branches P L (branches_of (map plain_branch bs))) c.as_slice.ensures) h)
    c.add_after.ensures

pub foreach-returns-clause-done : goal.foreach-returns-clause-done
foreach-returns-clause-done t c =
    let P = program_kept c.args.walk.kept.now (plain_program c.args.walk.program.now) in
    let K = with_local c.args.slot.number (constant int) (scope_of c.args.scope.now) in
    on_ok c.leave_variable.result (λ h. foreach_done P (scope_of c.args.scope.now) c.args.forking c.args.slot.number (plain_expr c.args.start.now) (plain_expr c.args.count.now) (plain_stmt c.args.body.now)
    (all_done c.args.out.now) (all_done c.expr.new.out) (all_done c.expr-2.new.out) (all_done c.iteration.new.out) (all_done c.add_after.new.out) (all_done c.leave_variable.new.out)
    c.in_ok-expr.ensures c.in_ok-expr-2.ensures
    (c.in_ok-iteration.ensures.done ∙ ap (λ os. all_done os ++ effects_of P K (plain_stmt c.args.body.now)) c.new-inner.ensures)
    (c.in_ok-add_after.ensures ∙ ap (λ os. all_done os ++ after_branches c.args.forking (all_done c.iteration.new.out)) c.new-joined.ensures) h)
    c.leave_variable.ensures

pub foreach_parts-returns-clause-done : goal.foreach_parts-returns-clause-done
foreach_parts-returns-clause-done t c =
    let P = program_kept c.args.walk.kept.now (plain_program c.args.walk.program.now) in
    let k = c.args.part.number in
    let cut = c.in_ok-cut.cut in
    on_ok c.leave_variable.result (λ h. foreach_parts_done P (scope_of c.args.scope.now) k (plain_source c.args.source.now) (plain_expr c.args.count.now) (plain_stmt c.args.body.now) (local_of cut)
    (all_done c.args.out.now) (all_done c.cut_part.new.out) (all_done c.expr.new.out) (all_done c.iteration.new.out) (all_done c.add_after_parts.new.out)
    (all_done c.leave_variable.new.out)
    c.in_ok-cut.ensures.known c.in_ok-cut.ensures.done c.in_ok-expr.ensures
    (c.in_ok-iteration.ensures.done
    ∙ ap (λ os. all_done os ++ effects_of P (with_local (k + 4) (constant int) (scope_of c.put.new.self)) (plain_stmt c.args.body.now)) c.new-inner.ensures
    ∙ ap (λ L. effects_of P (with_local (k + 4) (constant int) L) (plain_stmt c.args.body.now))
    (ap scope_of c.in_ok-put.ensures ∙ scope_pushed c.args.scope.now (record { slot = k; known = cut })))
    (c.in_ok-add_after_parts.ensures
    ∙ ap (λ os. all_done os ++ after_branches Deterministic (after_parts k (plain_source c.args.source.now) (all_done c.iteration.new.out))) c.new-joined.ensures) h)
    c.leave_variable.ensures

pub block-loop-s-preserved : goal.block-loop-s-preserved
block-loop-s-preserved t c =
    let P = program_kept c.args.walk.kept.now (plain_program c.args.walk.program.now) in
    let at = c.loop-s in
    let s = plain_stmt c.s-item.result in
    let ss = stmts_of (map plain_stmt (drop (at.s-index + 1) c.args.all.now)) in
    let scope = c.in_ok-statement.ensures.scope in
    let variables = c.in_ok-add.ensures.variables ∙ ap (λ vs. at.opened.variables ++ vs) (c.in_ok-statement.ensures.variables ∙ ap (λ (o : Opened). o.variables ++ variables_by s) c.new-more.ensures) in
    let regions = c.in_ok-add.ensures.regions ∙ ap (λ rs. at.opened.regions ++ rs) (c.in_ok-statement.ensures.regions ∙ ap (λ (o : Opened). o.regions ++ regions_by s) c.new-more.ensures) in
    record {
      long = subst (λ ps. c.len-outer.result ≤ length ps) (sym scope) (still_long c.len-outer.result at.scope (placed_by s) at.invariant.long);
      scope = ap (take c.len-outer.result) scope ∙ scope_kept c.len-outer.result c.args.scope.now at.scope (placed_by s) at.invariant.long at.invariant.scope;
      done =
          ap (λ ps. all_done c.leave.new.out ++ outside_all c.add.new.self.variables c.add.new.self.regions (effects_of_all P (scope_of ps) ss)) scope
          ∙ ap (λ vs. all_done c.leave.new.out ++ outside_all vs c.add.new.self.regions (effects_of_all P (scope_of (at.scope ++ placed_by s)) ss)) variables
          ∙ ap (λ rs. all_done c.leave.new.out ++ outside_all (at.opened.variables ++ variables_by s) rs (effects_of_all P (scope_of (at.scope ++ placed_by s)) ss)) regions
          ∙ block_more P at.scope at.opened.variables at.opened.regions s ss (all_done at.out) (all_done c.statement.new.out) (all_done c.leave.new.out)
          (c.in_ok-statement.ensures.done ∙ ap (λ os. all_done os ++ effects_of P (scope_of at.scope) s) c.new-inner.ensures) c.in_ok-leave.ensures
          ∙ ap (λ xs. all_done at.out ++ outside_all at.opened.variables at.opened.regions (effects_of_all P (scope_of at.scope) (stmts_of (map plain_stmt xs))))
          (sym (next_is c.args.all.now at.s-index c.s-item.result c.loop-s-test.true c.s-item.is))
          ∙ at.invariant.done;
    }
