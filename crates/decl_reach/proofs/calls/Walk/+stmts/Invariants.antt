use Rattle.std.proofs.Common.{◌≡◌, ◌||◌, ◌++◌, map, drop}
use Rattle.syntax_tree.specs.Nd.{some_holds_nd}
use Rattle.syntax_tree.specs.Plain.{plain_stmt, plain_stmts}
use Rattle.decl_reach.specs.Calls.{IsPaired, block_calls, branch_calls}
use Rattle.decl_reach.proofs.Locals.{IsAbove}
use Rattle.decl_reach.proofs.calls.Walk.+stmts.Given as goal

abbrev pub invariant-block-loop-stmt : goal.invariant-block-loop-stmt
invariant-block-loop-stmt l =
    let left = plain_stmts (map plain_stmt (drop l.stmt-index l.all)) in
    let all = plain_stmts (map plain_stmt l.all) in
    record {
      nd : (l.reached.holds_nd || some_holds_nd left) ≡ (l.initial.reached.holds_nd || some_holds_nd all);
      called : l.reached.called ++ block_calls l.self.table.now l.self.class l.locals left ≡ l.initial.reached.called ++ block_calls l.self.table.now l.self.class l.initial.locals all;
      above : IsAbove l.outer l.initial.locals l.locals;
    }

abbrev pub invariant-branches-loop-branch : goal.invariant-branches-loop-branch
invariant-branches-loop-branch l =
    let left = plain_stmts (map plain_stmt (drop l.branch-index l.branches)) in
    let all = plain_stmts (map plain_stmt l.branches) in
    record {
      nd : (l.reached.holds_nd || some_holds_nd left) ≡ (l.initial.reached.holds_nd || some_holds_nd all);
      called : l.reached.called ++ branch_calls l.self.table.now l.self.class l.locals left ≡ l.initial.reached.called ++ branch_calls l.self.table.now l.self.class l.initial.locals all;
      locals : l.locals ≡ l.initial.locals;
      paired : IsPaired l.locals;
    }
