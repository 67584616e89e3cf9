use Rattle.std.proofs.Common.{◌≡◌, ℕ, map, drop}
use Rattle.syntax_tree.specs.Plain.{plain_stmt, plain_stmts}
use Rattle.body_locals.specs.Gains.{Same, gained, Scoped}
use Rattle.body_locals.specs.Touches.{stmts_read, stmts_assign, branches_read, branches_assign}
use Rattle.body_locals.proofs.walk.+walk.Given as goal

abbrev pub invariant-block-loop-stmt : goal.invariant-block-loop-stmt
invariant-block-loop-stmt l = record {
  scope : Scoped l.fn.inside l.inside l.declared;
  reads : (x : ℕ) → gained l.inside l.reads (λ x. stmts_read x (plain_stmts (map plain_stmt (drop l.stmt-index l.stmts)))) x ≡ gained l.fn.inside l.fn.reads (λ x. stmts_read x (plain_stmts (map plain_stmt l.stmts))) x;
  writes : (x : ℕ) → gained l.inside l.writes (λ x. stmts_assign x (plain_stmts (map plain_stmt (drop l.stmt-index l.stmts)))) x ≡ gained l.fn.inside l.fn.writes (λ x. stmts_assign x (plain_stmts (map plain_stmt l.stmts))) x;
}

abbrev pub invariant-branches_of-loop-branch : goal.invariant-branches_of-loop-branch
invariant-branches_of-loop-branch l = record {
  inside : Same l.fn.inside l.inside;
  reads : (x : ℕ) → gained l.inside l.reads (λ x. branches_read x (plain_stmts (map plain_stmt (drop l.branch-index l.branches)))) x ≡ gained l.fn.inside l.fn.reads (λ x. branches_read x (plain_stmts (map plain_stmt l.branches))) x;
  writes : (x : ℕ) → gained l.inside l.writes (λ x. branches_assign x (plain_stmts (map plain_stmt (drop l.branch-index l.branches)))) x ≡ gained l.fn.inside l.fn.writes (λ x. branches_assign x (plain_stmts (map plain_stmt l.branches))) x;
}
