use Rattle.std.proofs.Common.{◌≡◌, ◌+◌, ◌*◌, ◌&&◌, max, map, drop}
use Rattle.std.specs.Option.{option_map_or}
use Rattle.syntax_tree.specs.declared.stmt.Stmt.{size-Stmt}
use Rattle.syntax_tree.specs.Plain.{plain_stmt, plain_stmts}
use Rattle.lang_typed.specs.Plain.{plain_stmt as typed_stmt}
use Rattle.body_check.specs.Checking.{plain_branch}
use Rattle.body_check.specs.Completes.{all_complete}
use Rattle.body_check.specs.Around.{inside}
use Rattle.body_check.specs.Methods.{atomic_params}
use Rattle.body_check.specs.Walks.{walk_of}
use Rattle.body_exprs.specs.Env.{bare}
use Rattle.body_check.proofs.Forks.{ForkSoFar, TouchedSoFar}
use Rattle.body_check.proofs.Orders.{OrderSoFar}
use Rattle.body_check.proofs.+statements.Given as goal

-- the depth of what is left, and which of these functions calls which with as much
abbrev pub decreases-statements::statement : goal.decreases-statements::statement
decreases-statements::statement l = 4 * goal.size-statements::statement l

abbrev pub decreases-statements::scoped : goal.decreases-statements::scoped
decreases-statements::scoped l = 4 * goal.size-statements::scoped l + 1

abbrev pub decreases-statements::statements : goal.decreases-statements::statements
decreases-statements::statements l = 4 * goal.size-statements::statements l + 1

abbrev pub decreases-statements::block : goal.decreases-statements::block
decreases-statements::block l = 4 * goal.size-statements::block l + 2

abbrev pub decreases-statements::nested : goal.decreases-statements::nested
decreases-statements::nested l = 4 * goal.size-statements::nested l + 3

abbrev pub decreases-statements::branching : goal.decreases-statements::branching
decreases-statements::branching l = 4 * max (size-Stmt l.then.now) (option_map_or (λ part. size-Stmt part.now) l.other 0) + 3

abbrev pub decreases-statements::repeat : goal.decreases-statements::repeat
decreases-statements::repeat l = 4 * size-Stmt l.iteration.now + 3

abbrev pub decreases-constructs::foreach : goal.decreases-constructs::foreach
decreases-constructs::foreach l = 4 * size-Stmt l.iteration.now + 2

abbrev pub decreases-parts::foreach_parts : goal.decreases-parts::foreach_parts
decreases-parts::foreach_parts l = 4 * size-Stmt l.iteration.now + 2

abbrev pub decreases-constructs::cobegin : goal.decreases-constructs::cobegin
decreases-constructs::cobegin l = 4 * goal.size-constructs::cobegin l + 2

abbrev pub decreases-constructs::atomic : goal.decreases-constructs::atomic
decreases-constructs::atomic l = 4 * goal.size-constructs::atomic l + 3

abbrev pub invariant-statements::statements-loop-stmt : goal.invariant-statements::statements-loop-stmt
invariant-statements::statements-loop-stmt l = record {
  completes : (l.completes && all_complete (plain_stmts (map plain_stmt (drop l.stmt-index l.stmts)))) ≡ all_complete (plain_stmts (map plain_stmt l.stmts));
  home : bare l.env ≡ bare l.fn.env;
  goes_on : OrderSoFar (atomic_params l.fn.env) l.around l.stmts (walk_of l.fn.env l.fn.out) l.stmt-index l.completes (map typed_stmt l.made)
      (walk_of l.env l.out);
}

abbrev pub invariant-constructs::cobegin-loop-branch : goal.invariant-constructs::cobegin-loop-branch
invariant-constructs::cobegin-loop-branch l = record {
  forks : ForkSoFar (atomic_params l.fn.env) (inside l.around) l.nd l.branches (walk_of l.fn.env l.fn.out) l.branch-index l.passed.effects
      (map plain_branch l.passed.made) (walk_of l.env l.out);
  touched : TouchedSoFar l.branches l.branch-index l.passed.locals;
  home : bare l.env ≡ bare l.fn.env;
}
