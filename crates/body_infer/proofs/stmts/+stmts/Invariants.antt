use Rattle.std.proofs.Common.{◌≡◌, ◌≤◌, ◌+◌, ◌*◌, ◌++◌, max, length, map, drop, take}
use denote.Param.Weighed.{most}
use Rattle.lang_typed.specs.declared.stmt.Stmt.{size-Stmt}
use Rattle.lang_typed.specs.Plain.{plain_program, plain_stmt, stmts_of, branches_of}
use Rattle.body_infer.specs.Kept.{program_kept}
use Rattle.body_infer.specs.Doing.{effects_of_all, effects_of_branches}
use Rattle.body_infer.specs.Walked.{all_done, outside_all, plain_branch, scope_of}
use Rattle.body_infer.proofs.stmts.+stmts.Given as goal

-- the depth of what is left, and which of these functions calls which with as much
abbrev pub decreases-statement : goal.decreases-statement
decreases-statement l = 4 * size-Stmt l.s.now

abbrev pub decreases-block : goal.decreases-block
decreases-block l = 4 * most size-Stmt l.all.now + 1

abbrev pub decreases-scoped : goal.decreases-scoped
decreases-scoped l = 4 * size-Stmt l.s.now + 1

abbrev pub decreases-tested : goal.decreases-tested
decreases-tested l = 4 * size-Stmt l.body.now + 2

abbrev pub decreases-choice : goal.decreases-choice
decreases-choice l = 4 * max (size-Stmt l.then.now) (size-Stmt l.other.now) + 3

abbrev pub decreases-atomic : goal.decreases-atomic
decreases-atomic l = 4 * most size-Stmt l.body.now + 2

abbrev pub decreases-all_branches : goal.decreases-all_branches
decreases-all_branches l = 4 * goal.size-all_branches l

abbrev pub decreases-cobegin : goal.decreases-cobegin
decreases-cobegin l = 4 * goal.size-cobegin l + 1

abbrev pub decreases-iteration : goal.decreases-iteration
decreases-iteration l = 4 * size-Stmt l.body.now + 2

abbrev pub decreases-foreach : goal.decreases-foreach
decreases-foreach l = 4 * size-Stmt l.body.now + 3

abbrev pub decreases-foreach_parts : goal.decreases-foreach_parts
decreases-foreach_parts l = 4 * size-Stmt l.body.now + 3

abbrev pub invariant-block-loop-s : goal.invariant-block-loop-s
invariant-block-loop-s l =
    let P = program_kept l.walk.kept.now (plain_program l.walk.program.now) in
    record {
      long : l.outer ≤ length l.scope;
      scope : take l.outer l.scope ≡ l.initial.scope;
      done :
          all_done l.out ++ outside_all l.opened.variables l.opened.regions (effects_of_all P (scope_of l.scope) (stmts_of (map plain_stmt (drop l.s-index l.all))))
          ≡ all_done l.initial.out ++ effects_of_all P (scope_of l.initial.scope) (stmts_of (map plain_stmt l.all));
    }

abbrev pub invariant-all_branches-loop-branch : goal.invariant-all_branches-loop-branch
invariant-all_branches-loop-branch l =
    let P = program_kept l.walk.kept.now (plain_program l.walk.program.now) in
    record {
      scope : l.scope ≡ l.initial.scope;
      done :
          all_done l.out ++ effects_of_branches P (scope_of l.scope) (branches_of (map plain_branch (drop l.branch-index l.branches)))
          ≡ all_done l.initial.out ++ effects_of_branches P (scope_of l.initial.scope) (branches_of (map plain_branch l.branches));
    }
