use Rattle.std.proofs.Common.{◌≡◌, ◌+◌, ◌*◌, max, map, drop}
use Rattle.std.specs.Option.{option_map_or}
use Rattle.lang_typed.specs.declared.stmt.Stmt.{size-Stmt}
use Rattle.lang_typed.specs.Plain.{plain_stmt, stmts_of}
use Rattle.code_scheme.specs.Scheme.{stmts_piece}
use Rattle.code_compile.specs.Emitted.{emitted_of, after}
use Rattle.code_compile.proofs.stmts.+stmts.Given as goal

-- the depth of what is left, and which of these functions calls which with as much
abbrev pub decreases-stmt : goal.decreases-stmt
decreases-stmt l = 3 * size-Stmt l.s.now

abbrev pub decreases-stmts : goal.decreases-stmts
decreases-stmts l = 3 * goal.size-stmts l + 1

abbrev pub decreases-choice : goal.decreases-choice
decreases-choice l = 3 * max (size-Stmt l.then.now) (option_map_or (λ part. size-Stmt part.now) l.other 0) + 1

abbrev pub decreases-while_loop : goal.decreases-while_loop
decreases-while_loop l = 3 * size-Stmt l.body.now + 1

abbrev pub decreases-atomic : goal.decreases-atomic
decreases-atomic l = 3 * goal.size-atomic l + 2

abbrev pub invariant-stmts-loop-s : goal.invariant-stmts-loop-s
invariant-stmts-loop-s l =
    after (emitted_of l.out) (λ k p. stmts_piece k p (stmts_of (map plain_stmt (drop l.s-index l.s-items))))
    ≡ after (emitted_of l.fn.out) (λ k p. stmts_piece k p (stmts_of (map plain_stmt l.s-items)))
