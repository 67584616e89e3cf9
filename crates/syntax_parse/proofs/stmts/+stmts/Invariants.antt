use Rattle.std.proofs.Common.{◌+◌, ◌*◌, length}
use Rattle.syntax_exprs.specs.Progress.{Keeps}
use Rattle.syntax_grammar.specs.Taking.{Many}
use Rattle.syntax_grammar.specs.Reading.{DerivesStmtTree}
use Rattle.syntax_parse.proofs.parts.StmtParts.{Onward}
use Rattle.syntax_parse.proofs.stmts.+stmts.Given as goal

abbrev pub decreases-body : goal.decreases-body
decreases-body l = 6 * length l.cursor.now.rest.now + 5

abbrev pub decreases-stmts : goal.decreases-stmts
decreases-stmts l = 6 * length l.cursor.now.rest.now + 4

abbrev pub decreases-stmt : goal.decreases-stmt
decreases-stmt l = 6 * length l.cursor.now.rest.now + 3

abbrev pub decreases-begun : goal.decreases-begun
decreases-begun l = 6 * length l.cursor.now.rest.now + 2

abbrev pub decreases-braced : goal.decreases-braced
decreases-braced l = 6 * length l.cursor.now.rest.now + 1

abbrev pub decreases-block : goal.decreases-block
decreases-block l = 6 * length l.cursor.now.rest.now

abbrev pub decreases-choice : goal.decreases-choice
decreases-choice l = 6 * length l.cursor.now.rest.now

abbrev pub decreases-while_loop : goal.decreases-while_loop
decreases-while_loop l = 6 * length l.cursor.now.rest.now

abbrev pub decreases-cobegin : goal.decreases-cobegin
decreases-cobegin l = 6 * length l.cursor.now.rest.now

abbrev pub decreases-atomic : goal.decreases-atomic
decreases-atomic l = 6 * length l.cursor.now.rest.now

abbrev pub decreases-foreach : goal.decreases-foreach
decreases-foreach l = 6 * length l.cursor.now.rest.now

abbrev pub decreases-foreach_parts : goal.decreases-foreach_parts
decreases-foreach_parts l = 6 * length l.cursor.now.rest.now

abbrev pub invariant-stmts-loop-alloc : goal.invariant-stmts-loop-alloc
invariant-stmts-loop-alloc l = record {
  moves : Keeps l.fn.cursor l.cursor;
  derives : Many DerivesStmtTree l.fn.cursor.rest.now l.cursor.rest.now l.all;
  onward : Onward l.fn.cursor l.cursor;
}

abbrev pub decreases-stmts-loop-alloc : goal.decreases-stmts-loop-alloc
decreases-stmts-loop-alloc l = length l.cursor.rest.now
