use Rattle.std.proofs.Common.{◌+◌, ◌*◌, max}
use denote.Param.Weighed.{most}
use Rattle.lang_typed.specs.declared.stmt.Stmt.{size-Stmt}
use Rattle.body_infer.proofs.callers.+statement_calls.Given as goal

-- the depth of what is left, and which of these functions calls which with as much
abbrev pub decreases-calls_of_statement : goal.decreases-calls_of_statement
decreases-calls_of_statement l = 3 * size-Stmt l.s.now

abbrev pub decreases-calls_of_all : goal.decreases-calls_of_all
decreases-calls_of_all l = 3 * most size-Stmt l.all.now + 1

abbrev pub decreases-calls_of_branches : goal.decreases-calls_of_branches
decreases-calls_of_branches l = 3 * goal.size-calls_of_branches l + 1

abbrev pub decreases-calls_of_tested : goal.decreases-calls_of_tested
decreases-calls_of_tested l = 3 * size-Stmt l.body.now + 1

abbrev pub decreases-calls_of_choice : goal.decreases-calls_of_choice
decreases-calls_of_choice l = 3 * max (size-Stmt l.then.now) (size-Stmt l.other.now) + 2

abbrev pub decreases-calls_of_foreach : goal.decreases-calls_of_foreach
decreases-calls_of_foreach l = 3 * size-Stmt l.body.now + 1

abbrev pub decreases-calls_of_foreach_parts : goal.decreases-calls_of_foreach_parts
decreases-calls_of_foreach_parts l = 3 * size-Stmt l.body.now + 1
