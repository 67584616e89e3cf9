-- Which statements complete.
use Rattle.std.specs.Prelude.{Bool, true, false, ◌&&◌, ◌||◌}
use Rattle.syntax_tree.specs.Plain.{PlainStmt, statement, StmtForm, block, declare, assign_local, assign_field, assign_element, perform, choice, choice_else, while_loop, return_nothing, return_value, print, print_text, cobegin, foreach, foreach_parts, atomic, local_regions, PlainStmts, no_stmts, more_stmts}

-- a statement completes unless it is a `return`, a block with a statement that doesn't complete, or an `if` with an
-- `else` neither part of which completes
abbrev mutual
  pub completes : PlainStmt → Bool
  completes (statement place form) = form_completes form

  pub form_completes : StmtForm → Bool
  form_completes (block all) = all_complete all
  form_completes (declare is_final ty name value) = true
  form_completes (assign_local target value) = true
  form_completes (assign_field target value) = true
  form_completes (assign_element target value) = true
  form_completes (perform performed) = true
  form_completes (choice test then_part) = true
  form_completes (choice_else test then_part else_part) = completes then_part || completes else_part
  form_completes (while_loop test body) = true
  form_completes return_nothing = false
  form_completes (return_value value) = false
  form_completes (print value) = true
  form_completes (print_text text) = true
  form_completes (cobegin nd branches) = true
  form_completes (foreach nd var start count body) = true
  form_completes (foreach_parts view var array count body) = true
  form_completes (atomic all) = true
  form_completes (local_regions names) = true

  pub all_complete : PlainStmts → Bool
  all_complete no_stmts = true
  all_complete (more_stmts s ss) = completes s && all_complete ss
