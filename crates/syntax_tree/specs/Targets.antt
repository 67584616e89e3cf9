-- What the targets of assignments and the expressions of expression statements are.
use Rattle.syntax_tree.specs.Plain.{PlainExpr, expression, field, element, call, create, PlainStmt, statement, StmtForm, block, declare, assign_local, assign_field, assign_element, perform, choice, choice_else, while_loop, return_nothing, return_value, print, print_text, cobegin, foreach, foreach_parts, atomic, local_regions, PlainStmts, no_stmts, more_stmts}

abbrev pub IsField : PlainExpr → Type 0
IsField (expression place (field of name)) = Unit {0}
IsField _ = ⊥

abbrev pub IsElement : PlainExpr → Type 0
IsElement (expression place (element array index)) = Unit {0}
IsElement _ = ⊥

abbrev pub IsPerformed : PlainExpr → Type 0
IsPerformed (expression place (call of regions name actuals)) = Unit {0}
IsPerformed (expression place (create class regions actuals)) = Unit {0}
IsPerformed _ = ⊥

-- every target in a statement is of its assignment's kind, and every expression statement is a call or a creation
abbrev mutual
  pub HasTargets : PlainStmt → Type 0
  HasTargets (statement place form) = FormHasTargets form

  pub FormHasTargets : StmtForm → Type 0
  FormHasTargets (block all) = AllHaveTargets all
  FormHasTargets (declare is_final ty name value) = Unit {0}
  FormHasTargets (assign_local target value) = Unit {0}
  FormHasTargets (assign_field target value) = IsField target
  FormHasTargets (assign_element target value) = IsElement target
  FormHasTargets (perform performed) = IsPerformed performed
  FormHasTargets (choice test then_part) = HasTargets then_part
  FormHasTargets (choice_else test then_part else_part) = HasTargets then_part × HasTargets else_part
  FormHasTargets (while_loop test body) = HasTargets body
  FormHasTargets return_nothing = Unit {0}
  FormHasTargets (return_value value) = Unit {0}
  FormHasTargets (print value) = Unit {0}
  FormHasTargets (print_text text) = Unit {0}
  FormHasTargets (cobegin nd branches) = AllHaveTargets branches
  FormHasTargets (foreach nd var start count body) = HasTargets body
  FormHasTargets (foreach_parts view var array count body) = HasTargets body
  FormHasTargets (atomic all) = AllHaveTargets all
  FormHasTargets (local_regions names) = Unit {0}

  pub AllHaveTargets : PlainStmts → Type 0
  AllHaveTargets no_stmts = Unit {0}
  AllHaveTargets (more_stmts s ss) = HasTargets s × AllHaveTargets ss
