-- Whether a program uses nd: whether its text holds a `cobegin_nd` or a `foreach_nd`.
use Rattle.std.specs.Prelude.{Bool, false, ◌||◌, map}
use Rattle.std.specs.List.{list_any}
use Rattle.syntax_tree.specs.declared.class.Member.{Member}
use Rattle.syntax_tree.specs.declared.class.Member.TheVariants as member
use Rattle.syntax_tree.specs.declared.class.Program.{Program}
use Rattle.syntax_tree.specs.Plain.{PlainStmt, statement, StmtForm, block, declare, assign_local, assign_field, assign_element, perform, choice, choice_else, while_loop, return_nothing, return_value, print, print_text, cobegin, foreach, foreach_parts, atomic, local_regions, PlainStmts, no_stmts, more_stmts, plain_stmt, plain_stmts}

abbrev mutual
  pub holds_nd : PlainStmt → Bool
  holds_nd (statement place form) = form_holds_nd form

  pub form_holds_nd : StmtForm → Bool
  form_holds_nd (block all) = some_holds_nd all
  form_holds_nd (declare is_final ty name value) = false
  form_holds_nd (assign_local target value) = false
  form_holds_nd (assign_field target value) = false
  form_holds_nd (assign_element target value) = false
  form_holds_nd (perform performed) = false
  form_holds_nd (choice test then_part) = holds_nd then_part
  form_holds_nd (choice_else test then_part else_part) = holds_nd then_part || holds_nd else_part
  form_holds_nd (while_loop test body) = holds_nd body
  form_holds_nd return_nothing = false
  form_holds_nd (return_value value) = false
  form_holds_nd (print value) = false
  form_holds_nd (print_text text) = false
  form_holds_nd (cobegin nd branches) = nd || some_holds_nd branches
  form_holds_nd (foreach nd var start count body) = nd || holds_nd body
  form_holds_nd (foreach_parts view var array count body) = holds_nd body
  form_holds_nd (atomic all) = some_holds_nd all
  form_holds_nd (local_regions names) = false

  pub some_holds_nd : PlainStmts → Bool
  some_holds_nd no_stmts = false
  some_holds_nd (more_stmts s ss) = holds_nd s || some_holds_nd ss

abbrev pub member_holds_nd : Member → Bool
member_holds_nd (member.Regions is_atomic names) = false
member_holds_nd (member.Field declared) = false
member_holds_nd (member.Method method) = some_holds_nd (plain_stmts (map plain_stmt method.body))

-- a program uses nd where its text holds a `cobegin_nd` or a `foreach_nd`
abbrev pub program_uses_nd : Program → Bool
program_uses_nd program = list_any (λ class. list_any member_holds_nd class.members) program.classes
