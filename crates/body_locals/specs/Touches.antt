-- The locals declared outside of a statement that it reads and assigns, told name by name: no two locals in scope at
-- one place share a name.
use Rattle.std.specs.Prelude.{ℕ, Bool, true, false, not, ◌&&◌, ◌||◌, ◌==◌, List, [], ◌∷◌, Option, Some, None}
use Rattle.std.specs.List.{list_any}
use Rattle.syntax_tree.specs.declared.region.BaseTree.{BaseTree}
use Rattle.syntax_tree.specs.declared.region.BaseTree.TheVariants as base
use Rattle.syntax_tree.specs.declared.region.ElemTree.{ElemTree}
use Rattle.syntax_tree.specs.declared.region.ElemTree.TheVariants as elem
use Rattle.syntax_tree.specs.declared.region.Named.{Named}
use Rattle.syntax_tree.specs.declared.region.RplTree.{RplTree}
use Rattle.syntax_tree.specs.declared.region.Suffix.{Suffix}
use Rattle.syntax_tree.specs.declared.region.TypeTree.{TypeTree}
use Rattle.syntax_tree.specs.Plain.{PlainExpr, expression, ExprForm, int, boolean, null, this, local, field, element, call, create, create_array, unary, binary, PlainExprs, no_exprs, more_exprs, PlainStmt, statement, StmtForm, block, declare, assign_local, assign_field, assign_element, perform, choice, choice_else, while_loop, return_nothing, return_value, print, print_text, cobegin, foreach, foreach_parts, atomic, local_regions, PlainStmts, no_stmts, more_stmts}

-- an element of a region path is an index that has this name
abbrev pub elem_reads : ℕ → ElemTree → Bool
elem_reads x (elem.Index named) = named.name == x
elem_reads x _ = false

abbrev pub path_reads : ℕ → RplTree → Bool
path_reads x path = list_any (elem_reads x) path.elems

abbrev pub optional_path_reads : ℕ → Option RplTree → Bool
optional_path_reads x None = false
optional_path_reads x (Some path) = path_reads x path

-- the name is the index name of an array type
abbrev pub is_index_name : ℕ → Option Named → Bool
is_index_name x None = false
is_index_name x (Some named) = named.name == x

-- the name is an index name of one of the suffixes
abbrev pub is_bound : ℕ → List Suffix → Bool
is_bound x suffixes = list_any (λ suffix. is_index_name x suffix.index) suffixes

-- the name is meant outside of an array type with these suffixes, and after them one with that index name
abbrev pub is_outer : ℕ → List Suffix → Option Named → Bool
is_outer x suffixes own = not (is_index_name x own) && not (is_bound x suffixes)

-- an index name is meant in the path of its own suffix, in those of the suffixes before it and in the base
abbrev pub suffixes_read : ℕ → List Suffix → Option Named → Bool
suffixes_read x [] own = false
suffixes_read x (suffix ∷ rest) own =
    (is_outer x (suffix ∷ rest) own && optional_path_reads x suffix.rpl) || suffixes_read x rest own

abbrev pub base_reads : ℕ → BaseTree → Bool
base_reads x base.Int = false
base_reads x base.Bool = false
base_reads x (base.Class named args) = list_any (path_reads x) args

abbrev pub written_reads : ℕ → BaseTree → List Suffix → Option Named → Bool
written_reads x base suffixes own = (is_outer x suffixes own && base_reads x base) || suffixes_read x suffixes own

-- the same for an array that is made, with its own path
unfoldable pub made_reads : ℕ → BaseTree → List Suffix → Option RplTree → Option Named → Bool
made_reads x base suffixes rpl index = written_reads x base suffixes index || (is_outer x [] index && optional_path_reads x rpl)

abbrev pub type_reads : ℕ → TypeTree → Bool
type_reads x ty = written_reads x ty.base ty.suffixes None

-- an expression reads the local
abbrev mutual
  pub expr_reads : ℕ → PlainExpr → Bool
  expr_reads x (expression place form) = form_reads x form

  pub form_reads : ℕ → ExprForm → Bool
  form_reads x (int n) = false
  form_reads x (boolean b) = false
  form_reads x null = false
  form_reads x this = false
  form_reads x (local name) = name == x
  form_reads x (field of name) = expr_reads x of
  form_reads x (element array index) = expr_reads x array || expr_reads x index
  form_reads x (call of regions name actuals) = (expr_reads x of || list_any (path_reads x) regions) || exprs_read x actuals
  form_reads x (create class regions actuals) = list_any (path_reads x) regions || exprs_read x actuals
  form_reads x (create_array base suffixes len rpl index) = made_reads x base suffixes rpl index || expr_reads x len
  form_reads x (unary op arg) = expr_reads x arg
  form_reads x (binary op left right) = expr_reads x left || expr_reads x right

  pub exprs_read : ℕ → PlainExprs → Bool
  exprs_read x no_exprs = false
  exprs_read x (more_exprs e es) = expr_reads x e || exprs_read x es

-- a declaration of the name, which is in scope in the statements after it
abbrev pub declares_form : ℕ → StmtForm → Bool
declares_form x (declare is_final ty name value) = name == x
declares_form x _ = false

abbrev pub declares : ℕ → PlainStmt → Bool
declares x (statement place form) = declares_form x form

-- a `foreach` or a `foreach_parts`
abbrev pub form_is_parallel_loop : StmtForm → Bool
form_is_parallel_loop (foreach nd var start count body) = true
form_is_parallel_loop (foreach_parts view var array count body) = true
form_is_parallel_loop form = false

abbrev pub is_parallel_loop : PlainStmt → Bool
is_parallel_loop (statement place form) = form_is_parallel_loop form

-- a statement that holds no other
abbrev pub form_is_single : StmtForm → Bool
form_is_single (block all) = false
form_is_single (choice test then_part) = false
form_is_single (choice_else test then_part else_part) = false
form_is_single (while_loop test body) = false
form_is_single (cobegin nd branches) = false
form_is_single (foreach nd var start count body) = false
form_is_single (foreach_parts view var array count body) = false
form_is_single (atomic all) = false
form_is_single form = true

abbrev pub is_single : PlainStmt → Bool
is_single (statement place form) = form_is_single form

-- a statement reads the local of that name declared outside of it
abbrev mutual
  pub stmt_reads : ℕ → PlainStmt → Bool
  stmt_reads x (statement place form) = stmt_form_reads x form

  pub stmt_form_reads : ℕ → StmtForm → Bool
  stmt_form_reads x (block all) = stmts_read x all
  stmt_form_reads x (declare is_final ty name value) = type_reads x ty || expr_reads x value
  stmt_form_reads x (assign_local target value) = expr_reads x value
  stmt_form_reads x (assign_field target value) = expr_reads x target || expr_reads x value
  stmt_form_reads x (assign_element target value) = expr_reads x target || expr_reads x value
  stmt_form_reads x (perform performed) = expr_reads x performed
  stmt_form_reads x (choice test then_part) = expr_reads x test || stmt_reads x then_part
  stmt_form_reads x (choice_else test then_part else_part) = (expr_reads x test || stmt_reads x then_part) || stmt_reads x else_part
  stmt_form_reads x (while_loop test body) = expr_reads x test || stmt_reads x body
  stmt_form_reads x return_nothing = false
  stmt_form_reads x (return_value value) = expr_reads x value
  stmt_form_reads x (print value) = expr_reads x value
  stmt_form_reads x (print_text text) = false
  stmt_form_reads x (cobegin nd branches) = branches_read x branches
  stmt_form_reads x (foreach nd var start count body) =
      (expr_reads x start || expr_reads x count) || (not (var.name == x) && stmt_reads x body)
  stmt_form_reads x (foreach_parts view var array count body) =
      (expr_reads x array || expr_reads x count) || (not (view.name == x) && (not (var.name == x) && stmt_reads x body))
  stmt_form_reads x (atomic all) = stmts_read x all
  stmt_form_reads x (local_regions names) = false

  pub stmts_read : ℕ → PlainStmts → Bool
  stmts_read x no_stmts = false
  stmts_read x (more_stmts s ss) = stmt_reads x s || (not (declares x s) && stmts_read x ss)

  -- each branch is a block of its own
  pub branches_read : ℕ → PlainStmts → Bool
  branches_read x no_stmts = false
  branches_read x (more_stmts s ss) = stmt_reads x s || branches_read x ss

-- a statement assigns the local of that name declared outside of it
abbrev mutual
  pub stmt_assigns : ℕ → PlainStmt → Bool
  stmt_assigns x (statement place form) = stmt_form_assigns x form

  pub stmt_form_assigns : ℕ → StmtForm → Bool
  stmt_form_assigns x (block all) = stmts_assign x all
  stmt_form_assigns x (declare is_final ty name value) = false
  stmt_form_assigns x (assign_local target value) = target.name == x
  stmt_form_assigns x (assign_field target value) = false
  stmt_form_assigns x (assign_element target value) = false
  stmt_form_assigns x (perform performed) = false
  stmt_form_assigns x (choice test then_part) = stmt_assigns x then_part
  stmt_form_assigns x (choice_else test then_part else_part) = stmt_assigns x then_part || stmt_assigns x else_part
  stmt_form_assigns x (while_loop test body) = stmt_assigns x body
  stmt_form_assigns x return_nothing = false
  stmt_form_assigns x (return_value value) = false
  stmt_form_assigns x (print value) = false
  stmt_form_assigns x (print_text text) = false
  stmt_form_assigns x (cobegin nd branches) = branches_assign x branches
  stmt_form_assigns x (foreach nd var start count body) = not (var.name == x) && stmt_assigns x body
  stmt_form_assigns x (foreach_parts view var array count body) = not (view.name == x) && (not (var.name == x) && stmt_assigns x body)
  stmt_form_assigns x (atomic all) = stmts_assign x all
  stmt_form_assigns x (local_regions names) = false

  pub stmts_assign : ℕ → PlainStmts → Bool
  stmts_assign x no_stmts = false
  stmts_assign x (more_stmts s ss) = stmt_assigns x s || (not (declares x s) && stmts_assign x ss)

  pub branches_assign : ℕ → PlainStmts → Bool
  branches_assign x no_stmts = false
  branches_assign x (more_stmts s ss) = stmt_assigns x s || branches_assign x ss
