-- Which methods and constructors a body calls by itself, by the classes of receivers alone.
use Rattle.std.specs.Prelude.{◌≡◌, ℕ, ◌+◌, List, [], ◌∷◌, ◌++◌, map, length, fold, unwrap_or, Option, None, Some}
use Rattle.std.specs.Option.{option_map_or}
use Rattle.decl_headers.specs.declared.header.Headers.{Headers}
use Rattle.syntax_tree.specs.declared.class.Formal.{Formal}
use Rattle.syntax_tree.specs.declared.class.Method.{Method}
use Rattle.syntax_tree.specs.declared.region.TypeTree.{TypeTree}
use Rattle.syntax_tree.specs.Plain.{PlainExpr, expression, ExprForm, int, boolean, null, this, local, field, element, call, create, create_array, unary, binary, PlainExprs, no_exprs, more_exprs, PlainStmt, statement, StmtForm, block, declare, assign_local, assign_field, assign_element, perform, choice, choice_else, while_loop, return_nothing, return_value, print, print_text, cobegin, foreach, foreach_parts, atomic, local_regions, PlainStmts, no_stmts, more_stmts, plain_stmt, plain_stmts}
use Rattle.decl_resolve.specs.Names.{Names}
use Rattle.decl_resolve.specs.Scoped.{no_names, names_in, values_in, with_name, value_in}
use Rattle.decl_table.specs.declared.rows.MethodRow.{MethodRow}
use Rattle.decl_reach.specs.declared.shape.Shape.{Shape}
use Rattle.decl_table.specs.declared.table.Table.{Table}
use Rattle.decl_reach.specs.Shapes.{no_class, object_shape, written_shape, tree_shape, element_of, field_shape, called_row, call_shape, run_row, create_shape}
use Rattle.decl_table.specs.Table.{headers_of}

-- the shape of the value of an expression in a class, where these locals and formals are in scope
abbrev mutual
  pub shape_of : Table → ℕ → Names Shape → PlainExpr → Shape
  shape_of table class locals (expression place form) = form_shape table class locals form

  pub form_shape : Table → ℕ → Names Shape → ExprForm → Shape
  form_shape table class locals (int n) = no_class
  form_shape table class locals (boolean b) = no_class
  form_shape table class locals null = no_class
  form_shape table class locals this = object_shape class
  form_shape table class locals (local name) = unwrap_or (value_in locals name) no_class
  form_shape table class locals (field of name) = field_shape table (shape_of table class locals of) name
  form_shape table class locals (element array index) = element_of (shape_of table class locals array)
  form_shape table class locals (call of regions name actuals) = call_shape table (shape_of table class locals of) name
  form_shape table class locals (create named regions actuals) = create_shape table named.name
  form_shape table class locals (create_array base suffixes len rpl index) = written_shape (headers_of table) base (length suffixes + 1)
  form_shape table class locals (unary op arg) = no_class
  form_shape table class locals (binary op left right) = no_class

-- the number of a method or a constructor, where there is one
abbrev pub id_of : Option MethodRow → List ℕ
id_of row = option_map_or (λ found. found.id ∷ []) row []

-- the calls and creations of an expression, in the order in which they happen
abbrev mutual
  pub calls_of : Table → ℕ → Names Shape → PlainExpr → List ℕ
  calls_of table class locals (expression place form) = form_calls table class locals form

  pub form_calls : Table → ℕ → Names Shape → ExprForm → List ℕ
  form_calls table class locals (int n) = []
  form_calls table class locals (boolean b) = []
  form_calls table class locals null = []
  form_calls table class locals this = []
  form_calls table class locals (local name) = []
  form_calls table class locals (field of name) = calls_of table class locals of
  form_calls table class locals (element array index) = calls_of table class locals array ++ calls_of table class locals index
  form_calls table class locals (call of regions name actuals) =
      calls_of table class locals of ++ all_calls table class locals actuals ++ id_of (called_row table (shape_of table class locals of) name)
  form_calls table class locals (create named regions actuals) = all_calls table class locals actuals ++ id_of (run_row table named.name)
  form_calls table class locals (create_array base suffixes len rpl index) = calls_of table class locals len
  form_calls table class locals (unary op arg) = calls_of table class locals arg
  form_calls table class locals (binary op left right) = calls_of table class locals left ++ calls_of table class locals right

  pub all_calls : Table → ℕ → Names Shape → PlainExprs → List ℕ
  all_calls table class locals no_exprs = []
  all_calls table class locals (more_exprs e es) = calls_of table class locals e ++ all_calls table class locals es

-- the same of a call, a creation or an array creation; any other expression is none
abbrev pub invocation_shape : Table → ℕ → Names Shape → PlainExpr → Shape
invocation_shape table class locals (expression place (call of regions name actuals)) = call_shape table (shape_of table class locals of) name
invocation_shape table class locals (expression place (create named regions actuals)) = create_shape table named.name
invocation_shape table class locals (expression place (create_array base suffixes len rpl index)) = written_shape (headers_of table) base (length suffixes + 1)
invocation_shape table class locals e = no_class

abbrev pub invocation_calls : Table → ℕ → Names Shape → PlainExpr → List ℕ
invocation_calls table class locals (expression place (call of regions name actuals)) =
    calls_of table class locals of ++ all_calls table class locals actuals ++ id_of (called_row table (shape_of table class locals of) name)
invocation_calls table class locals (expression place (create named regions actuals)) = all_calls table class locals actuals ++ id_of (run_row table named.name)
invocation_calls table class locals (expression place (create_array base suffixes len rpl index)) = calls_of table class locals len
invocation_calls table class locals e = []

-- each name has its value
abbrev pub IsPaired : Names Shape → Type 0
IsPaired locals = length (names_in locals) ≡ length (values_in locals)

-- the local that a statement declares, with its type
abbrev pub declared_by : PlainStmt → Option (ℕ × TypeTree)
declared_by (statement place (declare is_final ty name value)) = Some (name, ty)
declared_by s = None

-- the locals after a statement
abbrev pub following : Headers → Names Shape → PlainStmt → Names Shape
following headers locals s = option_map_or (λ local. with_name locals local.0 (tree_shape headers local.1)) (declared_by s) locals

-- the calls and creations of a statement
abbrev mutual
  pub stmt_calls : Table → ℕ → Names Shape → PlainStmt → List ℕ
  stmt_calls table class locals (statement place form) = stmt_form_calls table class locals form

  pub stmt_form_calls : Table → ℕ → Names Shape → StmtForm → List ℕ
  stmt_form_calls table class locals (block all) = block_calls table class locals all
  stmt_form_calls table class locals (declare is_final ty name value) = calls_of table class locals value
  stmt_form_calls table class locals (assign_local target value) = calls_of table class locals value
  stmt_form_calls table class locals (assign_field target value) = calls_of table class locals target ++ calls_of table class locals value
  stmt_form_calls table class locals (assign_element target value) = calls_of table class locals target ++ calls_of table class locals value
  stmt_form_calls table class locals (perform performed) = calls_of table class locals performed
  stmt_form_calls table class locals (choice test then_part) = calls_of table class locals test ++ stmt_calls table class locals then_part
  stmt_form_calls table class locals (choice_else test then_part else_part) =
      calls_of table class locals test ++ stmt_calls table class locals then_part ++ stmt_calls table class locals else_part
  stmt_form_calls table class locals (while_loop test body) = calls_of table class locals test ++ stmt_calls table class locals body
  stmt_form_calls table class locals return_nothing = []
  stmt_form_calls table class locals (return_value value) = calls_of table class locals value
  stmt_form_calls table class locals (print value) = calls_of table class locals value
  stmt_form_calls table class locals (print_text text) = []
  stmt_form_calls table class locals (cobegin nd branches) = branch_calls table class locals branches
  stmt_form_calls table class locals (foreach nd var start count body) =
      calls_of table class locals start ++ calls_of table class locals count ++ stmt_calls table class (with_name locals var.name no_class) body
  stmt_form_calls table class locals (foreach_parts view var array count body) =
      calls_of table class locals array ++ calls_of table class locals count
      ++ stmt_calls table class (with_name (with_name locals view.name (shape_of table class locals array)) var.name no_class) body
  stmt_form_calls table class locals (atomic all) = block_calls table class locals all
  stmt_form_calls table class locals (local_regions names) = []

  -- a block: what a statement declares is in scope behind it
  pub block_calls : Table → ℕ → Names Shape → PlainStmts → List ℕ
  block_calls table class locals no_stmts = []
  block_calls table class locals (more_stmts s ss) = stmt_calls table class locals s ++ block_calls table class (following (headers_of table) locals s) ss

  -- branches: each is a block of its own
  pub branch_calls : Table → ℕ → Names Shape → PlainStmts → List ℕ
  branch_calls table class locals no_stmts = []
  branch_calls table class locals (more_stmts s ss) = stmt_calls table class locals s ++ branch_calls table class locals ss

-- the same of a foreach or a `foreach_parts`; any other statement is none
abbrev pub foreach_calls : Table → ℕ → Names Shape → PlainStmt → List ℕ
foreach_calls table class locals (statement place (foreach nd var start count body)) =
    calls_of table class locals start ++ calls_of table class locals count ++ stmt_calls table class (with_name locals var.name no_class) body
foreach_calls table class locals (statement place (foreach_parts view var array count body)) =
    calls_of table class locals array ++ calls_of table class locals count
    ++ stmt_calls table class (with_name (with_name locals view.name (shape_of table class locals array)) var.name no_class) body
foreach_calls table class locals s = []

-- the same of a statement without statements in it
abbrev pub simple_calls : Table → ℕ → Names Shape → PlainStmt → List ℕ
simple_calls table class locals (statement place (declare is_final ty name value)) = calls_of table class locals value
simple_calls table class locals (statement place (assign_local target value)) = calls_of table class locals value
simple_calls table class locals (statement place (assign_field target value)) = calls_of table class locals target ++ calls_of table class locals value
simple_calls table class locals (statement place (assign_element target value)) = calls_of table class locals target ++ calls_of table class locals value
simple_calls table class locals (statement place (perform performed)) = calls_of table class locals performed
simple_calls table class locals (statement place (return_value value)) = calls_of table class locals value
simple_calls table class locals (statement place (print value)) = calls_of table class locals value
simple_calls table class locals s = []

-- the formals of a method
abbrev pub formal_shapes : Headers → List Formal → Names Shape
formal_shapes headers formals = fold (λ locals formal. with_name locals formal.name (tree_shape headers formal.ty)) no_names formals

-- the calls and creations of the body of a method of a class
abbrev pub body_calls : Table → ℕ → Method → List ℕ
body_calls table class method =
    block_calls table class (formal_shapes (headers_of table) method.formals) (plain_stmts (map plain_stmt method.body))
