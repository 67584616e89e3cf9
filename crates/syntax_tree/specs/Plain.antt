-- The tree of a program as plain data, over which the rules of the language are written, and the map from the
-- code's tree to it. A node keeps its place.
use Rattle.std.specs.Prelude.{ℕ, ℤ, List, [], ◌∷◌, Bool, Option, Some, None}
use Rattle.lang_base.specs.declared.op.UnaryOp.{UnaryOp}
use Rattle.lang_base.specs.declared.place.Place.{Place}
use Rattle.syntax_tree.specs.declared.region.Named.{Named}
use Rattle.syntax_tree.specs.declared.region.RplTree.{RplTree}
use Rattle.syntax_tree.specs.declared.region.TypeTree.{TypeTree}
use Rattle.syntax_tree.specs.declared.region.BaseTree.{BaseTree}
use Rattle.syntax_tree.specs.declared.region.Suffix.{Suffix}
use Rattle.syntax_tree.specs.declared.expr.InfixOp.{InfixOp}
use Rattle.syntax_tree.specs.declared.expr.Expr.{Expr, fold-Expr}
use Rattle.syntax_tree.specs.declared.expr.ExprKind.TheOpen.{ExprKind-F, Expr-F}
use Rattle.syntax_tree.specs.declared.stmt.Stmt.{Stmt, fold-Stmt}
use Rattle.syntax_tree.specs.declared.stmt.StmtKind.TheOpen.{StmtKind-F, Stmt-F}

mutual
  -- an expression: its place and its form
  pub data PlainExpr : Type 0 where
    expression : Place → ExprForm → PlainExpr

  pub data ExprForm : Type 0 where
    int : ℤ → ExprForm
    boolean : Bool → ExprForm
    null : ExprForm
    this : ExprForm
    local : ℕ → ExprForm
    field : PlainExpr → ℕ → ExprForm
    element : PlainExpr → PlainExpr → ExprForm
    call : PlainExpr → List RplTree → ℕ → PlainExprs → ExprForm
    create : Named → List RplTree → PlainExprs → ExprForm
    create_array : BaseTree → List Suffix → PlainExpr → Option RplTree → Option Named → ExprForm
    unary : UnaryOp → PlainExpr → ExprForm
    binary : InfixOp → PlainExpr → PlainExpr → ExprForm

  pub data PlainExprs : Type 0 where
    no_exprs : PlainExprs
    more_exprs : PlainExpr → PlainExprs → PlainExprs

mutual
  -- a statement: its place and its form
  pub data PlainStmt : Type 0 where
    statement : Place → StmtForm → PlainStmt

  pub data StmtForm : Type 0 where
    block : PlainStmts → StmtForm
    declare : Bool → TypeTree → ℕ → PlainExpr → StmtForm
    assign_local : Named → PlainExpr → StmtForm
    assign_field : PlainExpr → PlainExpr → StmtForm
    assign_element : PlainExpr → PlainExpr → StmtForm
    perform : PlainExpr → StmtForm
    choice : PlainExpr → PlainStmt → StmtForm
    choice_else : PlainExpr → PlainStmt → PlainStmt → StmtForm
    while_loop : PlainExpr → PlainStmt → StmtForm
    return_nothing : StmtForm
    return_value : PlainExpr → StmtForm
    print : PlainExpr → StmtForm
    print_text : List ℕ → StmtForm
    cobegin : Bool → PlainStmts → StmtForm
    foreach : Bool → Named → PlainExpr → PlainExpr → PlainStmt → StmtForm
    foreach_parts : Named → Named → PlainExpr → PlainExpr → PlainStmt → StmtForm
    atomic : PlainStmts → StmtForm
    local_regions : List Named → StmtForm

  pub data PlainStmts : Type 0 where
    no_stmts : PlainStmts
    more_stmts : PlainStmt → PlainStmts → PlainStmts

abbrev pub plain_exprs : List PlainExpr → PlainExprs
plain_exprs [] = no_exprs
plain_exprs (e ∷ es) = more_exprs e (plain_exprs es)

-- one level of an expression whose children are plain already
abbrev pub expr_form : ExprKind-F ExprForm PlainExpr → ExprForm
expr_form (ExprKind-F.Int n) = int n
expr_form (ExprKind-F.Bool b) = boolean b
expr_form ExprKind-F.Null = null
expr_form ExprKind-F.This = this
expr_form (ExprKind-F.Local name) = local name
expr_form (ExprKind-F.Field of name) = field of name
expr_form (ExprKind-F.Element array index) = element array index
expr_form (ExprKind-F.Call of regions name actuals) = call of regions name (plain_exprs actuals)
expr_form (ExprKind-F.New class regions actuals) = create class regions (plain_exprs actuals)
expr_form (ExprKind-F.NewArray base suffixes len rpl index) = create_array base suffixes len rpl index
expr_form (ExprKind-F.Unary op arg) = unary op arg
expr_form (ExprKind-F.Binary op left right) = binary op left right

abbrev pub expr_node : Expr-F ExprForm PlainExpr → PlainExpr
expr_node e = expression e.place e.kind

abbrev pub plain_expr : Expr → PlainExpr
plain_expr = fold-Expr ExprForm PlainExpr expr_form expr_node

abbrev pub plain_stmts : List PlainStmt → PlainStmts
plain_stmts [] = no_stmts
plain_stmts (s ∷ ss) = more_stmts s (plain_stmts ss)

abbrev pub choice_form : PlainExpr → PlainStmt → Option PlainStmt → StmtForm
choice_form test then_part None = choice test then_part
choice_form test then_part (Some else_part) = choice_else test then_part else_part

abbrev pub return_form : Option Expr → StmtForm
return_form None = return_nothing
return_form (Some value) = return_value (plain_expr value)

-- one level of a statement whose children are plain already
abbrev pub stmt_form : StmtKind-F StmtForm PlainStmt → StmtForm
stmt_form (StmtKind-F.Block all) = block (plain_stmts all)
stmt_form (StmtKind-F.Declare is_final ty name value) = declare is_final ty name (plain_expr value)
stmt_form (StmtKind-F.AssignLocal target value) = assign_local target (plain_expr value)
stmt_form (StmtKind-F.AssignField target value) = assign_field (plain_expr target) (plain_expr value)
stmt_form (StmtKind-F.AssignElement target value) = assign_element (plain_expr target) (plain_expr value)
stmt_form (StmtKind-F.Do performed) = perform (plain_expr performed)
stmt_form (StmtKind-F.If test then_part else_part) = choice_form (plain_expr test) then_part else_part
stmt_form (StmtKind-F.While test body) = while_loop (plain_expr test) body
stmt_form (StmtKind-F.Return value) = return_form value
stmt_form (StmtKind-F.Print value) = print (plain_expr value)
stmt_form (StmtKind-F.PrintText text) = print_text text
stmt_form (StmtKind-F.Cobegin nd branches) = cobegin nd (plain_stmts branches)
stmt_form (StmtKind-F.Foreach nd var start count body) = foreach nd var (plain_expr start) (plain_expr count) body
stmt_form (StmtKind-F.ForeachParts view var array count body) = foreach_parts view var (plain_expr array) (plain_expr count) body
stmt_form (StmtKind-F.Atomic all) = atomic (plain_stmts all)
stmt_form (StmtKind-F.Region names) = local_regions names

abbrev pub stmt_node : Stmt-F StmtForm PlainStmt → PlainStmt
stmt_node s = statement s.place s.kind

abbrev pub plain_stmt : Stmt → PlainStmt
plain_stmt = fold-Stmt StmtForm PlainStmt stmt_form stmt_node
