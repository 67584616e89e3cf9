-- A tree is known by its plain form, since it can be made again from it.
use Rattle.std.proofs.Common.{◌≡◌, ◌∙◌, List, [], ◌∷◌, Some, None, map, refl, ap, subst}
use Rattle.syntax_tree.specs.declared.expr.Expr.{Expr, ind-Expr, roll-Expr, fold-roll-Expr, map-Expr}
use Rattle.syntax_tree.specs.declared.expr.ExprKind.{ExprKind, fold-ExprKind, roll-ExprKind, map-ExprKind, fold-roll-ExprKind}
use Rattle.syntax_tree.specs.declared.expr.ExprKind.TheOpen.{ExprKind-F, Expr-F}
use Rattle.syntax_tree.specs.declared.stmt.Stmt.{Stmt, ind-Stmt, roll-Stmt, fold-roll-Stmt, map-Stmt}
use Rattle.syntax_tree.specs.declared.stmt.StmtKind.{StmtKind, fold-StmtKind, roll-StmtKind, map-StmtKind, fold-roll-StmtKind}
use Rattle.syntax_tree.specs.declared.stmt.StmtKind.TheOpen.{StmtKind-F, Stmt-F}
use Rattle.syntax_tree.specs.Plain.{PlainExpr, expression, ExprForm, int, boolean, null, this, local, field, element, call, create, create_array, unary, binary, PlainExprs, no_exprs, more_exprs, expr_form, expr_node, plain_expr, plain_exprs, PlainStmt, statement, StmtForm, block, declare, assign_local, assign_field, assign_element, perform, choice, choice_else, while_loop, return_nothing, return_value, print, print_text, cobegin, foreach, foreach_parts, atomic, local_regions, PlainStmts, no_stmts, more_stmts, stmt_form, stmt_node, plain_stmt, plain_stmts}

abbrev mutual
  -- the expression that a plain one is of
  pub code_expr : PlainExpr → Expr
  code_expr (expression place form) = roll-Expr (record { place = place; kind = code_form form })

  code_form : ExprForm → ExprKind
  code_form (int n) = roll-ExprKind (ExprKind-F.Int n)
  code_form (boolean b) = roll-ExprKind (ExprKind-F.Bool b)
  code_form null = roll-ExprKind ExprKind-F.Null
  code_form this = roll-ExprKind ExprKind-F.This
  code_form (local name) = roll-ExprKind (ExprKind-F.Local name)
  code_form (field of name) = roll-ExprKind (ExprKind-F.Field (code_expr of) name)
  code_form (element array index) = roll-ExprKind (ExprKind-F.Element (code_expr array) (code_expr index))
  code_form (call of regions name actuals) = roll-ExprKind (ExprKind-F.Call (code_expr of) regions name (code_exprs actuals))
  code_form (create class regions actuals) = roll-ExprKind (ExprKind-F.New class regions (code_exprs actuals))
  code_form (create_array base suffixes len rpl index) = roll-ExprKind (ExprKind-F.NewArray base suffixes (code_expr len) rpl index)
  code_form (unary op arg) = roll-ExprKind (ExprKind-F.Unary op (code_expr arg))
  code_form (binary op left right) = roll-ExprKind (ExprKind-F.Binary op (code_expr left) (code_expr right))

  code_exprs : PlainExprs → List Expr
  code_exprs no_exprs = []
  code_exprs (more_exprs e es) = code_expr e ∷ code_exprs es

abbrev plain_kind : ExprKind → ExprForm
plain_kind = fold-ExprKind ExprForm PlainExpr expr_form expr_node

-- those of which it is known that they come back
abbrev KindBack : Type 0
KindBack = (k : ExprKind) × (code_form (plain_kind k) ≡ k)

abbrev ExprBack : Type 0
ExprBack = (e : Expr) × (code_expr (plain_expr e) ≡ e)

exprs_back : (es : List ExprBack) → code_exprs (plain_exprs (map plain_expr (map (λ (e : ExprBack). e.0) es))) ≡ map (λ (e : ExprBack). e.0) es
exprs_back [] = refl
exprs_back (e ∷ es) = ap (λ (x : Expr). x ∷ code_exprs (plain_exprs (map plain_expr (map (λ (e : ExprBack). e.0) es)))) e.1 ∙ ap (λ (xs : List Expr). e.0 ∷ xs) (exprs_back es)

kind_back : (y : ExprKind-F KindBack ExprBack) →
    code_form (expr_form (map-ExprKind ExprKind Expr ExprForm PlainExpr plain_kind plain_expr (map-ExprKind KindBack ExprBack ExprKind Expr (λ k. k.0) (λ e. e.0) y)))
    ≡ roll-ExprKind (map-ExprKind KindBack ExprBack ExprKind Expr (λ k. k.0) (λ e. e.0) y)
kind_back (ExprKind-F.Int n) = refl
kind_back (ExprKind-F.Bool b) = refl
kind_back ExprKind-F.Null = refl
kind_back ExprKind-F.This = refl
kind_back (ExprKind-F.Local name) = refl
kind_back (ExprKind-F.Field of name) = ap (λ x. roll-ExprKind (ExprKind-F.Field x name)) of.1
kind_back (ExprKind-F.Element array index) =
    ap (λ x. roll-ExprKind (ExprKind-F.Element x (code_expr (plain_expr index.0)))) array.1 ∙ ap (λ x. roll-ExprKind (ExprKind-F.Element array.0 x)) index.1
kind_back (ExprKind-F.Call of regions name actuals) =
    ap (λ x. roll-ExprKind (ExprKind-F.Call x regions name (code_exprs (plain_exprs (map plain_expr (map (λ (e : ExprBack). e.0) actuals)))))) of.1
    ∙ ap (λ x. roll-ExprKind (ExprKind-F.Call of.0 regions name x)) (exprs_back actuals)
kind_back (ExprKind-F.New class regions actuals) = ap (λ x. roll-ExprKind (ExprKind-F.New class regions x)) (exprs_back actuals)
kind_back (ExprKind-F.NewArray base suffixes len rpl index) = ap (λ x. roll-ExprKind (ExprKind-F.NewArray base suffixes x rpl index)) len.1
kind_back (ExprKind-F.Unary op arg) = ap (λ x. roll-ExprKind (ExprKind-F.Unary op x)) arg.1
kind_back (ExprKind-F.Binary op left right) =
    ap (λ x. roll-ExprKind (ExprKind-F.Binary op x (code_expr (plain_expr right.0)))) left.1 ∙ ap (λ x. roll-ExprKind (ExprKind-F.Binary op left.0 x)) right.1

expr_back : (y : Expr-F KindBack ExprBack) →
    code_expr (expr_node (map-Expr ExprKind Expr ExprForm PlainExpr plain_kind plain_expr (map-Expr KindBack ExprBack ExprKind Expr (λ k. k.0) (λ e. e.0) y)))
    ≡ roll-Expr (map-Expr KindBack ExprBack ExprKind Expr (λ k. k.0) (λ e. e.0) y)
expr_back y = ap (λ x. roll-Expr (record { place = y.place; kind = x })) y.kind.1

pub expr_came_back : (e : Expr) → code_expr (plain_expr e) ≡ e
expr_came_back =
    ind-Expr (λ k. code_form (plain_kind k) ≡ k) (λ e. code_expr (plain_expr e) ≡ e)
    (λ x y is. ap code_form (fold-roll-ExprKind ExprForm PlainExpr expr_form expr_node x)
    ∙ subst (λ (z : ExprKind-F ExprKind Expr). code_form (expr_form (map-ExprKind ExprKind Expr ExprForm PlainExpr plain_kind plain_expr z)) ≡ roll-ExprKind z) is (kind_back y))
    (λ x y is. ap code_expr (fold-roll-Expr ExprForm PlainExpr expr_form expr_node x)
    ∙ subst (λ (z : Expr-F ExprKind Expr). code_expr (expr_node (map-Expr ExprKind Expr ExprForm PlainExpr plain_kind plain_expr z)) ≡ roll-Expr z) is (expr_back y))

abbrev mutual
  -- the statement that a plain one is of
  pub code_stmt : PlainStmt → Stmt
  code_stmt (statement place form) = roll-Stmt (record { place = place; kind = code_stmt_form form })

  code_stmt_form : StmtForm → StmtKind
  code_stmt_form (block all) = roll-StmtKind (StmtKind-F.Block (code_stmts all))
  code_stmt_form (declare is_final ty name value) = roll-StmtKind (StmtKind-F.Declare is_final ty name (code_expr value))
  code_stmt_form (assign_local target value) = roll-StmtKind (StmtKind-F.AssignLocal target (code_expr value))
  code_stmt_form (assign_field target value) = roll-StmtKind (StmtKind-F.AssignField (code_expr target) (code_expr value))
  code_stmt_form (assign_element target value) = roll-StmtKind (StmtKind-F.AssignElement (code_expr target) (code_expr value))
  code_stmt_form (perform performed) = roll-StmtKind (StmtKind-F.Do (code_expr performed))
  code_stmt_form (choice test then_part) = roll-StmtKind (StmtKind-F.If (code_expr test) (code_stmt then_part) None)
  code_stmt_form (choice_else test then_part else_part) = roll-StmtKind (StmtKind-F.If (code_expr test) (code_stmt then_part) (Some (code_stmt else_part)))
  code_stmt_form (while_loop test body) = roll-StmtKind (StmtKind-F.While (code_expr test) (code_stmt body))
  code_stmt_form return_nothing = roll-StmtKind (StmtKind-F.Return None)
  code_stmt_form (return_value value) = roll-StmtKind (StmtKind-F.Return (Some (code_expr value)))
  code_stmt_form (print value) = roll-StmtKind (StmtKind-F.Print (code_expr value))
  code_stmt_form (print_text text) = roll-StmtKind (StmtKind-F.PrintText text)
  code_stmt_form (cobegin nd branches) = roll-StmtKind (StmtKind-F.Cobegin nd (code_stmts branches))
  code_stmt_form (foreach nd var start count body) = roll-StmtKind (StmtKind-F.Foreach nd var (code_expr start) (code_expr count) (code_stmt body))
  code_stmt_form (foreach_parts view var array count body) = roll-StmtKind (StmtKind-F.ForeachParts view var (code_expr array) (code_expr count) (code_stmt body))
  code_stmt_form (atomic all) = roll-StmtKind (StmtKind-F.Atomic (code_stmts all))
  code_stmt_form (local_regions names) = roll-StmtKind (StmtKind-F.Region names)

  pub code_stmts : PlainStmts → List Stmt
  code_stmts no_stmts = []
  code_stmts (more_stmts s ss) = code_stmt s ∷ code_stmts ss

abbrev plain_stmt_kind : StmtKind → StmtForm
plain_stmt_kind = fold-StmtKind StmtForm PlainStmt stmt_form stmt_node

abbrev StmtKindBack : Type 0
StmtKindBack = (k : StmtKind) × (code_stmt_form (plain_stmt_kind k) ≡ k)

abbrev StmtBack : Type 0
StmtBack = (s : Stmt) × (code_stmt (plain_stmt s) ≡ s)

stmts_back : (ss : List StmtBack) → code_stmts (plain_stmts (map plain_stmt (map (λ (s : StmtBack). s.0) ss))) ≡ map (λ (s : StmtBack). s.0) ss
stmts_back [] = refl
stmts_back (s ∷ ss) = ap (λ (x : Stmt). x ∷ code_stmts (plain_stmts (map plain_stmt (map (λ (s : StmtBack). s.0) ss)))) s.1 ∙ ap (λ (xs : List Stmt). s.0 ∷ xs) (stmts_back ss)

stmt_kind_back : (y : StmtKind-F StmtKindBack StmtBack) →
    code_stmt_form (stmt_form (map-StmtKind StmtKind Stmt StmtForm PlainStmt plain_stmt_kind plain_stmt (map-StmtKind StmtKindBack StmtBack StmtKind Stmt (λ k. k.0) (λ s. s.0) y)))
    ≡ roll-StmtKind (map-StmtKind StmtKindBack StmtBack StmtKind Stmt (λ k. k.0) (λ s. s.0) y)
stmt_kind_back (StmtKind-F.Block all) = ap (λ x. roll-StmtKind (StmtKind-F.Block x)) (stmts_back all)
stmt_kind_back (StmtKind-F.Declare is_final ty name value) = ap (λ x. roll-StmtKind (StmtKind-F.Declare is_final ty name x)) (expr_came_back value)
stmt_kind_back (StmtKind-F.AssignLocal target value) = ap (λ x. roll-StmtKind (StmtKind-F.AssignLocal target x)) (expr_came_back value)
stmt_kind_back (StmtKind-F.AssignField target value) =
    ap (λ x. roll-StmtKind (StmtKind-F.AssignField x (code_expr (plain_expr value)))) (expr_came_back target) ∙ ap (λ x. roll-StmtKind (StmtKind-F.AssignField target x)) (expr_came_back value)
stmt_kind_back (StmtKind-F.AssignElement target value) =
    ap (λ x. roll-StmtKind (StmtKind-F.AssignElement x (code_expr (plain_expr value)))) (expr_came_back target) ∙ ap (λ x. roll-StmtKind (StmtKind-F.AssignElement target x)) (expr_came_back value)
stmt_kind_back (StmtKind-F.Do performed) = ap (λ x. roll-StmtKind (StmtKind-F.Do x)) (expr_came_back performed)
stmt_kind_back (StmtKind-F.If test then_part None) =
    ap (λ x. roll-StmtKind (StmtKind-F.If x (code_stmt (plain_stmt then_part.0)) None)) (expr_came_back test) ∙ ap (λ x. roll-StmtKind (StmtKind-F.If test x None)) then_part.1
stmt_kind_back (StmtKind-F.If test then_part (Some else_part)) =
    ap (λ x. roll-StmtKind (StmtKind-F.If x (code_stmt (plain_stmt then_part.0)) (Some (code_stmt (plain_stmt else_part.0))))) (expr_came_back test)
    ∙ ap (λ x. roll-StmtKind (StmtKind-F.If test x (Some (code_stmt (plain_stmt else_part.0))))) then_part.1
    ∙ ap (λ x. roll-StmtKind (StmtKind-F.If test then_part.0 (Some x))) else_part.1
stmt_kind_back (StmtKind-F.While test body) =
    ap (λ x. roll-StmtKind (StmtKind-F.While x (code_stmt (plain_stmt body.0)))) (expr_came_back test) ∙ ap (λ x. roll-StmtKind (StmtKind-F.While test x)) body.1
stmt_kind_back (StmtKind-F.Return None) = refl
stmt_kind_back (StmtKind-F.Return (Some value)) = ap (λ x. roll-StmtKind (StmtKind-F.Return (Some x))) (expr_came_back value)
stmt_kind_back (StmtKind-F.Print value) = ap (λ x. roll-StmtKind (StmtKind-F.Print x)) (expr_came_back value)
stmt_kind_back (StmtKind-F.PrintText text) = refl
stmt_kind_back (StmtKind-F.Cobegin nd branches) = ap (λ x. roll-StmtKind (StmtKind-F.Cobegin nd x)) (stmts_back branches)
stmt_kind_back (StmtKind-F.Foreach nd var start count body) =
    ap (λ x. roll-StmtKind (StmtKind-F.Foreach nd var x (code_expr (plain_expr count)) (code_stmt (plain_stmt body.0)))) (expr_came_back start)
    ∙ ap (λ x. roll-StmtKind (StmtKind-F.Foreach nd var start x (code_stmt (plain_stmt body.0)))) (expr_came_back count)
    ∙ ap (λ x. roll-StmtKind (StmtKind-F.Foreach nd var start count x)) body.1
stmt_kind_back (StmtKind-F.ForeachParts view var array count body) =
    ap (λ x. roll-StmtKind (StmtKind-F.ForeachParts view var x (code_expr (plain_expr count)) (code_stmt (plain_stmt body.0)))) (expr_came_back array)
    ∙ ap (λ x. roll-StmtKind (StmtKind-F.ForeachParts view var array x (code_stmt (plain_stmt body.0)))) (expr_came_back count)
    ∙ ap (λ x. roll-StmtKind (StmtKind-F.ForeachParts view var array count x)) body.1
stmt_kind_back (StmtKind-F.Atomic all) = ap (λ x. roll-StmtKind (StmtKind-F.Atomic x)) (stmts_back all)
stmt_kind_back (StmtKind-F.Region names) = refl

stmt_back : (y : Stmt-F StmtKindBack StmtBack) →
    code_stmt (stmt_node (map-Stmt StmtKind Stmt StmtForm PlainStmt plain_stmt_kind plain_stmt (map-Stmt StmtKindBack StmtBack StmtKind Stmt (λ k. k.0) (λ s. s.0) y)))
    ≡ roll-Stmt (map-Stmt StmtKindBack StmtBack StmtKind Stmt (λ k. k.0) (λ s. s.0) y)
stmt_back y = ap (λ x. roll-Stmt (record { place = y.place; kind = x })) y.kind.1

pub stmt_came_back : (s : Stmt) → code_stmt (plain_stmt s) ≡ s
stmt_came_back =
    ind-Stmt (λ k. code_stmt_form (plain_stmt_kind k) ≡ k) (λ s. code_stmt (plain_stmt s) ≡ s)
    (λ x y is. ap code_stmt_form (fold-roll-StmtKind StmtForm PlainStmt stmt_form stmt_node x)
    ∙ subst (λ (z : StmtKind-F StmtKind Stmt). code_stmt_form (stmt_form (map-StmtKind StmtKind Stmt StmtForm PlainStmt plain_stmt_kind plain_stmt z)) ≡ roll-StmtKind z) is (stmt_kind_back y))
    (λ x y is. ap code_stmt (fold-roll-Stmt StmtForm PlainStmt stmt_form stmt_node x)
    ∙ subst (λ (z : Stmt-F StmtKind Stmt). code_stmt (stmt_node (map-Stmt StmtKind Stmt StmtForm PlainStmt plain_stmt_kind plain_stmt z)) ≡ roll-Stmt z) is (stmt_back y))

pub stmts_came_back : (ss : List Stmt) → code_stmts (plain_stmts (map plain_stmt ss)) ≡ ss
stmts_came_back [] = refl
stmts_came_back (s ∷ ss) = ap (λ (x : Stmt). x ∷ code_stmts (plain_stmts (map plain_stmt ss))) (stmt_came_back s) ∙ ap (λ (xs : List Stmt). s ∷ xs) (stmts_came_back ss)
