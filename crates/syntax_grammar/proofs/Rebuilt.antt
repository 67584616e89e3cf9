-- Each plain tree is that of a tree of the code.
use Rattle.std.proofs.Common.{◌≡◌, ◌∙◌, List, [], ◌∷◌, map, Some, None, refl, ap, rules}
use Rattle.syntax_tree.specs.declared.expr.Expr.{Expr}
use Rattle.syntax_tree.specs.declared.expr.ExprKind.{ExprKind}
use Rattle.syntax_tree.specs.declared.expr.ExprKind.TheVariants as kind
use Rattle.syntax_tree.specs.declared.stmt.Stmt.{Stmt}
use Rattle.syntax_tree.specs.declared.stmt.StmtKind.{StmtKind, the_lemmas}
use Rattle.syntax_tree.specs.declared.stmt.StmtKind.TheVariants as stmt
use Rattle.syntax_tree.specs.Plain.{PlainExpr, expression, ExprForm, int, boolean, null, this, local, field, element, call, create, create_array, unary, binary, PlainExprs, no_exprs, more_exprs, PlainStmt, statement, StmtForm, block, declare, assign_local, assign_field, assign_element, perform, choice, choice_else, while_loop, return_nothing, return_value, print, print_text, cobegin, foreach, foreach_parts, atomic, local_regions, PlainStmts, no_stmts, more_stmts, plain_expr, plain_exprs, plain_stmt, plain_stmts}
use Rattle.syntax_grammar.specs.Reading.{plain_kind, plain_stmt_kind}
use Rattle.syntax_grammar.proofs.Trees.{plain_node, kind_Int, kind_Bool, kind_Null, kind_This, kind_Local, kind_Field, kind_Element, kind_Call, kind_New, kind_NewArray, kind_Unary, kind_Binary}
use Rattle.syntax_grammar.proofs.StmtTrees.{kind_Block, kind_Declare, kind_AssignLocal, kind_AssignField, kind_AssignElement, kind_Do, kind_If_alone, kind_If_else, kind_While, kind_Return_nothing, kind_Return_value, kind_Print, kind_PrintText, kind_Cobegin, kind_Foreach, kind_ForeachParts, kind_Atomic, kind_Region}

ap2 : {A B C : Type 0} (f : A → B → C) {x y : A} {z w : B} → x ≡ y → z ≡ w → f x z ≡ f y w
ap2 {A} f {y = y} {z = z} e g = ap (λ (u : A). f u z) e ∙ ap (f y) g

ap3 : {A B C D : Type 0} (f : A → B → C → D) {x y : A} {z w : B} {u v : C} → x ≡ y → z ≡ w → u ≡ v → f x z u ≡ f y w v
ap3 {A} {B} f {y = y} {z = z} {u = u} e g h = ap2 (λ (p : A) (q : B). f p q u) e g ∙ ap (f y _) h

mutual
  pub expr_tree : (e : PlainExpr) → (tree : Expr) × (plain_expr tree ≡ e)
  expr_tree (expression place form) = let k = form_tree form in (record { place = place; kind = k.0 }, plain_node (record { place = place; kind = k.0 }) ∙ ap (expression place) k.1)

  form_tree : (form : ExprForm) → (tree : ExprKind) × (plain_kind tree ≡ form)
  form_tree (int n) = (kind.Int n, kind_Int n)
  form_tree (boolean b) = (kind.Bool b, kind_Bool b)
  form_tree null = (kind.Null, kind_Null)
  form_tree this = (kind.This, kind_This)
  form_tree (local name) = (kind.Local name, kind_Local name)
  form_tree (field of name) = let o = expr_tree of in (kind.Field o.0 name, kind_Field o.0 name ∙ ap (λ (x : PlainExpr). field x name) o.1)
  form_tree (element of at) = let o = expr_tree of in let i = expr_tree at in (kind.Element o.0 i.0, kind_Element o.0 i.0 ∙ ap2 element o.1 i.1)
  form_tree (call of regions name actuals) =
      let o = expr_tree of in let es = exprs_tree actuals in (kind.Call o.0 regions name es.0, kind_Call o.0 regions name es.0 ∙ ap2 (λ (x : PlainExpr) (xs : PlainExprs). call x regions name xs) o.1 es.1)
  form_tree (create class regions actuals) = let es = exprs_tree actuals in (kind.New class regions es.0, kind_New class regions es.0 ∙ ap (create class regions) es.1)
  form_tree (create_array start suffixes len rpl index) = let e = expr_tree len in (kind.NewArray start suffixes e.0 rpl index, kind_NewArray start suffixes e.0 rpl index ∙ ap (λ (x : PlainExpr). create_array start suffixes x rpl index) e.1)
  form_tree (unary op arg) = let e = expr_tree arg in (kind.Unary op e.0, kind_Unary op e.0 ∙ ap (unary op) e.1)
  form_tree (binary op left right) = let l = expr_tree left in let r = expr_tree right in (kind.Binary op l.0 r.0, kind_Binary op l.0 r.0 ∙ ap2 (binary op) l.1 r.1)

  exprs_tree : (es : PlainExprs) → (trees : List Expr) × (plain_exprs (map plain_expr trees) ≡ es)
  exprs_tree no_exprs = ([], refl)
  exprs_tree (more_exprs e es) =
      let first = expr_tree e in
      let others = exprs_tree es in
      (first.0 ∷ others.0, ap (λ (x : PlainExpr). more_exprs x (plain_exprs (map plain_expr others.0))) first.1 ∙ ap (more_exprs e) others.1)

stmt_node_is : (s : Stmt) → plain_stmt s ≡ statement s.place (plain_stmt_kind s.kind)
stmt_node_is s = search (rules, the_lemmas)

mutual
  pub stmt_tree : (s : PlainStmt) → (tree : Stmt) × (plain_stmt tree ≡ s)
  stmt_tree (statement place form) =
      let k = stmt_form_tree form in (record { place = place; kind = k.0 }, stmt_node_is (record { place = place; kind = k.0 }) ∙ ap (statement place) k.1)

  stmt_form_tree : (form : StmtForm) → (tree : StmtKind) × (plain_stmt_kind tree ≡ form)
  stmt_form_tree (block all) = let ss = stmts_tree all in (stmt.Block ss.0, kind_Block ss.0 ∙ ap block ss.1)
  stmt_form_tree (declare is_final ty name value) = let v = expr_tree value in (stmt.Declare is_final ty name v.0, kind_Declare is_final ty name v.0 ∙ ap (declare is_final ty name) v.1)
  stmt_form_tree (assign_local target value) = let v = expr_tree value in (stmt.AssignLocal target v.0, kind_AssignLocal target v.0 ∙ ap (assign_local target) v.1)
  stmt_form_tree (assign_field target value) = let t = expr_tree target in let v = expr_tree value in (stmt.AssignField t.0 v.0, kind_AssignField t.0 v.0 ∙ ap2 assign_field t.1 v.1)
  stmt_form_tree (assign_element target value) = let t = expr_tree target in let v = expr_tree value in (stmt.AssignElement t.0 v.0, kind_AssignElement t.0 v.0 ∙ ap2 assign_element t.1 v.1)
  stmt_form_tree (perform e) = let t = expr_tree e in (stmt.Do t.0, kind_Do t.0 ∙ ap perform t.1)
  stmt_form_tree (choice test body) = let t = expr_tree test in let s = stmt_tree body in (stmt.If t.0 s.0 None, kind_If_alone t.0 s.0 ∙ ap2 choice t.1 s.1)
  stmt_form_tree (choice_else test body other) =
      let t = expr_tree test in let s = stmt_tree body in let o = stmt_tree other in (stmt.If t.0 s.0 (Some o.0), kind_If_else t.0 s.0 o.0 ∙ ap3 choice_else t.1 s.1 o.1)
  stmt_form_tree (while_loop test body) = let t = expr_tree test in let s = stmt_tree body in (stmt.While t.0 s.0, kind_While t.0 s.0 ∙ ap2 while_loop t.1 s.1)
  stmt_form_tree return_nothing = (stmt.Return None, kind_Return_nothing)
  stmt_form_tree (return_value value) = let v = expr_tree value in (stmt.Return (Some v.0), kind_Return_value v.0 ∙ ap return_value v.1)
  stmt_form_tree (print value) = let v = expr_tree value in (stmt.Print v.0, kind_Print v.0 ∙ ap print v.1)
  stmt_form_tree (print_text text) = (stmt.PrintText text, kind_PrintText text)
  stmt_form_tree (cobegin nd all) = let ss = stmts_tree all in (stmt.Cobegin nd ss.0, kind_Cobegin nd ss.0 ∙ ap (cobegin nd) ss.1)
  stmt_form_tree (foreach nd var start count body) =
      let i = expr_tree start in let n = expr_tree count in let s = stmt_tree body in (stmt.Foreach nd var i.0 n.0 s.0, kind_Foreach nd var i.0 n.0 s.0 ∙ ap3 (foreach nd var) i.1 n.1 s.1)
  stmt_form_tree (foreach_parts view var array count body) =
      let i = expr_tree array in let n = expr_tree count in let s = stmt_tree body in
      (stmt.ForeachParts view var i.0 n.0 s.0, kind_ForeachParts view var i.0 n.0 s.0 ∙ ap3 (foreach_parts view var) i.1 n.1 s.1)
  stmt_form_tree (atomic all) = let ss = stmts_tree all in (stmt.Atomic ss.0, kind_Atomic ss.0 ∙ ap atomic ss.1)
  stmt_form_tree (local_regions names) = (stmt.Region names, kind_Region names)

  pub stmts_tree : (ss : PlainStmts) → (trees : List Stmt) × (plain_stmts (map plain_stmt trees) ≡ ss)
  stmts_tree no_stmts = ([], refl)
  stmts_tree (more_stmts s ss) =
      let first = stmt_tree s in
      let others = stmts_tree ss in
      (first.0 ∷ others.0, ap (λ (x : PlainStmt). more_stmts x (plain_stmts (map plain_stmt others.0))) first.1 ∙ ap (more_stmts s) others.1)
