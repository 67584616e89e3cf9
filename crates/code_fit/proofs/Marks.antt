-- The marks of compiled code: of each construct, from the height before it, the rank of the place after it and how many entries are open.
-- Ranks count up from the end; before two targets stands more than the sum of theirs, and a loop's body ends over its head.
use Rattle.std.proofs.Common.{◌≡◌, ℕ, suc, ◌+◌, Bool, true, false, cond, List, [], ◌∷◌, ◌++◌, length, subst, arith, length-append, Option, Some, None}
use Rattle.lang_typed.specs.Plain.{TypedExpr, typed, type_of, TypedExprs, no_exprs, more_exprs, of_array, of_part, TypedStmt, statement, TypedStmts, no_stmts, more_stmts}
use Rattle.lang_typed.specs.Plain.{ExprForm as expr}
use Rattle.lang_typed.specs.Plain.{StmtForm as form}
use Rattle.lang_typed.specs.Resolved.{is_void}
use Rattle.lang_typed.specs.Statements.{completes, all_complete}
use Rattle.code_instrs.specs.Fit.{Mark}
use Rattle.code_scheme.specs.Scheme.{many, after_expr, after_exprs, after_stmt, after_stmts, after_regions}

abbrev pub mark : ℕ → ℕ → ℕ → Mark
mark h r z = record { height = h; open_entries = z; rank = r }

-- a place that is reached where the statement before it completes
abbrev pub reached : Bool → Mark → Option Mark
reached true m = Some m
reached false m = None

-- lists of marks, where they stand
abbrev pub Marked : (ℕ → Option Mark) → ℕ → List (Option Mark) → Type 0
Marked f p [] = Unit {0}
Marked f p (m ∷ ms) = (f p ≡ m) × Marked f (suc p) ms

-- from p the marks reach q
pub record Reach (p : ℕ) (ms : List (Option Mark)) (q : ℕ) : Type 0 where
  pub is : p + length ms ≡ q

pub far : {p q r : ℕ} {xs ys : List (Option Mark)} → Reach p xs q → Reach q ys r → Reach p (xs ++ ys) r
far {p} {q} {r} {xs} {ys} e f = let l = length-append xs ys in let m = e.is in let n = f.is in record { is = omega arith }

pub next : {p q : ℕ} {xs : List (Option Mark)} {m : Option Mark} → Reach (suc p) xs q → Reach p (m ∷ xs) q
next e = let m = e.is in record { is = omega arith }

pub stop : {q : ℕ} → Reach q [] q
stop {q} = record { is = omega arith }

split : (f : ℕ → Option Mark) (xs ys : List (Option Mark)) (p : ℕ) → Marked f p (xs ++ ys) → Marked f p xs × Marked f (p + length xs) ys
split f [] ys p h = (tt, subst (λ q. Marked f q ys) (omega arith) h)
split f (x ∷ xs) ys p h = let r = split f xs ys (suc p) h.1 in ((h.0, r.0), subst (λ q. Marked f q ys) (omega arith) r.1)

pub cut : (f : ℕ → Option Mark) {p q : ℕ} {xs : List (Option Mark)} (ys : List (Option Mark)) → Reach p xs q → Marked f p (xs ++ ys) →
    Marked f p xs × Marked f q ys
cut f {p} {q} {xs} ys e h = let r = split f xs ys p h in (r.0, subst (λ z. Marked f z ys) e.is r.1)

-- the rank of the first place, where r is that of the place after
abbrev mutual
  pub top_expr : ℕ → TypedExpr → ℕ
  top_expr r (typed at t (expr.int n)) = suc r
  top_expr r (typed at t (expr.boolean b)) = suc r
  top_expr r (typed at t expr.null) = suc r
  top_expr r (typed at t (expr.local x)) = suc r
  top_expr r (typed at t (expr.field e c f)) = top_expr (suc r) e
  top_expr r (typed at t (expr.element a j)) = top_expr (top_expr (suc r) j) a
  top_expr r (typed at t (expr.array_length a)) = top_expr (suc r) a
  top_expr r (typed at t (expr.call e c k regions es)) = top_expr (top_exprs (suc r) es) e
  top_expr r (typed at t (expr.create es)) = top_exprs (suc r) es
  top_expr r (typed at t (expr.create_array n)) = top_expr (suc r) n
  top_expr r (typed at t (expr.unary o e)) = top_expr (suc r) e
  top_expr r (typed at t (expr.binary o a b)) = top_expr (top_expr (suc r) b) a
  top_expr r (typed at t (expr.both a b)) = top_expr (suc (suc r + top_expr (suc r) b)) a
  top_expr r (typed at t (expr.either a b)) = top_expr (suc (suc (suc r) + top_expr r b)) a
  top_expr r (typed at t (expr.part_length x)) = suc r
  top_expr r (typed at t (expr.part_element x j)) = top_expr (suc (suc r)) j

  pub top_exprs : ℕ → TypedExprs → ℕ
  top_exprs r no_exprs = r
  top_exprs r (more_exprs e es) = top_expr (top_exprs r es) e

-- the height after arguments
abbrev pub high : ℕ → TypedExprs → ℕ
high h no_exprs = h
high h (more_exprs e es) = high (suc h) es

pub high_is : (h : ℕ) (es : TypedExprs) → high h es ≡ h + many es
high_is h no_exprs = omega arith
high_is h (more_exprs e es) = let r = high_is (suc h) es in omega arith

abbrev mutual
  pub expr_marks : ℕ → ℕ → ℕ → TypedExpr → List (Option Mark)
  expr_marks h r z (typed at t (expr.int n)) = Some (mark h (suc r) z) ∷ []
  expr_marks h r z (typed at t (expr.boolean b)) = Some (mark h (suc r) z) ∷ []
  expr_marks h r z (typed at t expr.null) = Some (mark h (suc r) z) ∷ []
  expr_marks h r z (typed at t (expr.local x)) = Some (mark h (suc r) z) ∷ []
  expr_marks h r z (typed at t (expr.field e c f)) = expr_marks h (suc r) z e ++ Some (mark (suc h) (suc r) z) ∷ []
  expr_marks h r z (typed at t (expr.element a j)) =
      expr_marks h (top_expr (suc r) j) z a ++ (expr_marks (suc h) (suc r) z j ++ Some (mark (suc (suc h)) (suc r) z) ∷ [])
  expr_marks h r z (typed at t (expr.array_length a)) = expr_marks h (suc r) z a ++ Some (mark (suc h) (suc r) z) ∷ []
  expr_marks h r z (typed at t (expr.call e c k regions es)) =
      expr_marks h (top_exprs (suc r) es) z e ++ (exprs_marks (suc h) (suc r) z es ++ Some (mark (high (suc h) es) (suc r) z) ∷ [])
  expr_marks h r z (typed at t (expr.create es)) = exprs_marks h (suc r) z es ++ Some (mark (high h es) (suc r) z) ∷ []
  expr_marks h r z (typed at t (expr.create_array n)) = expr_marks h (suc r) z n ++ Some (mark (suc h) (suc r) z) ∷ []
  expr_marks h r z (typed at t (expr.unary o e)) = expr_marks h (suc r) z e ++ Some (mark (suc h) (suc r) z) ∷ []
  expr_marks h r z (typed at t (expr.binary o a b)) =
      expr_marks h (top_expr (suc r) b) z a ++ (expr_marks (suc h) (suc r) z b ++ Some (mark (suc (suc h)) (suc r) z) ∷ [])
  expr_marks h r z (typed at t (expr.both a b)) =
      expr_marks h (suc (suc r + top_expr (suc r) b)) z a ++ Some (mark (suc h) (suc (suc r + top_expr (suc r) b)) z) ∷
      (expr_marks h (suc r) z b ++ Some (mark (suc h) (suc r) z) ∷ Some (mark h (suc r) z) ∷ [])
  expr_marks h r z (typed at t (expr.either a b)) =
      expr_marks h (suc (suc (suc r) + top_expr r b)) z a ++ Some (mark (suc h) (suc (suc (suc r) + top_expr r b)) z) ∷
      Some (mark h (suc (suc r)) z) ∷ Some (mark (suc h) (suc r) z) ∷ expr_marks h r z b
  expr_marks h r z (typed at t (expr.part_length x)) = Some (mark h (suc r) z) ∷ []
  expr_marks h r z (typed at t (expr.part_element x j)) =
      expr_marks h (suc (suc r)) z j ++ Some (mark (suc h) (suc (suc r)) z) ∷ Some (mark (suc (suc h)) (suc r) z) ∷ []

  pub exprs_marks : ℕ → ℕ → ℕ → TypedExprs → List (Option Mark)
  exprs_marks h r z no_exprs = []
  exprs_marks h r z (more_exprs e es) = expr_marks h (top_exprs r es) z e ++ exprs_marks (suc h) r z es

mutual
  pub expr_reach : (e : TypedExpr) (p h r z : ℕ) → Reach p (expr_marks h r z e) (after_expr p e)
  expr_reach (typed at t (expr.int n)) p h r z = next stop
  expr_reach (typed at t (expr.boolean b)) p h r z = next stop
  expr_reach (typed at t expr.null) p h r z = next stop
  expr_reach (typed at t (expr.local x)) p h r z = next stop
  expr_reach (typed at t (expr.field e c f)) p h r z = far (expr_reach e p _ _ _) (next stop)
  expr_reach (typed at t (expr.element a j)) p h r z = far (expr_reach a p _ _ _) (far (expr_reach j _ _ _ _) (next stop))
  expr_reach (typed at t (expr.array_length a)) p h r z = far (expr_reach a p _ _ _) (next stop)
  expr_reach (typed at t (expr.call e c k regions es)) p h r z = far (expr_reach e p _ _ _) (far (exprs_reach es _ _ _ _) (next stop))
  expr_reach (typed at t (expr.create es)) p h r z = far (exprs_reach es p _ _ _) (next stop)
  expr_reach (typed at t (expr.create_array n)) p h r z = far (expr_reach n p _ _ _) (next stop)
  expr_reach (typed at t (expr.unary o e)) p h r z = far (expr_reach e p _ _ _) (next stop)
  expr_reach (typed at t (expr.binary o a b)) p h r z = far (expr_reach a p _ _ _) (far (expr_reach b _ _ _ _) (next stop))
  expr_reach (typed at t (expr.both a b)) p h r z = far (expr_reach a p _ _ _) (next (far (expr_reach b _ _ _ _) (next (next stop))))
  expr_reach (typed at t (expr.either a b)) p h r z = far (expr_reach a p _ _ _) (next (next (next (expr_reach b _ _ _ _))))
  expr_reach (typed at t (expr.part_length x)) p h r z = next stop
  expr_reach (typed at t (expr.part_element x j)) p h r z = far (expr_reach j p _ _ _) (next (next stop))

  pub exprs_reach : (es : TypedExprs) (p h r z : ℕ) → Reach p (exprs_marks h r z es) (after_exprs p es)
  exprs_reach no_exprs p h r z = stop
  exprs_reach (more_exprs e es) p h r z = far (expr_reach e p _ _ _) (exprs_reach es _ _ _ _)

-- a value that isn't used is taken off; a void call leaves none
abbrev pub top_perform : ℕ → TypedExpr → Bool → ℕ
top_perform r e true = top_expr r e
top_perform r e false = top_expr (suc r) e

abbrev pub perform_marks : ℕ → ℕ → TypedExpr → Bool → List (Option Mark)
perform_marks r z e true = expr_marks 0 r z e
perform_marks r z e false = expr_marks 0 (suc r) z e ++ Some (mark 1 (suc r) z) ∷ []

abbrev pub top_regions : ℕ → List ℕ → ℕ
top_regions r [] = r
top_regions r (q ∷ qs) = suc (top_regions r qs)

abbrev pub region_marks : ℕ → ℕ → List ℕ → List (Option Mark)
region_marks r z [] = []
region_marks r z (q ∷ qs) = Some (mark 0 (suc (top_regions r qs)) z) ∷ region_marks r z qs

-- `spread S join`, and before it a branch's first number and how many there are
abbrev pub spread_marks : ℕ → ℕ → List (Option Mark)
spread_marks r z = Some (mark 2 (suc (suc r)) z) ∷ Some (mark 3 (suc r) z) ∷ []

abbrev pub parts_marks : ℕ → ℕ → List (Option Mark)
parts_marks r z = Some (mark 0 (suc (suc (suc (suc r)))) z) ∷ Some (mark 1 (suc (suc (suc r))) z) ∷ spread_marks r z

-- four lines more
abbrev pub up_four : ℕ → ℕ
up_four r = suc (suc (suc (suc r)))

abbrev mutual
  pub top_stmt : ℕ → TypedStmt → ℕ
  top_stmt r (statement at (form.declare x t is_final e)) = top_expr (suc r) e
  top_stmt r (statement at (form.store x e)) = top_expr (suc r) e
  top_stmt r (statement at (form.store_field o c f e)) = top_expr (top_expr (suc r) e) o
  top_stmt r (statement at (form.store_element a j e)) = top_expr (top_expr (top_expr (suc r) e) j) a
  top_stmt r (statement at (form.store_part x j e)) = top_expr (top_expr (suc (suc r)) e) j
  top_stmt r (statement at (form.perform e)) = top_perform r e (is_void (type_of e))
  top_stmt r (statement at (form.block ss)) = top_stmts r ss
  top_stmt r (statement at (form.choice e s)) = top_expr (suc (r + top_stmt r s)) e
  top_stmt r (statement at (form.choice_else e s t)) = top_expr (suc (top_stmt (suc r) s + top_stmt r t)) e
  top_stmt r (statement at (form.while_loop e s)) = top_expr (suc (suc r)) e
  top_stmt r (statement at form.return_nothing) = suc r
  top_stmt r (statement at (form.return_value e)) = top_expr (suc r) e
  top_stmt r (statement at (form.print_int e)) = top_expr (suc r) e
  top_stmt r (statement at (form.print_boolean e)) = top_expr (suc r) e
  top_stmt r (statement at (form.print_text text)) = suc r
  top_stmt r (statement at (form.local_regions rs)) = top_regions r rs
  top_stmt r (statement at (form.atomic effects ss)) = suc (top_stmts (suc r) ss)
  top_stmt r (statement at (form.cobegin forking bs)) = suc (suc r)
  top_stmt r (statement at (form.foreach forking x start count s)) = top_expr (top_expr (suc (suc r)) count) start
  top_stmt r (statement at (form.foreach_parts x (of_array a) count s)) = top_expr (suc (suc (suc (top_expr (up_four (up_four r)) count)))) a
  top_stmt r (statement at (form.foreach_parts x (of_part y) count s)) = up_four (top_expr (suc (suc (suc (up_four r)))) count)

  pub top_stmts : ℕ → TypedStmts → ℕ
  top_stmts r no_stmts = r
  top_stmts r (more_stmts s ss) = top_stmt (top_stmts r ss) s

abbrev mutual
  pub stmt_marks : ℕ → ℕ → TypedStmt → List (Option Mark)
  stmt_marks r z (statement at (form.declare x t is_final e)) = expr_marks 0 (suc r) z e ++ Some (mark 1 (suc r) z) ∷ []
  stmt_marks r z (statement at (form.store x e)) = expr_marks 0 (suc r) z e ++ Some (mark 1 (suc r) z) ∷ []
  stmt_marks r z (statement at (form.store_field o c f e)) =
      expr_marks 0 (top_expr (suc r) e) z o ++ (expr_marks 1 (suc r) z e ++ Some (mark 2 (suc r) z) ∷ [])
  stmt_marks r z (statement at (form.store_element a j e)) =
      expr_marks 0 (top_expr (top_expr (suc r) e) j) z a ++ (expr_marks 1 (top_expr (suc r) e) z j ++
      (expr_marks 2 (suc r) z e ++ Some (mark 3 (suc r) z) ∷ []))
  stmt_marks r z (statement at (form.store_part x j e)) =
      expr_marks 0 (top_expr (suc (suc r)) e) z j ++ (expr_marks 1 (suc (suc r)) z e ++ Some (mark 2 (suc (suc r)) z) ∷ Some (mark 3 (suc r) z) ∷ [])
  stmt_marks r z (statement at (form.perform e)) = perform_marks r z e (is_void (type_of e))
  stmt_marks r z (statement at (form.block ss)) = stmts_marks r z ss
  stmt_marks r z (statement at (form.choice e s)) =
      expr_marks 0 (suc (r + top_stmt r s)) z e ++ Some (mark 1 (suc (r + top_stmt r s)) z) ∷ stmt_marks r z s
  stmt_marks r z (statement at (form.choice_else e s t)) =
      expr_marks 0 (suc (top_stmt (suc r) s + top_stmt r t)) z e ++ Some (mark 1 (suc (top_stmt (suc r) s + top_stmt r t)) z) ∷
      (stmt_marks (suc r) z s ++ reached (completes s) (mark 0 (suc r) z) ∷ stmt_marks r z t)
  stmt_marks r z (statement at (form.while_loop e s)) =
      expr_marks 0 (suc (suc r)) z e ++ Some (mark 1 (suc (suc r)) z) ∷ Some (mark 0 (suc r) z) ∷
      (stmt_marks (suc (top_expr (suc (suc r)) e)) z s ++ reached (completes s) (mark 0 (suc (top_expr (suc (suc r)) e)) z) ∷ [])
  stmt_marks r z (statement at form.return_nothing) = Some (mark 0 (suc r) z) ∷ []
  stmt_marks r z (statement at (form.return_value e)) = expr_marks 0 (suc r) z e ++ Some (mark 1 (suc r) z) ∷ []
  stmt_marks r z (statement at (form.print_int e)) = expr_marks 0 (suc r) z e ++ Some (mark 1 (suc r) z) ∷ []
  stmt_marks r z (statement at (form.print_boolean e)) = expr_marks 0 (suc r) z e ++ Some (mark 1 (suc r) z) ∷ []
  stmt_marks r z (statement at (form.print_text text)) = Some (mark 0 (suc r) z) ∷ []
  stmt_marks r z (statement at (form.local_regions rs)) = region_marks r z rs
  stmt_marks r z (statement at (form.atomic effects ss)) =
      Some (mark 0 (suc (top_stmts (suc r) ss)) z) ∷ (stmts_marks (suc r) (suc z) ss ++ reached (all_complete ss) (mark 0 (suc r) (suc z)) ∷ [])
  stmt_marks r z (statement at (form.cobegin forking bs)) = Some (mark 0 (suc (suc r)) z) ∷ Some (mark 1 (suc r) z) ∷ []
  stmt_marks r z (statement at (form.foreach forking x start count s)) =
      expr_marks 0 (top_expr (suc (suc r)) count) z start ++ (expr_marks 1 (suc (suc r)) z count ++ spread_marks r z)
  stmt_marks r z (statement at (form.foreach_parts x (of_array a) count s)) =
      expr_marks 0 (suc (suc (suc (top_expr (up_four (up_four r)) count)))) z a ++
      Some (mark 1 (suc (suc (suc (top_expr (up_four (up_four r)) count)))) z) ∷ Some (mark 0 (suc (suc (top_expr (up_four (up_four r)) count))) z) ∷
      Some (mark 1 (suc (top_expr (up_four (up_four r)) count)) z) ∷
      (expr_marks 0 (up_four (up_four r)) z count ++ Some (mark 1 (up_four (up_four r)) z) ∷ Some (mark 0 (suc (suc (suc (up_four r)))) z) ∷
      Some (mark 1 (suc (suc (up_four r))) z) ∷ Some (mark 1 (suc (up_four r)) z) ∷ parts_marks r z)
  stmt_marks r z (statement at (form.foreach_parts x (of_part y) count s)) =
      Some (mark 0 (up_four (top_expr (suc (suc (suc (up_four r)))) count)) z) ∷
      Some (mark 1 (suc (suc (suc (top_expr (suc (suc (suc (up_four r)))) count)))) z) ∷
      Some (mark 0 (suc (suc (top_expr (suc (suc (suc (up_four r)))) count))) z) ∷ Some (mark 1 (suc (top_expr (suc (suc (suc (up_four r)))) count)) z) ∷
      (expr_marks 0 (suc (suc (suc (up_four r)))) z count ++ Some (mark 1 (suc (suc (suc (up_four r)))) z) ∷ Some (mark 0 (suc (suc (up_four r))) z) ∷
      Some (mark 1 (suc (up_four r)) z) ∷ parts_marks r z)

  pub stmts_marks : ℕ → ℕ → TypedStmts → List (Option Mark)
  stmts_marks r z no_stmts = []
  stmts_marks r z (more_stmts s ss) = stmt_marks (top_stmts r ss) z s ++ stmts_marks r z ss

pub perform_reach : (e : TypedExpr) (v : Bool) (p r z : ℕ) → Reach p (perform_marks r z e v) (cond v (after_expr p e) (suc (after_expr p e)))
perform_reach e true p r z = expr_reach e p 0 r z
perform_reach e false p r z = far (expr_reach e p 0 (suc r) z) (next stop)

regions_reach : (rs : List ℕ) (p r z : ℕ) → Reach p (region_marks r z rs) (after_regions p rs)
regions_reach [] p r z = stop
regions_reach (q ∷ qs) p r z = next (regions_reach qs (suc p) r z)

mutual
  pub stmt_reach : (s : TypedStmt) (p r z : ℕ) → Reach p (stmt_marks r z s) (after_stmt p s)
  stmt_reach (statement at (form.declare x t is_final e)) p r z = far (expr_reach e p _ _ _) (next stop)
  stmt_reach (statement at (form.store x e)) p r z = far (expr_reach e p _ _ _) (next stop)
  stmt_reach (statement at (form.store_field o c f e)) p r z = far (expr_reach o p _ _ _) (far (expr_reach e _ _ _ _) (next stop))
  stmt_reach (statement at (form.store_element a j e)) p r z =
      far (expr_reach a p _ _ _) (far (expr_reach j _ _ _ _) (far (expr_reach e _ _ _ _) (next stop)))
  stmt_reach (statement at (form.store_part x j e)) p r z = far (expr_reach j p _ _ _) (far (expr_reach e _ _ _ _) (next (next stop)))
  stmt_reach (statement at (form.perform e)) p r z = perform_reach e (is_void (type_of e)) p r z
  stmt_reach (statement at (form.block ss)) p r z = stmts_reach ss p r z
  stmt_reach (statement at (form.choice e s)) p r z = far (expr_reach e p _ _ _) (next (stmt_reach s _ _ _))
  stmt_reach (statement at (form.choice_else e s t)) p r z =
      far (expr_reach e p _ _ _) (next (far (stmt_reach s _ _ _) (next (stmt_reach t _ _ _))))
  stmt_reach (statement at (form.while_loop e s)) p r z = far (expr_reach e p _ _ _) (next (next (far (stmt_reach s _ _ _) (next stop))))
  stmt_reach (statement at form.return_nothing) p r z = next stop
  stmt_reach (statement at (form.return_value e)) p r z = far (expr_reach e p _ _ _) (next stop)
  stmt_reach (statement at (form.print_int e)) p r z = far (expr_reach e p _ _ _) (next stop)
  stmt_reach (statement at (form.print_boolean e)) p r z = far (expr_reach e p _ _ _) (next stop)
  stmt_reach (statement at (form.print_text text)) p r z = next stop
  stmt_reach (statement at (form.local_regions rs)) p r z = regions_reach rs p r z
  stmt_reach (statement at (form.atomic effects ss)) p r z = next (far (stmts_reach ss _ _ _) (next stop))
  stmt_reach (statement at (form.cobegin forking bs)) p r z = next (next stop)
  stmt_reach (statement at (form.foreach forking x start count s)) p r z =
      far (expr_reach start p _ _ _) (far (expr_reach count _ _ _ _) (next (next stop)))
  stmt_reach (statement at (form.foreach_parts x (of_array a) count s)) p r z =
      far (expr_reach a p _ _ _) (next (next (next (far (expr_reach count _ _ _ _)
      (next (next (next (next (next (next (next (next stop))))))))))))
  stmt_reach (statement at (form.foreach_parts x (of_part y) count s)) p r z =
      next (next (next (next (far (expr_reach count _ _ _ _) (next (next (next (next (next (next (next stop)))))))))))

  pub stmts_reach : (ss : TypedStmts) (p r z : ℕ) → Reach p (stmts_marks r z ss) (after_stmts p ss)
  stmts_reach no_stmts p r z = stop
  stmts_reach (more_stmts s ss) p r z = far (stmt_reach s p _ _) (stmts_reach ss _ _ _)
