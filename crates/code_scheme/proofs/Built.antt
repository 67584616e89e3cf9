-- What is so of each piece of code because of how the scheme puts pieces together.
use Rattle.std.proofs.Common.{◌≡◌, ℕ, suc, ◌+◌, Bool, true, false, List, [], ◌∷◌, refl, subst, arith, Option, Some, None, cond}
use Rattle.lang_base.specs.declared.place.Place.{Place}
use Rattle.lang_base.specs.Types.{PlainType}
use Rattle.lang_base.specs.Types.{PlainType as ty}
use Rattle.lang_typed.specs.declared.stmt.Forking.{Forking}
use Rattle.lang_typed.specs.declared.stmt.Forking.TheVariants.{Deterministic}
use Rattle.lang_typed.specs.Plain.{TypedExpr, typed, type_of, TypedExprs, no_exprs, more_exprs, Source, of_array, of_part, TypedStmt, statement, TypedStmts, no_stmts, more_stmts, TypedBranches}
use Rattle.lang_typed.specs.Plain.{ExprForm as expr}
use Rattle.lang_typed.specs.Plain.{StmtForm as form}
use Rattle.lang_typed.specs.Resolved.{is_void}
use Rattle.lang_typed.proofs.Parts.{each_stmt, substatements, Each, each_all}
use Rattle.code_instrs.specs.declared.instr.Instr.{Instr}
use Rattle.code_instrs.specs.declared.instr.Instr.TheVariants as i
use Rattle.code_instrs.specs.Machine.{branch_site}
use Rattle.code_instrs.specs.Plain.{Site, fork_site, spread_site}
use Rattle.code_scheme.specs.Pieces.{Piece, Next, past, nothing, line, with_site, with_text, beside}
use Rattle.code_scheme.specs.Scheme.{after_expr, after_exprs, after_stmt, after_stmts, after_regions, site_of_array, expr_piece, exprs_piece, stmt_piece, stmts_piece, regions_piece, spread_piece}
use Rattle.code_scheme.specs.Stands.{first_place}
use Rattle.code_scheme.specs.Whole.{weight, weight_all, weight_branches, branch_piece_of, closing}

abbrev pub has_branches : Site → Bool
has_branches (fork_site forking bodies copies) = true
has_branches (spread_site forking body slot) = true
has_branches s = false

array_has_none : (t : PlainType) → has_branches (site_of_array t) ≡ false
array_has_none (ty.array t a named) = refl
array_has_none t = refl

-- Q: of a piece that stands from one place up to another, and leads to so many bodies. It is so of nothing, and of what is put together of
-- such pieces; and where H is so of a construct with branches, of the lines that start these.
pub record Built (H : TypedStmt → Type 0) (Q : ℕ → Piece → ℕ → ℕ → Type 0) : Type 0 where
  pub stop : (p : ℕ) → Q p nothing p 0
  pub next : {p q n : ℕ} {a : Piece} (x : Instr) (at : Place) → branch_site x ≡ None → Q (suc p) a q n → Q p (line x at a) q n
  pub both : {p q r n m : ℕ} {a b : Piece} → Q p a q n → Q q b r m → Q p (beside a b) r (n + m)
  pub sited : {p q n : ℕ} {a : Piece} (s : Site) → has_branches s ≡ false → Q p a q n → Q p (with_site s a) q n
  pub texted : {p q n : ℕ} {a : Piece} (t : List ℕ) → Q p a q n → Q p (with_text t a) q n
  pub cobegin : (k : Next) (p : ℕ) (at : Place) (forking : Forking) (bs : TypedBranches) → H (statement at (form.cobegin forking bs)) →
      Q p (stmt_piece k p (statement at (form.cobegin forking bs))) (suc (suc p)) (weight_branches bs)
  pub foreach : (k : Next) (p : ℕ) (at : Place) (forking : Forking) (x : ℕ) (start count : TypedExpr) (s : TypedStmt) →
      H (statement at (form.foreach forking x start count s)) → Q p (spread_piece k at forking x None s) (suc (suc p)) (suc (weight s))
  pub foreach_parts : (k : Next) (p : ℕ) (at : Place) (x : ℕ) (source : Source) (count : TypedExpr) (s : TypedStmt) →
      H (statement at (form.foreach_parts x source count s)) → Q p (spread_piece k at Deterministic (x + 4) (Some x) s) (suc (suc p)) (suc (weight s))

-- where nothing is asked of a construct
abbrev pub Nothing_asked : TypedStmt → Type 0
Nothing_asked s = Unit {0}

pub none_asked : (s : TypedStmt) → Nothing_asked s → Each Nothing_asked (substatements s)
none_asked s h = each_all Nothing_asked (λ t. tt) (substatements s)

-- H is handed on to the parts of a statement
module _ (H : TypedStmt → Type 0) (Q : ℕ → Piece → ℕ → ℕ → Type 0) (parts : (s : TypedStmt) → H s → Each H (substatements s)) (b : Built H Q) where
  by : {p q n m : ℕ} {a : Piece} → n ≡ m → Q p a q n → Q p a q m
  by {p} {q} {n} {m} {a} e h = subst (λ z. Q p a q z) e h

  after : {p q r m : ℕ} {x y : Piece} → Q p x q 0 → Q q y r m → Q p (beside x y) r m
  after h k = by (omega arith) (b.both h k)

  before : {p q r n : ℕ} {x y : Piece} → Q p x q n → Q q y r 0 → Q p (beside x y) r n
  before h k = by (omega arith) (b.both h k)

  one : {p : ℕ} (x : Instr) (at : Place) → branch_site x ≡ None → Q p (line x at nothing) (suc p) 0
  one x at e = b.next x at e (b.stop _)

  mutual
    pub expr_built : (k : Next) (p : ℕ) (e : TypedExpr) → Q p (expr_piece k p e) (after_expr p e) 0
    expr_built k p (typed at t (expr.int n)) = one _ _ refl
    expr_built k p (typed at t (expr.boolean c)) = one _ _ refl
    expr_built k p (typed at t expr.null) = one _ _ refl
    expr_built k p (typed at t (expr.local x)) = one _ _ refl
    expr_built k p (typed at t (expr.field e c f)) = after (expr_built k p e) (one _ _ refl)
    expr_built k p (typed at t (expr.element a j)) = after (expr_built k p a) (after (expr_built _ _ j) (one _ _ refl))
    expr_built k p (typed at t (expr.array_length a)) = after (expr_built k p a) (one _ _ refl)
    expr_built k p (typed at t (expr.call e c r regions es)) = after (expr_built k p e) (after (exprs_built _ _ es) (b.sited _ refl (one _ _ refl)))
    expr_built k p (typed at t (expr.create es)) = after (exprs_built k p es) (b.sited _ refl (one _ _ refl))
    expr_built k p (typed at t (expr.create_array n)) = after (expr_built k p n) (b.sited _ (array_has_none t) (one _ _ refl))
    expr_built k p (typed at t (expr.unary o e)) = after (expr_built k p e) (one _ _ refl)
    expr_built k p (typed at t (expr.binary o x y)) = after (expr_built k p x) (after (expr_built _ _ y) (one _ _ refl))
    expr_built k p (typed at t (expr.both x y)) = after (expr_built k p x) (b.next _ _ refl (after (expr_built _ _ y) (b.next _ _ refl (one _ _ refl))))
    expr_built k p (typed at t (expr.either x y)) = after (expr_built k p x) (b.next _ _ refl (b.next _ _ refl (b.next _ _ refl (expr_built _ _ y))))
    expr_built k p (typed at t (expr.part_length x)) = one _ _ refl
    expr_built k p (typed at t (expr.part_element x j)) = after (expr_built k p j) (b.next _ _ refl (one _ _ refl))

    pub exprs_built : (k : Next) (p : ℕ) (es : TypedExprs) → Q p (exprs_piece k p es) (after_exprs p es) 0
    exprs_built k p no_exprs = b.stop p
    exprs_built k p (more_exprs e es) = after (expr_built k p e) (exprs_built _ _ es)

  pub popped_built : (z : Bool) (at : Place) (p : ℕ) → Q p (cond z nothing (line i.Pop at nothing)) (cond z p (suc p)) 0
  popped_built true at p = b.stop p
  popped_built false at p = one _ _ refl

  pub regions_built : (p : ℕ) (at : Place) (rs : List ℕ) → Q p (regions_piece at rs) (after_regions p rs) 0
  regions_built p at [] = b.stop p
  regions_built p at (r ∷ rs) = b.next _ _ refl (regions_built (suc p) at rs)

  mutual
    pub stmt_built : (k : Next) (p : ℕ) (s : TypedStmt) → H s → Q p (stmt_piece k p s) (after_stmt p s) (weight s)
    stmt_built k p (statement at (form.declare x t is_final e)) h = after (expr_built k p e) (one _ _ refl)
    stmt_built k p (statement at (form.store x e)) h = after (expr_built k p e) (one _ _ refl)
    stmt_built k p (statement at (form.store_field o c f e)) h = after (expr_built k p o) (after (expr_built _ _ e) (one _ _ refl))
    stmt_built k p (statement at (form.store_element a j e)) h = after (expr_built k p a) (after (expr_built _ _ j) (after (expr_built _ _ e) (one _ _ refl)))
    stmt_built k p (statement at (form.store_part x j e)) h = after (expr_built k p j) (after (expr_built _ _ e) (b.next _ _ refl (one _ _ refl)))
    stmt_built k p (statement at (form.perform e)) h = after (expr_built k p e) (popped_built (is_void (type_of e)) at (after_expr p e))
    stmt_built k p (statement at (form.block ss)) h = stmts_built k p ss (parts _ h)
    stmt_built k p (statement at (form.choice e s)) h = after (expr_built k p e) (b.next _ _ refl (stmt_built _ _ s (parts _ h).0))
    stmt_built k p (statement at (form.choice_else e s t)) h =
        after (expr_built k p e) (b.next _ _ refl (b.both (stmt_built _ _ s (parts _ h).0) (b.next _ _ refl (stmt_built _ _ t (parts _ h).1.0))))
    stmt_built k p (statement at (form.while_loop e s)) h =
        after (expr_built k p e) (b.next _ _ refl (b.next _ _ refl (before (stmt_built _ _ s (parts _ h).0) (one _ _ refl))))
    stmt_built k p (statement at form.return_nothing) h = one _ _ refl
    stmt_built k p (statement at (form.return_value e)) h = after (expr_built k p e) (one _ _ refl)
    stmt_built k p (statement at (form.print_int e)) h = after (expr_built k p e) (one _ _ refl)
    stmt_built k p (statement at (form.print_boolean e)) h = after (expr_built k p e) (one _ _ refl)
    stmt_built k p (statement at (form.print_text text)) h = b.texted _ (one _ _ refl)
    stmt_built k p (statement at (form.local_regions rs)) h = regions_built p at rs
    stmt_built k p (statement at (form.atomic effects ss)) h =
        after (b.sited _ refl (one _ _ refl)) (before (stmts_built _ _ ss (parts _ h)) (one _ _ refl))
    stmt_built k p (statement at (form.cobegin forking bs)) h = b.cobegin k p at forking bs h
    stmt_built k p (statement at (form.foreach forking x start count s)) h =
        let j = past k (expr_piece k p start) in
        after (expr_built k p start) (after (expr_built _ _ count) (b.foreach (past j (expr_piece j (after_expr p start) count)) _ at forking x start count s h))
    stmt_built k p (statement at (form.foreach_parts x (of_array a) count s)) h =
        let j = past k (expr_piece k p a) in
        after (expr_built k p a) (b.next _ _ refl (b.next _ _ refl (b.next _ _ refl (after (expr_built _ _ count)
        (b.next _ _ refl (b.next _ _ refl (b.next _ _ refl (b.next _ _ refl (b.next _ _ refl (b.next _ _ refl
        (b.foreach_parts (past j (expr_piece j (suc (suc (suc (after_expr p a)))) count)) _ at x (of_array a) count s h)))))))))))
    stmt_built k p (statement at (form.foreach_parts x (of_part y) count s)) h =
        b.next _ _ refl (b.next _ _ refl (b.next _ _ refl (b.next _ _ refl (after (expr_built _ _ count)
        (b.next _ _ refl (b.next _ _ refl (b.next _ _ refl (b.next _ _ refl (b.next _ _ refl
        (b.foreach_parts (past k (expr_piece k (suc (suc (suc (suc p)))) count)) _ at x (of_part y) count s h))))))))))

    pub stmts_built : (k : Next) (p : ℕ) (ss : TypedStmts) → Each H (each_stmt ss) → Q p (stmts_piece k p ss) (after_stmts p ss) (weight_all ss)
    stmts_built k p no_stmts h = b.stop p
    stmts_built k p (more_stmts s ss) h = b.both (stmt_built k p s h.0) (stmts_built _ _ ss h.1)

  -- the body of a branch, and of a member
  pub branch_built : (k : Next) (at : Place) (s : TypedStmt) (takes : Option ℕ) → H s →
      Q 0 (branch_piece_of k at s takes) (suc (after_stmt (first_place takes) s)) (weight s)
  branch_built k at s None h = before (stmt_built k 0 s h) (one _ _ refl)
  branch_built k at s (Some x) h = b.next _ _ refl (before (stmt_built k 1 s h) (one _ _ refl))

  closing_built : (z : Bool) (p : ℕ) → Q p (closing z) (cond z (suc p) p) 0
  closing_built true p = one _ _ refl
  closing_built false p = b.stop p

  pub member_built : (k : Next) (ss : TypedStmts) (z : Bool) → Each H (each_stmt ss) →
      Q 0 (beside (stmts_piece k 0 ss) (closing z)) (cond z (suc (after_stmts 0 ss)) (after_stmts 0 ss)) (weight_all ss)
  member_built k ss z h = before (stmts_built k 0 ss h) (closing_built z (after_stmts 0 ss))
