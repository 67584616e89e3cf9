-- The code of each construct fits its marks.
use Rattle.std.proofs.Common.{◌≡◌, ◌⊎◌, inl, inr, ◌<◌, ◌≤◌, ℕ, zero, suc, ◌+◌, pos, Bool, true, false, IsTrue, cond, ◌&&◌, ◌||◌, nat_lt, ltb-true, ltb-false, List, [], ◌∷◌, All, refl, sym, ap, ◌∙◌, subst, arith, Option, Some, None, slice_get}
use Rattle.lang_base.specs.declared.effect.Effect.{Effect}
use Rattle.lang_base.specs.declared.place.Place.{Place}
use Rattle.lang_base.specs.declared.region.Rpl.{Rpl}
use Rattle.lang_base.specs.declared.value.FirstValue.{FirstValue}
use Rattle.lang_base.specs.Types.{PlainType}
use Rattle.lang_base.specs.Types.{PlainType as ty}
use Rattle.lang_typed.specs.declared.stmt.Forking.{Forking}
use Rattle.lang_typed.specs.Resolved.{is_void, RowGives, ExprFits, ExprsFit, VoidCall, PerformFits, StmtFits, StmtsFit}
use Rattle.lang_typed.specs.Scope.{class_at}
use Rattle.lang_typed.specs.Plain.{PlainProgram, PlainClass, TypedExpr, typed, type_of, TypedExprs, no_exprs, more_exprs, of_array, of_part, TypedStmt, statement, TypedStmts, no_stmts, more_stmts, TypedBranches, no_branches, more_branches}
use Rattle.lang_typed.specs.Plain.{ExprForm as expr}
use Rattle.lang_typed.specs.Plain.{StmtForm as form}
use Rattle.lang_typed.specs.Statements.{completes, all_complete}
use Rattle.code_instrs.specs.declared.instr.Instr.{Instr}
use Rattle.code_instrs.specs.declared.instr.Instr.TheVariants as i
use Rattle.code_instrs.specs.Plain as code
use Rattle.code_instrs.specs.Plain.{Method, method_at, ClassCode, Line, Site, fork_site, spread_site, PlainCode, body_at, array_site}
use Rattle.code_instrs.specs.Machine.{line_before, site_of}
use Rattle.code_instrs.specs.Fit.{Mark, is_branch, Falls_to, puts_of, RowIs, left_by, site_at, Local}
use Rattle.code_scheme.specs.Scheme.{many, after_expr, after_exprs, after_stmt, after_stmts, after_regions, site_of_array, copy_lists}
use Rattle.code_scheme.specs.Stands.{LineAt, ExprAt, ExprsAt, PoppedAt, RegionsAt, StmtAt, StmtsAt}
use Rattle.code_fit.specs.Closed.{IsAbove, NoJoin, Keeps}
use Rattle.code_fit.specs.Room.{RowTakes, Constructs, IsFull, FullArray, BranchesWithin, ExprWithin, ExprsWithin, StmtWithin, StmtsWithin}
use Rattle.code_fit.proofs.Lists.{some_is, none_is}
use Rattle.code_fit.proofs.Marks.{mark, reached, Marked, cut, top_expr, top_exprs, high, high_is, expr_marks, exprs_marks, expr_reach, exprs_reach, top_perform, perform_marks, top_regions, region_marks, spread_marks, parts_marks, top_stmt, top_stmts, stmt_marks, stmts_marks, stmt_reach, stmts_reach}
use Rattle.code_fit.proofs.Linked.{ForkThere, SpreadThere, Linked, AllLinked}

array_is : (n : ℕ) (t : PlainType) → FullArray n t → (a : Rpl) × (first : FirstValue) × (site_of_array t ≡ array_site a first) × IsFull n 1 a
array_is n (ty.array t a named) f = (_, _, refl, f)
array_is n t f = absurd f

both_hold : (a b : Bool) → a ≡ true → b ≡ true → a && b ≡ true
both_hold true b h k = k
both_hold false b h k = absurd (cc)

left_holds : (a b : Bool) → a ≡ true → a || b ≡ true
left_holds true b h = refl
left_holds false b h = absurd (cc)

right_holds : (a b : Bool) → b ≡ true → a || b ≡ true
right_holds true b h = refl
right_holds false b h = h

-- the tables of a code are those of a program
pub record TablesFit (C : PlainCode) (P : PlainProgram) (gives : ℕ → Bool) : Type 0 where
  pub calls : (c r : ℕ) (y : Bool) → RowGives P c r y → RowIs C gives c r y
  pub takes : (c r n : ℕ) → RowTakes P c r n → (d : ℕ) (m : Method) → IsAbove C d c → method_at C d r ≡ Some m → n < (body_at C m.body).slots
  pub makes : (c n : ℕ) → Constructs P c n → (q : ℕ) → code.constructor_of C c ≡ Some q → n < (body_at C q).slots
  pub classes : (c : ℕ) (k : PlainClass) → class_at P c ≡ Some k → (x : ClassCode) × (code.class_at C c ≡ Some x)

-- body j of a code, whose tables are those of a program
module _ (C : PlainCode) (P : PlainProgram) (marks : ℕ → ℕ → Option Mark) (gives : ℕ → Bool)
    (tables : TablesFit C P gives) (j : ℕ) where
  -- a join takes values off, and stands after a fork or spread: so none stands where a jump leads with nothing on the stack, or where another
  -- line stands before
  pub record Lands (q : ℕ) : Type 0 where
    pub there : Mark
    pub is_there : marks j q ≡ Some there
    pub apart : (there.height ≡ 0) ⊎ (left_by (site_at C (site_of (line_before (body_at C j).lines q))) ≡ None)

  abbrev pub Holds : ℕ → Mark → Instr → Type 0
  Holds p m (i.Jump q) = Lands q
  Holds p m (i.Unless q) = Lands q
  Holds p m x = Keeps C (body_at C j) p m x

  abbrev pub Fine : ℕ → Type 0
  Fine p = (m : Mark) → marks j p ≡ Some m → (l : Line) × (slice_get (body_at C j).lines p ≡ Some l) × Local C marks gives j p m l.instr × Holds p m l.instr

  some_left : (s : Option Site) (n : ℕ) → left_by s ≡ Some n → n ≡ 0 → ⊥
  some_left (Some (fork_site forking js copies)) n e z = let s = some_is e in absurd (omega arith)
  some_left (Some (spread_site forking x y)) n e z = let s = some_is e in absurd (omega arith)
  some_left s n e z = absurd (cc)

  lands : ((p : ℕ) → Fine p) → (q : ℕ) → Lands q → NoJoin (body_at C j) q
  lands fine q h l at join =
      let x = fine q h.there h.is_there in
      go h.apart (subst (λ z. Local C marks gives j q h.there z) (ap (λ z. z.instr) (some_is (sym x.1 ∙ at)) ∙ join) x.2)
    where
      go : (h.there.height ≡ 0) ⊎ (left_by (site_at C (site_of (line_before (body_at C j).lines q))) ≡ None) → Local C marks gives j q h.there i.Join → ⊥
      go (inl z) s = let a = s.2.path.high in some_left _ s.0 s.1 (omega arith)
      go (inr z) s = none_is (sym z ∙ s.1)

  pub keeps_to : ((p : ℕ) → Fine p) → (p : ℕ) (m : Mark) (x : Instr) → Holds p m x → Keeps C (body_at C j) p m x
  keeps_to fine p m (i.Jump q) h = lands fine q h
  keeps_to fine p m (i.Unless q) h = lands fine q h
  keeps_to fine p m x h = h

  pub record Covers (p q : ℕ) : Type 0 where
    pub each : (x : ℕ) → p ≤ x → x < q → Fine x

  pub covers_then : {p q r : ℕ} → Covers p q → Covers q r → Covers p r
  covers_then {p} {q} {r} a b = record { each = λ x l k. go x l k (nat_lt x q) refl }
    where
      go : (x : ℕ) → p ≤ x → x < r → (t : Bool) → nat_lt x q ≡ t → Fine x
      go x l k true e = a.each x l (ltb-true x q e)
      go x l k false e = let z = ltb-false x q e in b.each x (grind arith) k

  pub covers_none : {p : ℕ} → Covers p p
  covers_none {p} = record { each = λ x a b. absurd (omega arith) }

  pub covers_if : {p : ℕ} {x : Instr} {at : Place} (m : Mark) (b : Bool) → LineAt (body_at C j).lines p x at → marks j p ≡ reached b m →
      (b ≡ true → Local C marks gives j p m x × Holds p m x) → Covers p (suc p)
  covers_if {p} {x} {at} m b a e l = record { each = λ q u v. subst (λ q. Fine q) (omega arith) (go b refl) }
    where
      go : (t : Bool) → b ≡ t → Fine p
      go true h n f =
          let same = some_is (sym (e ∙ ap (λ t. reached t m) h) ∙ f) in (
            record { instr = x; place = at },
            a,
            subst (λ w. Local C marks gives j p w x) same (l h).0,
            subst (λ w. Holds p w x) same (l h).1,
          )
      go false h n f = none_is (sym (e ∙ ap (λ t. reached t m) h) ∙ f)

  pub covers_one : {p : ℕ} {x : Instr} {at : Place} {m : Mark} → LineAt (body_at C j).lines p x at → marks j p ≡ Some m → Holds p m x → Local C marks gives j p m x → Covers p (suc p)
  covers_one {m = m} a e k l = covers_if m true a e (λ h. (l, k))

  -- a step along which the rank falls, and the entries stay
  falls : (takes puts : ℕ) {h k r s z q : ℕ} → marks j q ≡ Some (mark k s z) → takes ≤ h → k + takes ≡ h + puts → s < r →
      Falls_to (marks j) (mark h r z) q takes puts 0 0
  falls takes puts {h} {k} {r} {s} {z} e a b c = record {
    path = record { there = mark k s z; is_there = e; high = a; height = b; open_too = omega arith; entries = refl };
    falls = c;
  }

  pub still : {h r z q : ℕ} → marks j q ≡ Some (mark h r z) → Falls_to (marks j) (mark h (suc r) z) q 0 0 0 0
  still e = falls 0 0 e (omega arith) (omega arith) (omega arith)

  one_up : {h r z q : ℕ} → marks j q ≡ Some (mark (suc h) r z) → Falls_to (marks j) (mark h (suc r) z) q 0 1 0 0
  one_up e = falls 0 1 e (omega arith) (omega arith) (omega arith)

  one_down : {h r z q : ℕ} → marks j q ≡ Some (mark h r z) → Falls_to (marks j) (mark (suc h) (suc r) z) q 1 0 0 0
  one_down e = falls 1 0 e (omega arith) (omega arith) (omega arith)

  one_for_one : {h r z q : ℕ} → marks j q ≡ Some (mark (suc h) r z) → Falls_to (marks j) (mark (suc h) (suc r) z) q 1 1 0 0
  one_for_one e = falls 1 1 e (omega arith) (omega arith) (omega arith)

  two_for_one : {h r z q : ℕ} → marks j q ≡ Some (mark (suc h) r z) → Falls_to (marks j) (mark (suc (suc h)) (suc r) z) q 2 1 0 0
  two_for_one e = falls 2 1 e (omega arith) (omega arith) (omega arith)

  low : {q r z : ℕ} → marks j q ≡ Some (mark 0 r z) → Lands q
  low e = record { there = _; is_there = e; apart = inl refl }

  behind : {q : ℕ} {m : Mark} (o : Option Line) → slice_get (body_at C j).lines q ≡ o → site_of o ≡ None → marks j (suc q) ≡ Some m → Lands (suc q)
  behind o a s e = record { there = _; is_there = e; apart = inr (ap (λ o. left_by (site_at C (site_of o))) a ∙ ap (λ s. left_by (site_at C s)) s) }

  -- the last line of an expression forks nothing
  record LastLine (q : ℕ) : Type 0 where
    before : ℕ
    is : q ≡ suc before
    forks_none : site_of (slice_get (body_at C j).lines before) ≡ None

  last_is : {q : ℕ} (o : Option Line) → slice_get (body_at C j).lines q ≡ o → site_of o ≡ None → LastLine (suc q)
  last_is {q} o a s = record { before = q; is = refl; forks_none = ap site_of a ∙ s }

  last_line : (e : TypedExpr) (p : ℕ) → ExprAt C (body_at C j).lines p e → LastLine (after_expr p e)
  last_line (typed at t (expr.int n)) p a = last_is _ a refl
  last_line (typed at t (expr.boolean b)) p a = last_is _ a refl
  last_line (typed at t expr.null) p a = last_is _ a refl
  last_line (typed at t (expr.local k)) p a = last_is _ a refl
  last_line (typed at t (expr.field e c f)) p a = last_is _ a.1 refl
  last_line (typed at t (expr.element b k)) p a = last_is _ a.2 refl
  last_line (typed at t (expr.array_length b)) p a = last_is _ a.1 refl
  last_line (typed at t (expr.call e c k regions es)) p a = last_is _ a.2.stands refl
  last_line (typed at t (expr.create es)) p a = last_is _ a.1.stands refl
  last_line (typed at t (expr.create_array n)) p a = last_is _ a.1.stands refl
  last_line (typed at t (expr.unary o e)) p a = last_is _ a.1 refl
  last_line (typed at t (expr.binary o b k)) p a = last_is _ a.2 refl
  last_line (typed at t (expr.both b k)) p a = last_is _ a.4 refl
  last_line (typed at t (expr.either b k)) p a = last_line k _ a.4
  last_line (typed at t (expr.part_length k)) p a = last_is _ a refl
  last_line (typed at t (expr.part_element k b)) p a = last_is _ a.2 refl

  lands_after : (e : TypedExpr) (p : ℕ) {m : Mark} → ExprAt C (body_at C j).lines p e → marks j (after_expr p e) ≡ Some m → Lands (after_expr p e)
  lands_after e p a y =
      let l = last_line e p a in subst (λ q. Lands q) (sym l.is) (behind _ refl l.forks_none (ap (λ q. marks j q) (sym l.is) ∙ y))

  -- the mark of the first place
  mutual
    expr_first : (e : TypedExpr) (p h r z : ℕ) → Marked (marks j) p (expr_marks h r z e) → marks j p ≡ Some (mark h (top_expr r e) z)
    expr_first (typed at t (expr.int n)) p h r z x = x.0
    expr_first (typed at t (expr.boolean b)) p h r z x = x.0
    expr_first (typed at t expr.null) p h r z x = x.0
    expr_first (typed at t (expr.local k)) p h r z x = x.0
    expr_first (typed at t (expr.field e c f)) p h r z x = expr_first e p _ _ _ (cut (marks j) _ (expr_reach e p _ _ _) x).0
    expr_first (typed at t (expr.element a b)) p h r z x = expr_first a p _ _ _ (cut (marks j) _ (expr_reach a p _ _ _) x).0
    expr_first (typed at t (expr.array_length a)) p h r z x = expr_first a p _ _ _ (cut (marks j) _ (expr_reach a p _ _ _) x).0
    expr_first (typed at t (expr.call e c k regions es)) p h r z x = expr_first e p _ _ _ (cut (marks j) _ (expr_reach e p _ _ _) x).0
    expr_first (typed at t (expr.create es)) p h r z x =
        let u = cut (marks j) _ (exprs_reach es p _ _ _) x in exprs_first es p _ _ _ u.0 u.1.0
    expr_first (typed at t (expr.create_array n)) p h r z x = expr_first n p _ _ _ (cut (marks j) _ (expr_reach n p _ _ _) x).0
    expr_first (typed at t (expr.unary o e)) p h r z x = expr_first e p _ _ _ (cut (marks j) _ (expr_reach e p _ _ _) x).0
    expr_first (typed at t (expr.binary o a b)) p h r z x = expr_first a p _ _ _ (cut (marks j) _ (expr_reach a p _ _ _) x).0
    expr_first (typed at t (expr.both a b)) p h r z x = expr_first a p _ _ _ (cut (marks j) _ (expr_reach a p _ _ _) x).0
    expr_first (typed at t (expr.either a b)) p h r z x = expr_first a p _ _ _ (cut (marks j) _ (expr_reach a p _ _ _) x).0
    expr_first (typed at t (expr.part_length k)) p h r z x = x.0
    expr_first (typed at t (expr.part_element k b)) p h r z x = expr_first b p _ _ _ (cut (marks j) _ (expr_reach b p _ _ _) x).0

    exprs_first : (es : TypedExprs) (p h r z : ℕ) → Marked (marks j) p (exprs_marks h r z es) → marks j (after_exprs p es) ≡ Some (mark (high h es) r z) →
        marks j p ≡ Some (mark h (top_exprs r es) z)
    exprs_first no_exprs p h r z x y = y
    exprs_first (more_exprs e es) p h r z x y = expr_first e p _ _ _ (cut (marks j) _ (expr_reach e p _ _ _) x).0

  call_falls : (y : Bool) (es : TypedExprs) (h k : ℕ) {r z q : ℕ} → marks j q ≡ Some (mark k r z) → k ≡ h + puts_of y →
      Falls_to (marks j) (mark (high (suc h) es) (suc r) z) q (suc (many es)) (puts_of y) 0 0
  call_falls y es h k e f = let u = high_is (suc h) es in falls (suc (many es)) (puts_of y) e (omega arith) (omega arith) (omega arith)

  new_falls : (es : TypedExprs) {h r z q : ℕ} → marks j q ≡ Some (mark (suc h) r z) →
      Falls_to (marks j) (mark (high h es) (suc r) z) q (many es) 1 0 0
  new_falls es {h} e = let u = high_is h es in falls (many es) 1 e (omega arith) (omega arith) (omega arith)

  mutual
    fit_expr : (e : TypedExpr) (p h r z : ℕ) → ExprFits P e → ExprWithin P (body_at C j).slots e → ExprAt C (body_at C j).lines p e →
        Marked (marks j) p (expr_marks h r z e) → marks j (after_expr p e) ≡ Some (mark (suc h) r z) → Covers p (after_expr p e)
    fit_expr (typed at t (expr.int n)) p h r z ok w a x y = covers_one a x.0 tt (one_up y)
    fit_expr (typed at t (expr.boolean b)) p h r z ok w a x y = covers_one a x.0 tt (one_up y)
    fit_expr (typed at t expr.null) p h r z ok w a x y = covers_one a x.0 tt (one_up y)
    fit_expr (typed at t (expr.local k)) p h r z ok w a x y = covers_one a x.0 tt (w, one_up y)
    fit_expr (typed at t (expr.field e c f)) p h r z ok w a x y =
        let u = cut (marks j) _ (expr_reach e p _ _ _) x in
        covers_then (fit_expr e p _ _ _ ok w a.0 u.0 u.1.0) (covers_one a.1 u.1.0 tt (one_for_one y))
    fit_expr (typed at t (expr.element b k)) p h r z ok w a x y =
        let u = cut (marks j) _ (expr_reach b p _ _ _) x in
        let v = cut (marks j) _ (expr_reach k _ _ _ _) u.1 in
        covers_then (fit_expr b p _ _ _ ok.0 w.0 a.0 u.0 (expr_first k _ _ _ _ v.0))
        (covers_then (fit_expr k _ _ _ _ ok.1 w.1 a.1 v.0 v.1.0) (covers_one a.2 v.1.0 tt (two_for_one y)))
    fit_expr (typed at t (expr.array_length b)) p h r z ok w a x y =
        let u = cut (marks j) _ (expr_reach b p _ _ _) x in
        covers_then (fit_expr b p _ _ _ ok w a.0 u.0 u.1.0) (covers_one a.1 u.1.0 tt (one_for_one y))
    fit_expr (typed at t (expr.call e c k regions es)) p h r z ok w a x y =
        let u = cut (marks j) _ (expr_reach e p _ _ _) x in
        let v = cut (marks j) _ (exprs_reach es _ _ _ _) u.1 in
        covers_then (fit_expr e p _ _ _ ok.0 w.0 a.0 u.0 (exprs_first es _ _ _ _ v.0 v.1.0))
        (covers_then (fit_exprs es _ _ _ _ ok.1 w.1 a.1 v.0 v.1.0)
        (covers_one a.2.stands v.1.0 (c, k, many es, regions, a.2.site_is, w.2, λ d m b e. tables.takes c k (many es) w.3 d m b e) (c, k, many es, regions, true, a.2.site_is, tables.calls c k true ok.2, call_falls true es h (suc h) y (omega arith))))
    fit_expr (typed at t (expr.create es)) p h r z ok w a x y =
        let u = cut (marks j) _ (exprs_reach es p _ _ _) x in
        covers_then (fit_exprs es p _ _ _ ok w.0 a.0 u.0 u.1.0)
        (covers_one a.1.stands u.1.0 (_, many es, _, a.1.site_is, tables.classes _ w.1.0 w.1.1, w.1.2, λ q e. tables.makes _ (many es) w.2 q e) (_, many es, _, a.1.site_is, new_falls es y))
    fit_expr (typed at t (expr.create_array n)) p h r z ok w a x y =
        let u = cut (marks j) _ (expr_reach n p _ _ _) x in
        let s = array_is (body_at C j).slots t w.1 in
        covers_then (fit_expr n p _ _ _ ok.0 w.0 a.0 u.0 u.1.0)
        (covers_one a.1.stands u.1.0 (s.0, s.1, a.1.site_is ∙ ap Some s.2, s.3) (s.0, s.1, a.1.site_is ∙ ap Some s.2, one_for_one y))
    fit_expr (typed at t (expr.unary o e)) p h r z ok w a x y =
        let u = cut (marks j) _ (expr_reach e p _ _ _) x in
        covers_then (fit_expr e p _ _ _ ok w a.0 u.0 u.1.0) (covers_one a.1 u.1.0 tt (one_for_one y))
    fit_expr (typed at t (expr.binary o b k)) p h r z ok w a x y =
        let u = cut (marks j) _ (expr_reach b p _ _ _) x in
        let v = cut (marks j) _ (expr_reach k _ _ _ _) u.1 in
        covers_then (fit_expr b p _ _ _ ok.0 w.0 a.0 u.0 (expr_first k _ _ _ _ v.0))
        (covers_then (fit_expr k _ _ _ _ ok.1 w.1 a.1 v.0 v.1.0) (covers_one a.2 v.1.0 tt (two_for_one y)))
    fit_expr (typed at t (expr.both b k)) p h r z ok w a x y =
        let u = cut (marks j) _ (expr_reach b p _ _ _) x in
        let v = cut (marks j) _ (expr_reach k _ _ _ _) u.1.1 in
        let f = expr_first k _ _ _ _ v.0 in
        covers_then (fit_expr b p _ _ _ ok.0 w.0 a.0 u.0 u.1.0)
        (covers_then
        (covers_one a.1 u.1.0 (behind _ a.3 refl v.1.1.0)
        (falls 1 0 v.1.1.0 (omega arith) (omega arith) (omega arith), falls 1 0 f (omega arith) (omega arith) (omega arith)))
        (covers_then (fit_expr k _ _ _ _ ok.1 w.1 a.2 v.0 v.1.0)
        (covers_then (covers_one a.3 v.1.0 (behind _ a.4 refl y) (still y)) (covers_one a.4 v.1.1.0 tt (one_up y)))))
    fit_expr (typed at t (expr.either b k)) p h r z ok w a x y =
        let u = cut (marks j) _ (expr_reach b p _ _ _) x in
        let f = expr_first k _ _ _ _ u.1.1.1.1 in
        covers_then (fit_expr b p _ _ _ ok.0 w.0 a.0 u.0 u.1.0)
        (covers_then
        (covers_one a.1 u.1.0 (behind _ a.3 refl f)
        (falls 1 0 f (omega arith) (omega arith) (omega arith), falls 1 0 u.1.1.0 (omega arith) (omega arith) (omega arith)))
        (covers_then (covers_one a.2 u.1.1.0 tt (one_up u.1.1.1.0))
        (covers_then (covers_one a.3 u.1.1.1.0 (lands_after k _ a.4 y) (still y)) (fit_expr k _ _ _ _ ok.1 w.1 a.4 u.1.1.1.1 y))))
    fit_expr (typed at t (expr.part_length k)) p h r z ok w a x y = covers_one a x.0 tt (omega arith, one_up y)
    fit_expr (typed at t (expr.part_element k b)) p h r z ok w a x y =
        let u = cut (marks j) _ (expr_reach b p _ _ _) x in
        covers_then (fit_expr b p _ _ _ ok w.1 a.0 u.0 u.1.0)
        (covers_then (covers_one a.1 u.1.0 tt (w.0, falls 1 2 u.1.1.0 (omega arith) (omega arith) (omega arith))) (covers_one a.2 u.1.1.0 tt (two_for_one y)))

    fit_exprs : (es : TypedExprs) (p h r z : ℕ) → ExprsFit P es → ExprsWithin P (body_at C j).slots es → ExprsAt C (body_at C j).lines p es →
        Marked (marks j) p (exprs_marks h r z es) → marks j (after_exprs p es) ≡ Some (mark (high h es) r z) → Covers p (after_exprs p es)
    fit_exprs no_exprs p h r z ok w a x y = covers_none
    fit_exprs (more_exprs e es) p h r z ok w a x y =
        let u = cut (marks j) _ (expr_reach e p _ _ _) x in
        covers_then (fit_expr e p _ _ _ ok.0 w.0 a.0 u.0 (exprs_first es _ _ _ _ u.1 y)) (fit_exprs es _ _ _ _ ok.1 w.1 a.1 u.1 y)

  -- a value that isn't used is taken off; a void call leaves none
  fit_void : (e : TypedExpr) (p r z : ℕ) → VoidCall P e → ExprWithin P (body_at C j).slots e → ExprAt C (body_at C j).lines p e →
      Marked (marks j) p (expr_marks 0 r z e) → marks j (after_expr p e) ≡ Some (mark 0 r z) → Covers p (after_expr p e)
  fit_void (typed at t (expr.call e c k regions es)) p r z ok w a x y =
      let u = cut (marks j) _ (expr_reach e p _ _ _) x in
      let v = cut (marks j) _ (exprs_reach es _ _ _ _) u.1 in
      covers_then (fit_expr e p _ _ _ ok.0 w.0 a.0 u.0 (exprs_first es _ _ _ _ v.0 v.1.0))
      (covers_then (fit_exprs es _ _ _ _ ok.1 w.1 a.1 v.0 v.1.0)
      (covers_one a.2.stands v.1.0 (c, k, many es, regions, a.2.site_is, w.2, λ d m b e. tables.takes c k (many es) w.3 d m b e) (c, k, many es, regions, false, a.2.site_is, tables.calls c k false ok.2, call_falls false es 0 0 y (omega arith))))
  fit_void (typed at t f) p r z ok w a x y = absurd ok

  fit_unused : (e : TypedExpr) (at : Place) (v : Bool) (p r z : ℕ) → PerformFits P e v → ExprWithin P (body_at C j).slots e →
      ExprAt C (body_at C j).lines p e → PoppedAt C (body_at C j).lines (after_expr p e) v at → Marked (marks j) p (perform_marks r z e v) →
      marks j (cond v (after_expr p e) (suc (after_expr p e))) ≡ Some (mark 0 r z) → Covers p (cond v (after_expr p e) (suc (after_expr p e)))
  fit_unused e at true p r z ok w a b x y = fit_void e p r z ok w a x y
  fit_unused e at false p r z ok w a b x y =
      let u = cut (marks j) _ (expr_reach e p _ _ _) x in covers_then (fit_expr e p _ _ _ ok w a u.0 u.1.0) (covers_one b u.1.0 tt (one_down y))

  perform_first : (e : TypedExpr) (v : Bool) (p r z : ℕ) → Marked (marks j) p (perform_marks r z e v) → marks j p ≡ Some (mark 0 (top_perform r e v) z)
  perform_first e true p r z x = expr_first e p _ _ _ x
  perform_first e false p r z x = expr_first e p _ _ _ (cut (marks j) _ (expr_reach e p _ _ _) x).0

  regions_first : (rs : List ℕ) (p r z : ℕ) → Marked (marks j) p (region_marks r z rs) → marks j (after_regions p rs) ≡ Some (mark 0 r z) →
      marks j p ≡ Some (mark 0 (top_regions r rs) z)
  regions_first [] p r z x y = y
  regions_first (q ∷ qs) p r z x y = x.0

  fit_regions : (rs : List ℕ) (at : Place) (p r z : ℕ) → All (λ q. q < (body_at C j).local_regions) rs → RegionsAt C (body_at C j).lines p at rs →
      Marked (marks j) p (region_marks r z rs) → marks j (after_regions p rs) ≡ Some (mark 0 r z) → Covers p (after_regions p rs)
  fit_regions [] at p r z w a x y = covers_none
  fit_regions (q ∷ qs) at p r z w a x y =
      covers_then (covers_one a.0 x.0 tt (w 0 0 (omega arith), still (regions_first qs (suc p) r z x.1 y)))
      (fit_regions qs at (suc p) r z (λ k d l. w (suc k) d (omega arith)) a.1 x.1 y)

  pub is_reached : {q : ℕ} (b : Bool) (m : Mark) → marks j q ≡ reached b m → b ≡ true → marks j q ≡ Some m
  is_reached b m e h = e ∙ ap (λ t. reached t m) h

  -- what stands after a statement is only reached where that completes
  mutual
    pub stmt_first : (s : TypedStmt) (p r z : ℕ) → Marked (marks j) p (stmt_marks r z s) →
        (completes s ≡ true → marks j (after_stmt p s) ≡ Some (mark 0 r z)) → marks j p ≡ Some (mark 0 (top_stmt r s) z)
    stmt_first (statement at (form.declare k t is_final e)) p r z x y = expr_first e p _ _ _ (cut (marks j) _ (expr_reach e p _ _ _) x).0
    stmt_first (statement at (form.store k e)) p r z x y = expr_first e p _ _ _ (cut (marks j) _ (expr_reach e p _ _ _) x).0
    stmt_first (statement at (form.store_field o c f e)) p r z x y = expr_first o p _ _ _ (cut (marks j) _ (expr_reach o p _ _ _) x).0
    stmt_first (statement at (form.store_element a b e)) p r z x y = expr_first a p _ _ _ (cut (marks j) _ (expr_reach a p _ _ _) x).0
    stmt_first (statement at (form.store_part k b e)) p r z x y = expr_first b p _ _ _ (cut (marks j) _ (expr_reach b p _ _ _) x).0
    stmt_first (statement at (form.perform e)) p r z x y = perform_first e (is_void (type_of e)) p r z x
    stmt_first (statement at (form.block ss)) p r z x y = stmts_first ss p r z x y
    stmt_first (statement at (form.choice e s)) p r z x y = expr_first e p _ _ _ (cut (marks j) _ (expr_reach e p _ _ _) x).0
    stmt_first (statement at (form.choice_else e s t)) p r z x y = expr_first e p _ _ _ (cut (marks j) _ (expr_reach e p _ _ _) x).0
    stmt_first (statement at (form.while_loop e s)) p r z x y = expr_first e p _ _ _ (cut (marks j) _ (expr_reach e p _ _ _) x).0
    stmt_first (statement at form.return_nothing) p r z x y = x.0
    stmt_first (statement at (form.return_value e)) p r z x y = expr_first e p _ _ _ (cut (marks j) _ (expr_reach e p _ _ _) x).0
    stmt_first (statement at (form.print_int e)) p r z x y = expr_first e p _ _ _ (cut (marks j) _ (expr_reach e p _ _ _) x).0
    stmt_first (statement at (form.print_boolean e)) p r z x y = expr_first e p _ _ _ (cut (marks j) _ (expr_reach e p _ _ _) x).0
    stmt_first (statement at (form.print_text text)) p r z x y = x.0
    stmt_first (statement at (form.local_regions rs)) p r z x y = regions_first rs p r z x (y refl)
    stmt_first (statement at (form.atomic effects ss)) p r z x y = x.0
    stmt_first (statement at (form.cobegin forking bs)) p r z x y = x.0
    stmt_first (statement at (form.foreach forking k start count s)) p r z x y = expr_first start p _ _ _ (cut (marks j) _ (expr_reach start p _ _ _) x).0
    stmt_first (statement at (form.foreach_parts k (of_array a) count s)) p r z x y = expr_first a p _ _ _ (cut (marks j) _ (expr_reach a p _ _ _) x).0
    stmt_first (statement at (form.foreach_parts k (of_part b) count s)) p r z x y = x.0

    pub stmts_first : (ss : TypedStmts) (p r z : ℕ) → Marked (marks j) p (stmts_marks r z ss) →
        (all_complete ss ≡ true → marks j (after_stmts p ss) ≡ Some (mark 0 r z)) → marks j p ≡ Some (mark 0 (top_stmts r ss) z)
    stmts_first no_stmts p r z x y = y refl
    stmts_first (more_stmts s ss) p r z x y =
        let u = cut (marks j) _ (stmt_reach s p _ _) x in
        stmt_first s p _ _ u.0 (λ c. stmts_first ss _ _ _ u.1 (λ d. y (both_hold (completes s) (all_complete ss) c d)))

  copies_within : (n m : ℕ) (bs : TypedBranches) → BranchesWithin P n m bs → All (λ xs. All (λ x. x < n) xs) (copy_lists bs)
  copies_within n m no_branches w k d l = absurd (omega arith)
  copies_within n m (more_branches copies s bs) w zero d l = w.0
  copies_within n m (more_branches copies s bs) w (suc k) d l = copies_within n m bs w.2 k d (omega arith)

  -- a fork or spread, and its join
  fit_fork : (p r z : ℕ) (at : Place) (copies : List (List ℕ)) → ForkThere C (body_at C j) p copies →
      All (λ xs. All (λ x. x < (body_at C j).slots) xs) copies → LineAt (body_at C j).lines (suc p) i.Join at → marks j p ≡ Some (mark 0 (suc (suc r)) z) →
      marks j (suc p) ≡ Some (mark 1 (suc r) z) → marks j (suc (suc p)) ≡ Some (mark 0 r z) → Covers p (suc (suc p))
  fit_fork p r z at copies f w a x x1 y =
      covers_then
      (covers_one f.stands x (f.forking, f.bodies, copies, f.site_is, w, (_, a, refl)) (f.forking, f.bodies, copies, f.site_is, f.many, f.branches, one_up x1))
      (covers_one a x1 tt (1, ap (λ o. left_by (site_at C (site_of o))) f.stands ∙ ap left_by f.site_is, one_down y))

  fit_spread : (p k r z : ℕ) (at : Place) → SpreadThere C (body_at C j) p k → k < (body_at C j).slots → LineAt (body_at C j).lines (suc p) i.Join at →
      Marked (marks j) p (spread_marks r z) → marks j (suc (suc p)) ≡ Some (mark 0 r z) → Covers p (suc (suc p))
  fit_spread p k r z at f w a x y =
      covers_then
      (covers_one f.stands x.0 (f.forking, f.body, k, f.site_is, w, (_, a, refl))
      (f.forking, f.body, k, f.site_is, f.branch, falls 2 3 x.1.0 (omega arith) (omega arith) (omega arith)))
      (covers_one a x.1.0 tt
      (3, ap (λ o. left_by (site_at C (site_of o))) f.stands ∙ ap left_by f.site_is, falls 3 0 y (omega arith) (omega arith) (omega arith)))

  -- a first number and a count, and the branches for them
  fit_parts : (p k r z : ℕ) (at at1 at2 : Place) → k + 4 < (body_at C j).slots → LineAt (body_at C j).lines p (i.Int (pos 0)) at →
      LineAt (body_at C j).lines (suc p) (i.Load (k + 3)) at1 → SpreadThere C (body_at C j) (suc (suc p)) (k + 4) →
      LineAt (body_at C j).lines (suc (suc (suc p))) i.Join at2 → Marked (marks j) p (parts_marks r z) →
      marks j (suc (suc (suc (suc p)))) ≡ Some (mark 0 r z) → Covers p (suc (suc (suc (suc p))))
  fit_parts p k r z at at1 at2 w a b f c x y =
      covers_then (covers_one a x.0 tt (one_up x.1.0))
      (covers_then (covers_one b x.1.0 tt (omega arith, one_up x.1.1.0)) (fit_spread (suc (suc p)) (k + 4) r z at2 f w c x.1.1 y))

  -- where a return may stand, no entry is open, and the body is that of a member
  abbrev pub Out : Bool → ℕ → Type 0
  Out may z = may ≡ true → (is_branch (body_at C j).title ≡ false) × (z ≡ 0)

  -- the code of a statement fits its marks
  abbrev pub Fits : TypedStmt → Type 0
  Fits s =
      (may : Bool) (p r z : ℕ) → Out may z → StmtFits P (gives j) s → StmtWithin P (body_at C j).slots (body_at C j).local_regions may s → StmtAt C (body_at C j).lines p s →
      Linked C (body_at C j) p s → Marked (marks j) p (stmt_marks r z s) → (completes s ≡ true → marks j (after_stmt p s) ≡ Some (mark 0 r z)) →
      Covers p (after_stmt p s)

  abbrev pub AllFit : TypedStmts → Type 0
  AllFit ss =
      (may : Bool) (p r z : ℕ) → Out may z → StmtsFit P (gives j) ss → StmtsWithin P (body_at C j).slots (body_at C j).local_regions may ss → StmtsAt C (body_at C j).lines p ss →
      AllLinked C (body_at C j) p ss → Marked (marks j) p (stmts_marks r z ss) →
      (all_complete ss ≡ true → marks j (after_stmts p ss) ≡ Some (mark 0 r z)) → Covers p (after_stmts p ss)

  fit_declare : (at : Place) (k : ℕ) (t : PlainType) (is_final : Bool) (e : TypedExpr) → Fits (statement at (form.declare k t is_final e))
  fit_declare at k t is_final e may p r z out ok w a l x y =
      let u = cut (marks j) _ (expr_reach e p _ _ _) x in
      covers_then (fit_expr e p _ _ _ ok w.1 a.0 u.0 u.1.0) (covers_one a.1 u.1.0 tt (w.0, one_down (y refl)))

  fit_store : (at : Place) (k : ℕ) (e : TypedExpr) → Fits (statement at (form.store k e))
  fit_store at k e may p r z out ok w a l x y =
      let u = cut (marks j) _ (expr_reach e p _ _ _) x in
      covers_then (fit_expr e p _ _ _ ok w.1 a.0 u.0 u.1.0) (covers_one a.1 u.1.0 tt (w.0, one_down (y refl)))

  fit_store_field : (at : Place) (o : TypedExpr) (c : ℕ) (f : ℕ) (e : TypedExpr) → Fits (statement at (form.store_field o c f e))
  fit_store_field at o c f e may p r z out ok w a l x y =
      let u = cut (marks j) _ (expr_reach o p _ _ _) x in
      let v = cut (marks j) _ (expr_reach e _ _ _ _) u.1 in
      covers_then (fit_expr o p _ _ _ ok.0 w.0 a.0 u.0 (expr_first e _ _ _ _ v.0))
      (covers_then (fit_expr e _ _ _ _ ok.1 w.1 a.1 v.0 v.1.0)
      (covers_one a.2 v.1.0 tt (falls 2 0 (y refl) (omega arith) (omega arith) (omega arith))))

  fit_store_element : (at : Place) (b k e : TypedExpr) → Fits (statement at (form.store_element b k e))
  fit_store_element at b k e may p r z out ok w a l x y =
      let u = cut (marks j) _ (expr_reach b p _ _ _) x in
      let v = cut (marks j) _ (expr_reach k _ _ _ _) u.1 in
      let q = cut (marks j) _ (expr_reach e _ _ _ _) v.1 in
      covers_then (fit_expr b p _ _ _ ok.0 w.0 a.0 u.0 (expr_first k _ _ _ _ v.0))
      (covers_then (fit_expr k _ _ _ _ ok.1 w.1 a.1 v.0 (expr_first e _ _ _ _ q.0))
      (covers_then (fit_expr e _ _ _ _ ok.2 w.2 a.2 q.0 q.1.0)
      (covers_one a.3 q.1.0 tt (falls 3 0 (y refl) (omega arith) (omega arith) (omega arith)))))

  fit_store_part : (at : Place) (k : ℕ) (b : TypedExpr) (e : TypedExpr) → Fits (statement at (form.store_part k b e))
  fit_store_part at k b e may p r z out ok w a l x y =
      let u = cut (marks j) _ (expr_reach b p _ _ _) x in
      let v = cut (marks j) _ (expr_reach e _ _ _ _) u.1 in
      covers_then (fit_expr b p _ _ _ ok.0 w.1 a.0 u.0 (expr_first e _ _ _ _ v.0))
      (covers_then (fit_expr e _ _ _ _ ok.1 w.2 a.1 v.0 v.1.0)
      (covers_then (covers_one a.2 v.1.0 tt (w.0, falls 2 3 v.1.1.0 (omega arith) (omega arith) (omega arith)))
      (covers_one a.3 v.1.1.0 tt (falls 3 0 (y refl) (omega arith) (omega arith) (omega arith)))))

  fit_perform : (at : Place) (e : TypedExpr) → Fits (statement at (form.perform e))
  fit_perform at e may p r z out ok w a l x y = fit_unused e at (is_void (type_of e)) p r z ok w a.0 a.1 x (y refl)

  fit_choice : (at : Place) (e : TypedExpr) (s : TypedStmt) → Fits s → Fits (statement at (form.choice e s))
  fit_choice at e s fit_s may p r z out ok w a l x y =
      let u = cut (marks j) _ (expr_reach e p _ _ _) x in
      let f = stmt_first s _ _ _ u.1.1 (λ c. y refl) in
      covers_then (fit_expr e p _ _ _ ok.0 w.0 a.0 u.0 u.1.0)
      (covers_then
      (covers_one a.1 u.1.0 (low (y refl))
      (falls 1 0 (y refl) (omega arith) (omega arith) (omega arith), falls 1 0 f (omega arith) (omega arith) (omega arith)))
      (fit_s may _ _ _ out ok.1 w.1 a.2 l u.1.1 (λ c. y refl)))

  fit_choice_else : (at : Place) (e : TypedExpr) (s : TypedStmt) (t : TypedStmt) → Fits s → Fits t → Fits (statement at (form.choice_else e s t))
  fit_choice_else at e s t fit_s fit_t may p r z out ok w a l x y =
      let u = cut (marks j) _ (expr_reach e p _ _ _) x in
      let v = cut (marks j) _ (stmt_reach s _ _ _) u.1.1 in
      let f = stmt_first s _ _ _ v.0 (λ c. is_reached (completes s) _ v.1.0 c) in
      let g = stmt_first t _ _ _ v.1.1 (λ c. y (right_holds (completes s) (completes t) c)) in
      covers_then (fit_expr e p _ _ _ ok.0 w.0 a.0 u.0 u.1.0)
      (covers_then (covers_one a.1 u.1.0 (low g) (falls 1 0 g (omega arith) (omega arith) (omega arith), falls 1 0 f (omega arith) (omega arith) (omega arith)))
      (covers_then (fit_s may _ _ _ out ok.1 w.1 a.2 l.0 v.0 (λ c. is_reached (completes s) _ v.1.0 c))
      (covers_then (covers_if _ (completes s) a.3 v.1.0 (λ c. (let z = y (left_holds (completes s) (completes t) c) in (still z, low z))))
      (fit_t may _ _ _ out ok.2 w.2 a.4 l.1 v.1.1 (λ c. y (right_holds (completes s) (completes t) c))))))

  fit_while_loop : (at : Place) (e : TypedExpr) (s : TypedStmt) → Fits s → Fits (statement at (form.while_loop e s))
  fit_while_loop at e s fit_s may p r z out ok w a l x y =
      let u = cut (marks j) _ (expr_reach e p _ _ _) x in
      let v = cut (marks j) _ (stmt_reach s _ _ _) u.1.1.1 in
      let g = expr_first e p _ _ _ u.0 in
      let f = stmt_first s _ _ _ v.0 (λ c. is_reached (completes s) _ v.1.0 c) in
      covers_then (fit_expr e p _ _ _ ok.0 w.0 a.0 u.0 u.1.0)
      (covers_then (covers_one a.1 u.1.0 (low (y refl)) (falls 1 0 (y refl) (omega arith) (omega arith) (omega arith), one_down u.1.1.0))
      (covers_then
      (covers_one a.2 u.1.1.0 tt (record { there = _; is_there = f; high = omega arith; height = refl; open_too = omega arith; entries = refl }))
      (covers_then (fit_s may _ _ _ out ok.1 w.1 a.3 l v.0 (λ c. is_reached (completes s) _ v.1.0 c))
      (covers_if _ (completes s) a.4 v.1.0 (λ c. (still g, low g))))))

  fit_return_nothing : (at : Place) → Fits (statement at form.return_nothing)
  fit_return_nothing at may p r z out ok w a l x y = covers_one a x.0 (out w) ok

  fit_return_value : (at : Place) (e : TypedExpr) → Fits (statement at (form.return_value e))
  fit_return_value at e may p r z out ok w a l x y =
      let u = cut (marks j) _ (expr_reach e p _ _ _) x in
      covers_then (fit_expr e p _ _ _ ok.1 w.1 a.0 u.0 u.1.0) (covers_one a.1 u.1.0 (out w.0) (omega arith, ok.0))

  fit_print_int : (at : Place) (e : TypedExpr) → Fits (statement at (form.print_int e))
  fit_print_int at e may p r z out ok w a l x y =
      let u = cut (marks j) _ (expr_reach e p _ _ _) x in
      covers_then (fit_expr e p _ _ _ ok w a.0 u.0 u.1.0) (covers_one a.1 u.1.0 tt (one_down (y refl)))

  fit_print_boolean : (at : Place) (e : TypedExpr) → Fits (statement at (form.print_boolean e))
  fit_print_boolean at e may p r z out ok w a l x y =
      let u = cut (marks j) _ (expr_reach e p _ _ _) x in
      covers_then (fit_expr e p _ _ _ ok w a.0 u.0 u.1.0) (covers_one a.1 u.1.0 tt (one_down (y refl)))

  fit_print_text : (at : Place) (text : List ℕ) → Fits (statement at (form.print_text text))
  fit_print_text at text may p r z out ok w a l x y = covers_one l.stands x.0 tt (l.is_there, still (y refl))

  fit_local_regions : (at : Place) (rs : List ℕ) → Fits (statement at (form.local_regions rs))
  fit_local_regions at rs may p r z out ok w a l x y = fit_regions rs at p r z w a x (y refl)

  fit_atomic : (at : Place) (effects : List Effect) (ss : TypedStmts) → AllFit ss → Fits (statement at (form.atomic effects ss))
  fit_atomic at effects ss fit_ss may p r z out ok w a l x y =
      let u = cut (marks j) _ (stmts_reach ss (suc p) _ _) x.1 in
      let f = stmts_first ss _ _ _ u.0 (λ c. is_reached (all_complete ss) _ u.1.0 c) in
      let enters : Falls_to (marks j) (mark 0 (suc (top_stmts (suc r) ss)) z) (suc p) 0 0 1 0 = record {
        path = record { there = _; is_there = f; high = omega arith; height = refl; open_too = omega arith; entries = omega arith };
        falls = omega arith;
      } in
      let leaves : Falls_to (marks j) (mark 0 (suc r) (suc z)) (suc (after_stmts (suc p) ss)) 0 0 0 1 = record {
        path = record { there = _; is_there = y refl; high = omega arith; height = refl; open_too = omega arith; entries = omega arith };
        falls = omega arith;
      } in
      covers_then (covers_one a.0.stands x.0 tt (effects, a.0.site_is, enters))
      (covers_then (fit_ss false _ _ _ (λ c. absurd (cc)) ok w a.1 l u.0 (λ c. is_reached (all_complete ss) _ u.1.0 c))
      (covers_if _ (all_complete ss) a.2 u.1.0 (λ c. (leaves, tt))))

  fit_cobegin : (at : Place) (forking : Forking) (bs : TypedBranches) → Fits (statement at (form.cobegin forking bs))
  fit_cobegin at forking bs may p r z out ok w a l x y = fit_fork p r z at (copy_lists bs) l (copies_within _ _ bs w) a.1.joins x.0 x.1.0 (y refl)

  fit_foreach : (at : Place) (forking : Forking) (k : ℕ) (start : TypedExpr) (count : TypedExpr) (s : TypedStmt) → Fits (statement at (form.foreach forking k start count s))
  fit_foreach at forking k start count s may p r z out ok w a l x y =
      let u = cut (marks j) _ (expr_reach start p _ _ _) x in
      let v = cut (marks j) _ (expr_reach count _ _ _ _) u.1 in
      covers_then (fit_expr start p _ _ _ ok.0 w.1 a.1 u.0 (expr_first count _ _ _ _ v.0))
      (covers_then (fit_expr count _ _ _ _ ok.1 w.2 a.2 v.0 v.1.0) (fit_spread _ k r z at l w.0 a.3.joins v.1 (y refl)))

  fit_array_parts : (at : Place) (k : ℕ) (b : TypedExpr) (count : TypedExpr) (s : TypedStmt) → Fits (statement at (form.foreach_parts k (of_array b) count s))
  fit_array_parts at k b count s may p r z out ok w a l x y =
      let u = cut (marks j) _ (expr_reach b p _ _ _) x in
      let v = cut (marks j) _ (expr_reach count _ _ _ _) u.1.1.1.1 in
      let f = expr_first count _ _ _ _ v.0 in
      let m = w.0 in
      covers_then (fit_expr b p _ _ _ ok.0 w.1 a.1 u.0 u.1.0)
      (covers_then (covers_one a.2 u.1.0 tt (omega arith, one_down u.1.1.0))
      (covers_then (covers_one a.3 u.1.1.0 tt (one_up u.1.1.1.0))
      (covers_then (covers_one a.4 u.1.1.1.0 tt (omega arith, one_down f))
      (covers_then (fit_expr count _ _ _ _ ok.1 w.2 a.5 v.0 v.1.0)
      (covers_then (covers_one a.6.0 v.1.0 tt (omega arith, one_down v.1.1.0))
      (covers_then (covers_one a.6.1 v.1.1.0 tt (omega arith, one_up v.1.1.1.0))
      (covers_then (covers_one a.6.2 v.1.1.1.0 tt (one_for_one v.1.1.1.1.0))
      (covers_then (covers_one a.6.3 v.1.1.1.1.0 tt (omega arith, one_down v.1.1.1.1.1.0))
      (fit_parts _ k r z at at at w.0 a.7.0 a.7.1 l a.7.2.joins v.1.1.1.1.1 (y refl))))))))))

  fit_part_parts : (at : Place) (k : ℕ) (b : ℕ) (count : TypedExpr) (s : TypedStmt) → Fits (statement at (form.foreach_parts k (of_part b) count s))
  fit_part_parts at k b count s may p r z out ok w a l x y =
      let v = cut (marks j) _ (expr_reach count _ _ _ _) x.1.1.1.1 in
      let f = expr_first count _ _ _ _ v.0 in
      let m = w.0 in
      let n = w.1 in
      covers_then (covers_one a.1 x.0 tt (omega arith, one_up x.1.0))
      (covers_then (covers_one a.2 x.1.0 tt (omega arith, one_down x.1.1.0))
      (covers_then (covers_one a.3 x.1.1.0 tt (omega arith, one_up x.1.1.1.0))
      (covers_then (covers_one a.4 x.1.1.1.0 tt (omega arith, one_down f))
      (covers_then (fit_expr count _ _ _ _ ok.0 w.2 a.5 v.0 v.1.0)
      (covers_then (covers_one a.6 v.1.0 tt (omega arith, one_down v.1.1.0))
      (covers_then (covers_one a.7 v.1.1.0 tt (omega arith, one_up v.1.1.1.0))
      (covers_then (covers_one a.8 v.1.1.1.0 tt (omega arith, one_down v.1.1.1.1.0))
      (fit_parts _ k r z at at at w.0 a.9.0 a.9.1 l a.9.2.joins v.1.1.1.1 (y refl)))))))))

  -- none stands after one that doesn't complete
  rest : {p : ℕ} (ss : TypedStmts) (b : Bool) → IsTrue b ⊎ (ss ≡ no_stmts) → (b ≡ true → Covers p (after_stmts p ss)) → Covers p (after_stmts p ss)
  rest ss b (inl h) f = f h
  rest {p} ss b (inr h) f = subst (λ z. Covers p (after_stmts p z)) (sym h) covers_none

  fit_then : (s : TypedStmt) (ss : TypedStmts) → Fits s → AllFit ss → AllFit (more_stmts s ss)
  fit_then s ss fit_s fit_ss may p r z out ok w a l x y =
      let u = cut (marks j) _ (stmt_reach s p _ _) x in
      covers_then (fit_s may p _ _ out ok.0 w.0 a.0 l.0 u.0 (λ c. stmts_first ss _ _ _ u.1 (λ d. y (both_hold (completes s) (all_complete ss) c d))))
      (rest ss (completes s) ok.1 (λ c. fit_ss may _ _ _ out ok.2 w.1 a.1 l.1 u.1 (λ d. y (both_hold (completes s) (all_complete ss) c d))))

  mutual
    pub fit_stmt : (s : TypedStmt) → Fits s
    fit_stmt (statement at (form.declare k t is_final e)) may p r z out ok w a l x y = fit_declare at k t is_final e may p r z out ok w a l x y
    fit_stmt (statement at (form.store k e)) may p r z out ok w a l x y = fit_store at k e may p r z out ok w a l x y
    fit_stmt (statement at (form.store_field o c f e)) may p r z out ok w a l x y = fit_store_field at o c f e may p r z out ok w a l x y
    fit_stmt (statement at (form.store_element b k e)) may p r z out ok w a l x y = fit_store_element at b k e may p r z out ok w a l x y
    fit_stmt (statement at (form.store_part k b e)) may p r z out ok w a l x y = fit_store_part at k b e may p r z out ok w a l x y
    fit_stmt (statement at (form.perform e)) may p r z out ok w a l x y = fit_perform at e may p r z out ok w a l x y
    fit_stmt (statement at (form.block ss)) may p r z out ok w a l x y = fit_stmts ss may p r z out ok w a l x y
    fit_stmt (statement at (form.choice e s)) may p r z out ok w a l x y = fit_choice at e s (fit_stmt s) may p r z out ok w a l x y
    fit_stmt (statement at (form.choice_else e s t)) may p r z out ok w a l x y = fit_choice_else at e s t (fit_stmt s) (fit_stmt t) may p r z out ok w a l x y
    fit_stmt (statement at (form.while_loop e s)) may p r z out ok w a l x y = fit_while_loop at e s (fit_stmt s) may p r z out ok w a l x y
    fit_stmt (statement at form.return_nothing) may p r z out ok w a l x y = fit_return_nothing at may p r z out ok w a l x y
    fit_stmt (statement at (form.return_value e)) may p r z out ok w a l x y = fit_return_value at e may p r z out ok w a l x y
    fit_stmt (statement at (form.print_int e)) may p r z out ok w a l x y = fit_print_int at e may p r z out ok w a l x y
    fit_stmt (statement at (form.print_boolean e)) may p r z out ok w a l x y = fit_print_boolean at e may p r z out ok w a l x y
    fit_stmt (statement at (form.print_text text)) may p r z out ok w a l x y = fit_print_text at text may p r z out ok w a l x y
    fit_stmt (statement at (form.local_regions rs)) may p r z out ok w a l x y = fit_local_regions at rs may p r z out ok w a l x y
    fit_stmt (statement at (form.atomic effects ss)) may p r z out ok w a l x y = fit_atomic at effects ss (fit_stmts ss) may p r z out ok w a l x y
    fit_stmt (statement at (form.cobegin forking bs)) may p r z out ok w a l x y = fit_cobegin at forking bs may p r z out ok w a l x y
    fit_stmt (statement at (form.foreach forking k start count s)) may p r z out ok w a l x y = fit_foreach at forking k start count s may p r z out ok w a l x y
    fit_stmt (statement at (form.foreach_parts k (of_array b) count s)) may p r z out ok w a l x y = fit_array_parts at k b count s may p r z out ok w a l x y
    fit_stmt (statement at (form.foreach_parts k (of_part b) count s)) may p r z out ok w a l x y = fit_part_parts at k b count s may p r z out ok w a l x y

    pub fit_stmts : (ss : TypedStmts) → AllFit ss
    fit_stmts no_stmts may p r z out ok w a l x y = covers_none
    fit_stmts (more_stmts s ss) may p r z out ok w a l x y = fit_then s ss (fit_stmt s) (fit_stmts ss) may p r z out ok w a l x y
