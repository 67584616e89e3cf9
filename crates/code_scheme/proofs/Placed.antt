-- Generated pieces stand where the scheme says.
use Rattle.std.proofs.Common.{◌≡◌, ℕ, zero, suc, ◌+◌, Bool, true, false, List, [], ◌∷◌, refl, ap, ◌∙◌, Option, Some, None, cond, slice_get, slice_index_or}
use Rattle.lang_base.specs.declared.place.Place.{Place}
use Rattle.lang_typed.specs.Plain.{TypedExpr, typed, type_of, TypedExprs, no_exprs, more_exprs, of_array, of_part, TypedStmt, statement, TypedStmts, no_stmts, more_stmts, TypedBranches, no_branches, more_branches}
use Rattle.lang_typed.specs.Plain.{ExprForm as expr}
use Rattle.lang_typed.specs.Plain.{StmtForm as form}
use Rattle.lang_typed.specs.declared.stmt.Forking.{Forking}
use Rattle.lang_typed.specs.declared.stmt.Forking.TheVariants.{Deterministic}
use Rattle.lang_typed.specs.Resolved.{is_void}
use Rattle.lang_typed.proofs.Parts.{each_stmt, each_branch, substatements, Each, each_all}
use Rattle.code_instrs.specs.declared.instr.Instr.{Instr}
use Rattle.code_instrs.specs.declared.instr.Instr.TheVariants as i
use Rattle.code_instrs.specs.Plain.{Line, Site, fork_site, spread_site, of_branch, PlainCode, body_at}
use Rattle.code_instrs.specs.Machine.{copies_at, copies_of}
use Rattle.code_scheme.specs.Pieces.{Next, nothing, line, with_site}
use Rattle.code_scheme.specs.Scheme.{after_expr, after_exprs, after_stmt, after_stmts, expr_piece, exprs_piece, stmt_piece, stmts_piece, regions_piece, numbers, copy_lists, branches_of, spread_piece}
use Rattle.code_scheme.specs.Stands.{SitedAt, ExprAt, ExprsAt, PoppedAt, RegionsAt, first_place, BranchEnds, SpreadAt, StmtAt, StmtsAt, BranchesAt}
use Rattle.code_scheme.proofs.Built.{Nothing_asked, none_asked, Built, expr_built, exprs_built, stmt_built, stmts_built}
use Rattle.code_scheme.proofs.Pieces.{Holds, all_of, BranchStands, Far, far, next, stop, sited, texted, branched, Queued, Laid, cut, here, here_sited, here_texted, here_branched, one_line}

-- how far the code of each construct reaches
far_built : Built Nothing_asked (λ p a q n. Far p a q)
far_built = record {
  stop = λ p. stop;
  next = λ x at e h. next x at h;
  both = λ h j. far h j;
  sited = λ s e h. sited s h;
  texted = λ t h. texted t h;
  cobegin = λ k p at forking bs h. branched _ (sited _ (next _ _ (next _ _ stop)));
  foreach = λ k p at forking x start count s h. branched _ (sited _ (next _ _ (next _ _ stop)));
  foreach_parts = λ k p at x source count s h. branched _ (sited _ (next _ _ (next _ _ stop)));
}

pub expr_far : (k : Next) (p : ℕ) (e : TypedExpr) → Far p (expr_piece k p e) (after_expr p e)
expr_far = expr_built Nothing_asked (λ p a q n. Far p a q) none_asked far_built

pub exprs_far : (k : Next) (p : ℕ) (es : TypedExprs) → Far p (exprs_piece k p es) (after_exprs p es)
exprs_far = exprs_built Nothing_asked (λ p a q n. Far p a q) none_asked far_built

pub stmt_far : (k : Next) (p : ℕ) (s : TypedStmt) → Far p (stmt_piece k p s) (after_stmt p s)
stmt_far k p s = stmt_built Nothing_asked (λ p a q n. Far p a q) none_asked far_built k p s tt

pub stmts_far : (k : Next) (p : ℕ) (ss : TypedStmts) → Far p (stmts_piece k p ss) (after_stmts p ss)
stmts_far k p ss = stmts_built Nothing_asked (λ p a q n. Far p a q) none_asked far_built k p ss (each_all Nothing_asked (λ s. tt) (each_stmt ss))

get_or_is : {A : Type 0} (xs : List A) (n : ℕ) (d x : A) → slice_get xs n ≡ Some x → slice_index_or xs n d ≡ x
get_or_is [] n d x e = absurd (cc)
get_or_is (y ∷ ys) zero d x e = cc
get_or_is (y ∷ ys) (suc n) d x e = get_or_is ys n d x e

module _ (C : PlainCode) where
  site_at : {c : List Line} {k : Next} {p : ℕ} (x : ℕ → Instr) (at : Place) (s : Site) → Laid C c k p (with_site s (line (x k.site) at nothing)) →
      SitedAt C c p x at s
  site_at {c} {k} {p} x at s h = let g = here_sited C _ h in record { number = k.site; stands = (one_line c p nothing g.1).0; site_is = g.0 }

  mutual
    expr_at : (c : List Line) (k : Next) (p : ℕ) (e : TypedExpr) → Laid C c k p (expr_piece k p e) → ExprAt C c p e
    expr_at c k p (typed at t (expr.int n)) h = (here C h).0
    expr_at c k p (typed at t (expr.boolean b)) h = (here C h).0
    expr_at c k p (typed at t expr.null) h = (here C h).0
    expr_at c k p (typed at t (expr.local x)) h = (here C h).0
    expr_at c k p (typed at t (expr.field e d f)) h = let x = cut C (expr_far k p e) h in (expr_at c k p e x.0, (here C x.1).0)
    expr_at c k p (typed at t (expr.element a j)) h =
        let x = cut C (expr_far k p a) h in let y = cut C (expr_far _ _ j) x.1 in (expr_at c k p a x.0, expr_at c _ _ j y.0, (here C y.1).0)
    expr_at c k p (typed at t (expr.array_length a)) h = let x = cut C (expr_far k p a) h in (expr_at c k p a x.0, (here C x.1).0)
    expr_at c k p (typed at t (expr.call e d r regions es)) h =
        let x = cut C (expr_far k p e) h in let y = cut C (exprs_far _ _ es) x.1 in (expr_at c k p e x.0, exprs_at c _ _ es y.0, site_at i.Call at _ y.1)
    expr_at c k p (typed at t (expr.create es)) h = let x = cut C (exprs_far k p es) h in (exprs_at c k p es x.0, site_at i.New at _ x.1)
    expr_at c k p (typed at t (expr.create_array n)) h = let x = cut C (expr_far k p n) h in (expr_at c k p n x.0, site_at i.Array at _ x.1)
    expr_at c k p (typed at t (expr.unary o e)) h = let x = cut C (expr_far k p e) h in (expr_at c k p e x.0, (here C x.1).0)
    expr_at c k p (typed at t (expr.binary o a b)) h =
        let x = cut C (expr_far k p a) h in let y = cut C (expr_far _ _ b) x.1 in (expr_at c k p a x.0, expr_at c _ _ b y.0, (here C y.1).0)
    expr_at c k p (typed at t (expr.both a b)) h =
        let x = cut C (expr_far k p a) h in let u = here C x.1 in let y = cut C (expr_far _ _ b) u.1 in let j = here C y.1 in
        (expr_at c k p a x.0, u.0, expr_at c _ _ b y.0, j.0, (here C j.1).0)
    expr_at c k p (typed at t (expr.either a b)) h =
        let x = cut C (expr_far k p a) h in let u = here C x.1 in let v = here C u.1 in let j = here C v.1 in
        (expr_at c k p a x.0, u.0, v.0, j.0, expr_at c _ _ b j.1)
    expr_at c k p (typed at t (expr.part_length x)) h = (here C h).0
    expr_at c k p (typed at t (expr.part_element x j)) h = let y = cut C (expr_far k p j) h in let u = here C y.1 in (expr_at c k p j y.0, u.0, (here C u.1).0)

    exprs_at : (c : List Line) (k : Next) (p : ℕ) (es : TypedExprs) → Laid C c k p (exprs_piece k p es) → ExprsAt C c p es
    exprs_at c k p no_exprs h = tt
    exprs_at c k p (more_exprs e es) h = let x = cut C (expr_far k p e) h in (expr_at c k p e x.0, exprs_at c _ _ es x.1)

  popped_at : (c : List Line) (k : Next) (p : ℕ) (z : Bool) (at : Place) → Laid C c k p (cond z nothing (line i.Pop at nothing)) → PoppedAt C c p z at
  popped_at c k p true at h = tt
  popped_at c k p false at h = (here C h).0

  regions_at : (c : List Line) (k : Next) (p : ℕ) (at : Place) (rs : List ℕ) → Laid C c k p (regions_piece at rs) → RegionsAt C c p at rs
  regions_at c k p at [] h = tt
  regions_at c k p at (r ∷ rs) h = let x = here C h in (x.0, regions_at c k (suc p) at rs x.1)

  -- the branches of a fork, from the n-th on
  branches_at : (forking : Forking) (site : ℕ) (js : List ℕ) (copies : List (List ℕ)) → slice_get C.sites site ≡ Some (fork_site forking js copies) →
      (bs : TypedBranches) (n j : ℕ) → Holds copies n (copy_lists bs) → Queued C j (branches_of site n bs) → BranchesAt C bs (numbers j bs)
  branches_at forking site js copies e no_branches n j h q = refl
  branches_at forking site js copies e (more_branches own s bs) n j h q =
      let g = q.0 in (
        j,
        numbers (suc j) bs,
        refl,
        (
          g.stmt,
          record {
            place = g.place;
            stands = g.ends;
            gives = ap (λ t. copies_of C t) g.title ∙
                (ap (λ s. copies_at s n) e ∙ get_or_is copies n [] own h.0);
          },
        ),
        branches_at forking site js copies e bs (suc n) (suc j) h.1 q.1,
      )

  -- a spread, and the body of its branches
  spread_at : (c : List Line) (k : Next) (p : ℕ) (at : Place) (forking : Forking) (x : ℕ) (takes : Option ℕ) (s : TypedStmt) →
      Laid C c k p (spread_piece k at forking x takes s) →
      SpreadAt C c p at (spread_site forking k.body x) × BranchStands C k.body (record { title = of_branch k.site 0; takes = takes; stmt = s }) × BranchEnds C
      (body_at C k.body) (after_stmt (first_place takes) s) []
  spread_at c k p at forking x takes s h =
      let g = here_branched C _ _ h in
      let a = one_line c p _ g.2 in
      let b = one_line c (suc p) nothing a.1 in (
        record { spreads = record { number = k.site; stands = a.0; site_is = g.1 }; joins = b.0 },
        g.0.0,
        record {
          place = g.0.0.place;
          stands =
              g.0.0.ends;
          gives = ap (λ t. copies_of C t) g.0.0.title ∙ ap (λ s. copies_at s 0) g.1;
        },
      )

  mutual
    pub stmt_at : (c : List Line) (k : Next) (p : ℕ) (s : TypedStmt) → Laid C c k p (stmt_piece k p s) → StmtAt C c p s
    stmt_at c k p (statement at (form.declare x t is_final e)) h = let y = cut C (expr_far k p e) h in (expr_at c k p e y.0, (here C y.1).0)
    stmt_at c k p (statement at (form.store x e)) h = let y = cut C (expr_far k p e) h in (expr_at c k p e y.0, (here C y.1).0)
    stmt_at c k p (statement at (form.store_field o d f e)) h =
        let x = cut C (expr_far k p o) h in let y = cut C (expr_far _ _ e) x.1 in (expr_at c k p o x.0, expr_at c _ _ e y.0, (here C y.1).0)
    stmt_at c k p (statement at (form.store_element a j e)) h =
        let x = cut C (expr_far k p a) h in let y = cut C (expr_far _ _ j) x.1 in let z = cut C (expr_far _ _ e) y.1 in
        (expr_at c k p a x.0, expr_at c _ _ j y.0, expr_at c _ _ e z.0, (here C z.1).0)
    stmt_at c k p (statement at (form.store_part v j e)) h =
        let x = cut C (expr_far k p j) h in let y = cut C (expr_far _ _ e) x.1 in let u = here C y.1 in
        (expr_at c k p j x.0, expr_at c _ _ e y.0, u.0, (here C u.1).0)
    stmt_at c k p (statement at (form.perform e)) h = let x = cut C (expr_far k p e) h in (expr_at c k p e x.0, popped_at c _ _ (is_void (type_of e)) at x.1)
    stmt_at c k p (statement at (form.block ss)) h = stmts_at c k p ss h
    stmt_at c k p (statement at (form.choice e s)) h =
        let x = cut C (expr_far k p e) h in let u = here C x.1 in (expr_at c k p e x.0, u.0, stmt_at c _ _ s u.1)
    stmt_at c k p (statement at (form.choice_else e s t)) h =
        let x = cut C (expr_far k p e) h in let u = here C x.1 in let y = cut C (stmt_far _ _ s) u.1 in let j = here C y.1 in
        (expr_at c k p e x.0, u.0, stmt_at c _ _ s y.0, j.0, stmt_at c _ _ t j.1)
    stmt_at c k p (statement at (form.while_loop e s)) h =
        let x = cut C (expr_far k p e) h in let u = here C x.1 in let v = here C u.1 in let y = cut C (stmt_far _ _ s) v.1 in
        (expr_at c k p e x.0, u.0, v.0, stmt_at c _ _ s y.0, (here C y.1).0)
    stmt_at c k p (statement at form.return_nothing) h = (here C h).0
    stmt_at c k p (statement at (form.return_value e)) h = let x = cut C (expr_far k p e) h in (expr_at c k p e x.0, (here C x.1).0)
    stmt_at c k p (statement at (form.print_int e)) h = let x = cut C (expr_far k p e) h in (expr_at c k p e x.0, (here C x.1).0)
    stmt_at c k p (statement at (form.print_boolean e)) h = let x = cut C (expr_far k p e) h in (expr_at c k p e x.0, (here C x.1).0)
    stmt_at c k p (statement at (form.print_text text)) h =
        let g = here_texted C _ h in (k.text, (one_line c p nothing g.1).0, get_or_is C.texts k.text [] text g.0)
    stmt_at c k p (statement at (form.local_regions rs)) h = regions_at c k p at rs h
    stmt_at c k p (statement at (form.atomic effects ss)) h =
        let x = cut C (sited _ (next _ _ stop)) h in let y = cut C (stmts_far _ _ ss) x.1 in
        (site_at i.Enter at _ x.0, stmts_at c _ _ ss y.0, (here C y.1).0)
    stmt_at c k p (statement at (form.cobegin forking bs)) h =
        let g = here_branched C _ _ h in let a = one_line c p _ g.2 in let b = one_line c (suc p) nothing a.1 in (
          numbers k.body bs,
          record {
            forks = record { number = k.site; stands = a.0; site_is = g.1 };
            joins =
                b.0;
          },
          branches_at forking k.site (numbers k.body bs) (copy_lists bs) g.1 bs 0 k.body (all_of (copy_lists bs)) g.0,
        )
    stmt_at c k p (statement at (form.foreach forking x start count s)) h =
        let a = cut C (expr_far k p start) h in let b = cut C (expr_far _ _ count) a.1 in let g = spread_at c _ _ at forking x None s b.1 in
        (_, expr_at c k p start a.0, expr_at c _ _ count b.0, g.0, (g.1.stmt, g.2))
    stmt_at c k p (statement at (form.foreach_parts x (of_array a) count s)) h =
        let u = cut C (expr_far k p a) h in let l1 = here C u.1 in let l2 = here C l1.1 in let l3 = here C l2.1 in
        let v = cut C (expr_far _ _ count) l3.1 in let l4 = here C v.1 in let l5 = here C l4.1 in let l6 = here C l5.1 in let l7 = here C l6.1 in
        let l8 = here C l7.1 in let l9 = here C l8.1 in let g = spread_at c _ _ at Deterministic (x + 4) (Some x) s l9.1 in
        (_, expr_at c k p a u.0, l1.0, l2.0, l3.0, expr_at c _ _ count v.0, (l4.0, l5.0, l6.0, l7.0), (l8.0, l9.0, g.0), (g.1.begins, g.1.stmt, g.2))
    stmt_at c k p (statement at (form.foreach_parts x (of_part y) count s)) h =
        let l1 = here C h in let l2 = here C l1.1 in let l3 = here C l2.1 in let l4 = here C l3.1 in
        let v = cut C (expr_far _ _ count) l4.1 in let l5 = here C v.1 in let l6 = here C l5.1 in let l7 = here C l6.1 in
        let l8 = here C l7.1 in let l9 = here C l8.1 in let g = spread_at c _ _ at Deterministic (x + 4) (Some x) s l9.1 in
        (_, l1.0, l2.0, l3.0, l4.0, expr_at c _ _ count v.0, l5.0, l6.0, l7.0, (l8.0, l9.0, g.0), (g.1.begins, g.1.stmt, g.2))

    pub stmts_at : (c : List Line) (k : Next) (p : ℕ) (ss : TypedStmts) → Laid C c k p (stmts_piece k p ss) → StmtsAt C c p ss
    stmts_at c k p no_stmts h = tt
    stmts_at c k p (more_stmts s ss) h = let x = cut C (stmt_far k p s) h in (stmt_at c k p s x.0, stmts_at c _ _ ss x.1)

  -- the parts of a statement are somewhere in the code too
  abbrev pub Somewhere : TypedStmt → Type 0
  Somewhere s = (at : List Line × ℕ) × StmtAt C at.0 at.1 s

  pub each_somewhere : (c : List Line) (p : ℕ) (ss : TypedStmts) → StmtsAt C c p ss → Each Somewhere (each_stmt ss)
  each_somewhere c p no_stmts h = tt
  each_somewhere c p (more_stmts s ss) h = (((c, p), h.0), each_somewhere c _ ss h.1)

  branches_somewhere : (bs : TypedBranches) (js : List ℕ) → BranchesAt C bs js → Each Somewhere (each_branch bs)
  branches_somewhere no_branches js h = tt
  branches_somewhere (more_branches copies s bs) js h = (((_, _), h.3.0), branches_somewhere bs h.1 h.4)

  pub parts_somewhere : (at : List Line × ℕ) (s : TypedStmt) → StmtAt C at.0 at.1 s → Each Somewhere (substatements s)
  parts_somewhere i (statement at (form.block ss)) h = each_somewhere _ _ ss h
  parts_somewhere i (statement at (form.choice e s)) h = (((_, _), h.2), tt)
  parts_somewhere i (statement at (form.choice_else e s t)) h = (((_, _), h.2), (((_, _), h.4), tt))
  parts_somewhere i (statement at (form.while_loop e s)) h = (((_, _), h.3), tt)
  parts_somewhere i (statement at (form.atomic effects ss)) h = each_somewhere _ _ ss h.1
  parts_somewhere i (statement at (form.cobegin forking bs)) h = branches_somewhere bs h.0 h.2
  parts_somewhere i (statement at (form.foreach forking x start count s)) h = (((_, _), h.4.0), tt)
  parts_somewhere i (statement at (form.foreach_parts x (of_array a) count s)) h = (((_, _), h.8.1), tt)
  parts_somewhere i (statement at (form.foreach_parts x (of_part y) count s)) h = (((_, _), h.10.1), tt)
  parts_somewhere i s h = tt
