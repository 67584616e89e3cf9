-- How statements are emitted: a lemma a construct that needs more than its parts.
use Rattle.std.proofs.Common.{◌≡◌, ◌∙◌, ℕ, suc, ◌+◌, ◌<◌, List, [], ◌∷◌, ◌++◌, map, length, refl, sym, ap, ap₂, subst, arith, cond, true, false, pos, Option, Some, None}
use Rattle.lang_base.specs.declared.place.Place.{Place}
use Rattle.lang_base.specs.declared.effect.Effect.{Effect}
use Rattle.lang_typed.specs.declared.ids.LocalRegion.{LocalRegion}
use Rattle.lang_typed.specs.declared.stmt.Branch.{Branch as DeclaredBranch}
use Rattle.lang_typed.specs.declared.stmt.Forking.{Forking}
use Rattle.lang_typed.specs.declared.stmt.Forking.TheVariants.{Deterministic}
use Rattle.lang_typed.specs.declared.stmt.Stmt.{Stmt}
use Rattle.lang_typed.specs.Plain.{TypedExpr, TypedStmt, TypedStmts, TypedBranches, statement, type_of, plain_stmt, stmts_of, branches_of, of_array, of_part}
use Rattle.lang_typed.specs.Plain.{StmtForm as form}
use Rattle.lang_typed.specs.Resolved.{is_void}
use Rattle.code_instrs.specs.declared.instr.Instr.{Instr}
use Rattle.code_instrs.specs.declared.instr.Instr.TheVariants as i
use Rattle.code_instrs.specs.Plain.{Site, of_branch, fork_site, spread_site, block_site}
use Rattle.code_scheme.specs.Pieces.{Branch, Piece, Next, past, nothing, line, with_site, with_branches, beside, then_next}
use Rattle.code_scheme.specs.Scheme.{after_expr, after_stmt, after_stmts, stmt_piece, stmts_piece, expr_piece, regions_piece, spread_piece, numbers, copy_lists}
use Rattle.code_scheme.specs.Scheme.{branches_of as queue_of}
use Rattle.code_scheme.proofs.Pieces.{Far, next, stop, sited}
use Rattle.code_scheme.proofs.Placed.{expr_far, stmt_far, stmts_far}
use Rattle.code_compile.specs.Emitted.{Emitted, next_of, after, Emits, patched}
use Rattle.code_compile.specs.Walked.{plain_branch, fork_piece, queued_piece, parts_piece}
use Rattle.code_compile.proofs.Emits.{same_piece, beside_nothing, emits_as, emits_then, emits_line, emits_patched, emits_length, emits_grow, one_longer}
use Rattle.code_compile.proofs.Operands.{then_expr}

pub then_stmt : {s t u : Emitted} {g : Next → ℕ → Piece} (a : TypedStmt) → Emits s (λ k p. stmt_piece k p a) t → Emits t g u →
    Emits s (λ k p. then_next k (stmt_piece k p a) (λ k. g k (after_stmt p a))) u
then_stmt a h j = emits_then (λ p. after_stmt p a) (λ k p. stmt_far k p a) h j

pub then_stmts : {s t u : Emitted} {g : Next → ℕ → Piece} (all : TypedStmts) → Emits s (λ k p. stmts_piece k p all) t → Emits t g u →
    Emits s (λ k p. then_next k (stmts_piece k p all) (λ k. g k (after_stmts p all))) u
then_stmts all h j = emits_then (λ p. after_stmts p all) (λ k p. stmts_far k p all) h j

-- what is emitted of a form is emitted of the statement that has it
pub stmt_is : {s t : Emitted} {x y : TypedStmt} → x ≡ y → Emits s (λ k p. stmt_piece k p y) t → Emits s (λ k p. stmt_piece k p x) t
stmt_is {s} {t} is h = subst (λ z. Emits s (λ k p. stmt_piece k p z) t) (sym is) h

-- the first of several
pub one_more : (s t : Emitted) (e : Stmt) (all rest : List Stmt) → all ≡ e ∷ rest → Emits s (λ k p. stmt_piece k p (plain_stmt e)) t →
    after t (λ k p. stmts_piece k p (stmts_of (map plain_stmt rest))) ≡ after s (λ k p. stmts_piece k p (stmts_of (map plain_stmt all)))
one_more s t e all rest is h =
    let u : Emitted = after t (λ k p. stmts_piece k p (stmts_of (map plain_stmt rest))) in
    let j : Emits t (λ k p. stmts_piece k p (stmts_of (map plain_stmt rest))) u = record { is = refl } in
    (then_stmt (plain_stmt e) h j).is ∙ ap (λ xs. after s (λ k p. stmts_piece k p (stmts_of (map plain_stmt xs)))) (sym is)

pub none_more : (s : Emitted) (all : List Stmt) → all ≡ [] → after s (λ k p. stmts_piece k p (stmts_of (map plain_stmt all))) ≡ s
none_more s all is =
    ap (λ xs. after s (λ k p. stmts_piece k p (stmts_of (map plain_stmt xs)))) is ∙ ap (λ a. record s { piece = a }) (beside_nothing s.piece)

pub choice_emitted : (s s1 s2 s3 u : Emitted) (at : Place) (skip : ℕ) (e : TypedExpr) (a : TypedStmt) →
    Emits s (λ k p. expr_piece k p e) s1 → skip ≡ length s1.piece.lines → Emits s1 (λ k p. line (i.Unless 0) at nothing) s2 →
    Emits s2 (λ k p. stmt_piece k p a) s3 → u ≡ patched s3 skip (record { instr = i.Unless (length s3.piece.lines); place = at }) →
    Emits s (λ k p. stmt_piece k p (statement at (form.choice e a))) u
choice_emitted s s1 s2 s3 u at skip e a h0 is h1 h2 closed =
    let p : ℕ = length s.piece.lines in
    let l1 : length s1.piece.lines ≡ after_expr p e = emits_length h0 (expr_far _ _ e) in
    let l2 : length s2.piece.lines ≡ suc (after_expr p e) = one_longer _ at h1 ∙ ap suc l1 in
    let l3 : length s3.piece.lines ≡ after_stmt (suc (after_expr p e)) a = emits_length h2 (stmt_far _ _ a) ∙ ap (λ q. after_stmt q a) l2 in
    let e1 = emits_patched _ (i.Unless 0) (i.Unless (length s3.piece.lines)) at (emits_line (i.Unless 0) at h1 h2) in
    let done = emits_as (λ k p. stmt_piece k p (statement at (form.choice e a)))
    (ap (λ n. then_next (next_of s) (expr_piece (next_of s) p e) (λ k. line (i.Unless n) at (stmt_piece k (suc (after_expr p e)) a))) l3)
    (then_expr e h0 e1) in
    record { is = closed ∙ ap (λ n. patched s3 n (record { instr = i.Unless (length s3.piece.lines); place = at })) is ∙ done.is }

pub choice_else_emitted : (s s1 s2 s3 s4 s5 t u : Emitted) (at : Place) (skip jump start : ℕ) (e : TypedExpr) (a b : TypedStmt) →
    Emits s (λ k p. expr_piece k p e) s1 → skip ≡ length s1.piece.lines → Emits s1 (λ k p. line (i.Unless 0) at nothing) s2 →
    Emits s2 (λ k p. stmt_piece k p a) s3 → jump ≡ length s3.piece.lines → Emits s3 (λ k p. line (i.Jump 0) at nothing) s4 → start ≡ length s4.piece.lines →
    Emits s4 (λ k p. stmt_piece k p b) s5 → t ≡ patched s5 jump (record { instr = i.Jump (length s5.piece.lines); place = at }) →
    u ≡ patched t skip (record { instr = i.Unless start; place = at }) →
    Emits s (λ k p. stmt_piece k p (statement at (form.choice_else e a b))) u
choice_else_emitted s s1 s2 s3 s4 s5 t u at skip jump start e a b h0 at_skip h1 h2 at_jump h3 at_start h4 te ue =
    let p : ℕ = length s.piece.lines in
    let l1 : length s1.piece.lines ≡ after_expr p e = emits_length h0 (expr_far _ _ e) in
    let l2 : length s2.piece.lines ≡ suc (after_expr p e) = one_longer _ at h1 ∙ ap suc l1 in
    let l3 : length s3.piece.lines ≡ after_stmt (suc (after_expr p e)) a = emits_length h2 (stmt_far _ _ a) ∙ ap (λ q. after_stmt q a) l2 in
    let l4 : length s4.piece.lines ≡ suc (after_stmt (suc (after_expr p e)) a) = one_longer _ at h3 ∙ ap suc l3 in
    let l5 : length s5.piece.lines ≡ after_stmt (suc (after_stmt (suc (after_expr p e)) a)) b = emits_length h4 (stmt_far _ _ b) ∙ ap (λ q. after_stmt q b) l4 in
    let e2 = emits_patched (λ k p. stmt_piece k (suc p) b) (i.Jump 0) (i.Jump (length s5.piece.lines)) at (emits_line (i.Jump 0) at h3 h4) in
    let e1 = emits_patched _ (i.Unless 0) (i.Unless start) at (emits_line (i.Unless 0) at h1 (then_stmt a h2 e2)) in
    let done = emits_as (λ k p. stmt_piece k p (statement at (form.choice_else e a b)))
    (ap₂ (λ n m. then_next (next_of s) (expr_piece (next_of s) p e) (λ k. line (i.Unless n) at
    (then_next k (stmt_piece k (suc (after_expr p e)) a) (λ k. line (i.Jump m) at (stmt_piece k (suc (after_stmt (suc (after_expr p e)) a)) b)))))
    (at_start ∙ l4) l5)
    (then_expr e h0 e1) in
    record {
      is = ue ∙ ap₂ (λ z n. patched z n (record { instr = i.Unless start; place = at }))
          (te ∙ ap (λ n. patched s5 n (record { instr = i.Jump (length s5.piece.lines); place = at })) at_jump) at_skip ∙ done.is;
    }

pub while_emitted : (s s1 s2 s3 s4 s5 u : Emitted) (at : Place) (start skip : ℕ) (e : TypedExpr) (a : TypedStmt) → start ≡ length s.piece.lines →
    Emits s (λ k p. expr_piece k p e) s1 → skip ≡ length s1.piece.lines → Emits s1 (λ k p. line (i.Unless 0) at nothing) s2 →
    Emits s2 (λ k p. line i.Turn at nothing) s3 → Emits s3 (λ k p. stmt_piece k p a) s4 → Emits s4 (λ k p. line (i.Jump start) at nothing) s5 →
    u ≡ patched s5 skip (record { instr = i.Unless (length s5.piece.lines); place = at }) →
    Emits s (λ k p. stmt_piece k p (statement at (form.while_loop e a))) u
while_emitted s s1 s2 s3 s4 s5 u at start skip e a at_start h0 at_skip h1 h2 h3 h4 ue =
    let p : ℕ = length s.piece.lines in
    let l1 : length s1.piece.lines ≡ after_expr p e = emits_length h0 (expr_far _ _ e) in
    let l2 : length s2.piece.lines ≡ suc (after_expr p e) = one_longer _ at h1 ∙ ap suc l1 in
    let l3 : length s3.piece.lines ≡ suc (suc (after_expr p e)) = one_longer _ at h2 ∙ ap suc l2 in
    let l4 : length s4.piece.lines ≡ after_stmt (suc (suc (after_expr p e))) a = emits_length h3 (stmt_far _ _ a) ∙ ap (λ q. after_stmt q a) l3 in
    let l5 : length s5.piece.lines ≡ suc (after_stmt (suc (suc (after_expr p e))) a) = one_longer _ at h4 ∙ ap suc l4 in
    let e1 = emits_patched _ (i.Unless 0) (i.Unless (length s5.piece.lines)) at
    (emits_line (i.Unless 0) at h1 (emits_line i.Turn at h2 (then_stmt a h3 h4))) in
    let done = emits_as (λ k p. stmt_piece k p (statement at (form.while_loop e a)))
    (ap₂ (λ n m. then_next (next_of s) (expr_piece (next_of s) p e) (λ k. line (i.Unless n) at (line i.Turn at
    (then_next k (stmt_piece k (suc (suc (after_expr p e))) a) (λ k. line (i.Jump m) at nothing))))) l5 at_start)
    (then_expr e h0 e1) in
    record { is = ue ∙ ap (λ n. patched s5 n (record { instr = i.Unless (length s5.piece.lines); place = at })) at_skip ∙ done.is }

pub atomic_emitted : (s s1 s2 s3 : Emitted) (at : Place) (effects : List Effect) (all : TypedStmts) →
    Emits s (λ k p. with_site (block_site effects) (line (i.Enter k.site) at nothing)) s1 → Emits s1 (λ k p. stmts_piece k p all) s2 →
    Emits s2 (λ k p. line i.Exit at nothing) s3 → Emits s (λ k p. stmt_piece k p (statement at (form.atomic effects all))) s3
atomic_emitted s s1 s2 s3 at effects all h0 h1 h2 =
    emits_then (λ p. suc p) (λ k p. sited _ (next _ _ stop)) h0 (then_stmts all h1 h2)

-- a site, a line, and a join after it
joined_piece : (s : Site) (x : Instr) (at : Place) → beside (with_site s (line x at nothing)) (line i.Join at nothing) ≡ with_site s (line x at (line i.Join at nothing))
unfolding beside with_site line
joined_piece s x at = refl

append_nil_branches : (bs : List Branch) → bs ++ [] ≡ bs
append_nil_branches [] = refl
append_nil_branches (b ∷ bs) = ap (λ xs. b ∷ xs) (append_nil_branches bs)

queued_first : (bs : List Branch) (s : Site) (x : Instr) (at : Place) →
    beside (with_branches bs nothing) (with_site s (line x at (line i.Join at nothing))) ≡ with_branches bs (with_site s (line x at (line i.Join at nothing)))
unfolding beside with_site with_branches line
queued_first bs s x at = same_piece _ _ refl refl refl (append_nil_branches bs)

site_after : (k : Next) (bs : List Branch) → (past k (with_branches bs nothing)).site ≡ k.site
unfolding with_branches
site_after k bs = omega arith

far_branches : (p : ℕ) (bs : List Branch) → Far p (with_branches bs nothing) p
unfolding with_branches
far_branches p bs = record { is = omega arith }

-- branches that wait, and the instruction that starts them
pub branching : (s s1 s2 s3 : Emitted) (at : Place) (x : ℕ → Instr) (bs : ℕ → List Branch) (site : Site) →
    Emits s (λ k p. with_branches (bs k.site) nothing) s1 → Emits s1 (λ k p. with_site site (line (x k.site) at nothing)) s2 →
    Emits s2 (λ k p. line i.Join at nothing) s3 →
    Emits s (λ k p. with_branches (bs k.site) (with_site site (line (x k.site) at (line i.Join at nothing)))) s3
branching s s1 s2 s3 at x bs site h0 h1 h2 =
    let inner : Emits s1 (λ k p. beside (with_site site (line (x k.site) at nothing)) (line i.Join at nothing)) s3 =
    emits_then (λ p. suc p) (λ k p. sited _ (next _ _ stop)) h1 h2 in
    let both : Emits s (λ k p. beside (with_branches (bs k.site) nothing) (beside (with_site site (line (x (past k (with_branches (bs k.site) nothing)).site) at nothing)) (line i.Join at nothing))) s3 =
    emits_then (λ p. p) (λ k p. far_branches p _) h0 inner in
    emits_as (λ k p. with_branches (bs k.site) (with_site site (line (x k.site) at (line i.Join at nothing))))
    (let k : Next = next_of s in
    ap (λ n. beside (with_branches (bs k.site) nothing) (beside (with_site site (line (x n) at nothing)) (line i.Join at nothing))) (site_after k (bs k.site))
    ∙ ap (λ a. beside (with_branches (bs k.site) nothing) a) (joined_piece site (x k.site) at) ∙ queued_first (bs k.site) site (x k.site) at) both

pub spread_emitted : (s s1 s2 s3 : Emitted) (at : Place) (forking : Forking) (x number : ℕ) (takes : Option ℕ) (a : TypedStmt) → number ≡ (next_of s).body →
    Emits s (λ k p. with_branches (record { title = of_branch k.site 0; takes = takes; stmt = a } ∷ []) nothing) s1 →
    Emits s1 (λ k p. with_site (spread_site forking number x) (line (i.Spread k.site) at nothing)) s2 → Emits s2 (λ k p. line i.Join at nothing) s3 →
    Emits s (λ k p. spread_piece k at forking x takes a) s3
spread_emitted s s1 s2 s3 at forking x number takes a is h0 h1 h2 =
    emits_as (λ k p. spread_piece k at forking x takes a)
    (ap (λ n. with_branches (record { title = of_branch (next_of s).site 0; takes = takes; stmt = a } ∷ [])
    (with_site (spread_site forking n x) (line (i.Spread (next_of s).site) at (line i.Join at nothing)))) is)
    (branching s s1 s2 s3 at (λ n. i.Spread n) (λ n. record { title = of_branch n 0; takes = takes; stmt = a } ∷ []) (spread_site forking number x) h0 h1 h2)

pub fork_emitted : (s s1 s2 s3 : Emitted) (at : Place) (forking : Forking) (first : ℕ) (bodies : List ℕ) (copies : List (List ℕ)) (bs : TypedBranches) →
    first ≡ (next_of s).body → bodies ≡ numbers first bs → copies ≡ copy_lists bs → Emits s (λ k p. queued_piece k.site 0 bs) s1 →
    Emits s1 (λ k p. with_site (fork_site forking bodies copies) (line (i.Fork k.site) at nothing)) s2 → Emits s2 (λ k p. line i.Join at nothing) s3 →
    Emits s (λ k p. fork_piece k at forking bs) s3
fork_emitted s s1 s2 s3 at forking first bodies copies bs is numbered copied h0 h1 h2 =
    emits_as (λ k p. fork_piece k at forking bs)
    (ap₂ (λ n c. with_branches (queue_of (next_of s).site 0 bs) (with_site (fork_site forking n c) (line (i.Fork (next_of s).site) at (line i.Join at nothing))))
    (numbered ∙ ap (λ n. numbers n bs) is) copied)
    (branching s s1 s2 s3 at (λ n. i.Fork n) (λ n. queue_of n 0 bs) (fork_site forking bodies copies) h0 h1 h2)

two_queued : (b : Branch) (bs : List Branch) → beside (with_branches (b ∷ []) nothing) (with_branches bs nothing) ≡ with_branches (b ∷ bs) nothing
unfolding beside with_branches
two_queued b bs = refl

pub one_queued : (s t : Emitted) (b : DeclaredBranch) (all rest : List DeclaredBranch) (n : ℕ) → all ≡ b ∷ rest →
    Emits s (λ k p. with_branches (record { title = of_branch k.site n; takes = None; stmt = plain_stmt b.body } ∷ []) nothing) t →
    after t (λ k p. queued_piece k.site (n + 1) (branches_of (map plain_branch rest))) ≡ after s (λ k p. queued_piece k.site n (branches_of (map plain_branch all)))
one_queued s t b all rest n is h =
    let u : Emitted = after t (λ k p. queued_piece k.site (n + 1) (branches_of (map plain_branch rest))) in
    let j : Emits t (λ k p. queued_piece k.site (n + 1) (branches_of (map plain_branch rest))) u = record { is = refl } in
    let both = emits_then (λ p. p) (λ k p. far_branches p _) h j in
    let whole = emits_as (λ k p. queued_piece k.site n (branches_of (map plain_branch (b ∷ rest))))
    (let k : Next = next_of s in let one : Branch = record { title = of_branch k.site n; takes = None; stmt = plain_stmt b.body } in
    ap₂ (λ m q. beside (with_branches (one ∷ []) nothing) (with_branches (queue_of m q (branches_of (map plain_branch rest))) nothing)) (site_after k (one ∷ [])) (omega arith)
    ∙ two_queued one (queue_of k.site (suc n) (branches_of (map plain_branch rest)))) both in
    whole.is ∙ ap (λ xs. after s (λ k p. queued_piece k.site n (branches_of (map plain_branch xs)))) (sym is)

empty_queue : (a : Piece) → beside a (with_branches [] nothing) ≡ a
unfolding with_branches
empty_queue a = beside_nothing a

pub none_queued : (s : Emitted) (all : List DeclaredBranch) (n : ℕ) → all ≡ [] → after s (λ k p. queued_piece k.site n (branches_of (map plain_branch all))) ≡ s
none_queued s all n is =
    ap (λ xs. after s (λ k p. queued_piece k.site n (branches_of (map plain_branch xs)))) is ∙ ap (λ a. record s { piece = a }) (empty_queue s.piece)

pub one_region : (s t : Emitted) (at : Place) (r : LocalRegion) (all rest : List LocalRegion) → all ≡ r ∷ rest → Emits s (λ k p. line (i.Region r.number) at nothing) t →
    after t (λ k p. regions_piece at (map (λ z. z.number) rest)) ≡ after s (λ k p. regions_piece at (map (λ z. z.number) all))
one_region s t at r all rest is h =
    let u : Emitted = after t (λ k p. regions_piece at (map (λ z. z.number) rest)) in
    let j : Emits t (λ k p. regions_piece at (map (λ z. z.number) rest)) u = record { is = refl } in
    (emits_line (i.Region r.number) at h j).is ∙ ap (λ xs. after s (λ k p. regions_piece at (map (λ z. z.number) xs))) (sym is)

pub no_region : (s : Emitted) (at : Place) (all : List LocalRegion) → all ≡ [] → after s (λ k p. regions_piece at (map (λ z. z.number) all)) ≡ s
no_region s at all is =
    ap (λ xs. after s (λ k p. regions_piece at (map (λ z. z.number) xs))) is ∙ ap (λ a. record s { piece = a }) (beside_nothing s.piece)

pub store_emitted : (s s1 s2 s3 : Emitted) (at : Place) (c f : ℕ) (o e : TypedExpr) → Emits s (λ k p. expr_piece k p o) s1 → Emits s1 (λ k p. expr_piece k p e) s2 →
    Emits s2 (λ k p. line (i.Put f) at nothing) s3 → Emits s (λ k p. stmt_piece k p (statement at (form.store_field o c f e))) s3
store_emitted s s1 s2 s3 at c f o e h0 h1 h2 = then_expr o h0 (then_expr e h1 h2)

pub element_emitted : (s s1 s2 s3 s4 : Emitted) (at : Place) (a j e : TypedExpr) → Emits s (λ k p. expr_piece k p a) s1 → Emits s1 (λ k p. expr_piece k p j) s2 →
    Emits s2 (λ k p. expr_piece k p e) s3 → Emits s3 (λ k p. line i.PutElem at nothing) s4 → Emits s (λ k p. stmt_piece k p (statement at (form.store_element a j e))) s4
element_emitted s s1 s2 s3 s4 at a j e h0 h1 h2 h3 = then_expr a h0 (then_expr j h1 (then_expr e h2 h3))

pub part_emitted : (s s1 s2 s3 s4 : Emitted) (at : Place) (x : ℕ) (j e : TypedExpr) → Emits s (λ k p. expr_piece k p j) s1 → Emits s1 (λ k p. expr_piece k p e) s2 →
    Emits s2 (λ k p. line (i.InParts x) at nothing) s3 → Emits s3 (λ k p. line i.PutElem at nothing) s4 →
    Emits s (λ k p. stmt_piece k p (statement at (form.store_part x j e))) s4
part_emitted s s1 s2 s3 s4 at x j e h0 h1 h2 h3 = then_expr j h0 (then_expr e h1 (emits_line (i.InParts x) at h2 h3))

pub foreach_emitted : (s s1 s2 s3 : Emitted) (at : Place) (forking : Forking) (x : ℕ) (start count : TypedExpr) (a : TypedStmt) →
    Emits s (λ k p. expr_piece k p start) s1 → Emits s1 (λ k p. expr_piece k p count) s2 → Emits s2 (λ k p. spread_piece k at forking x None a) s3 →
    Emits s (λ k p. stmt_piece k p (statement at (form.foreach forking x start count a))) s3
foreach_emitted s s1 s2 s3 at forking x start count a h0 h1 h2 = then_expr start h0 (then_expr count h1 h2)

pub parts_emitted : (s s1 s2 s3 : Emitted) (at : Place) (x : ℕ) (a : TypedStmt) → Emits s (λ k p. line (i.Int (pos 0)) at nothing) s1 →
    Emits s1 (λ k p. line (i.Load (x + 3)) at nothing) s2 → Emits s2 (λ k p. spread_piece k at Deterministic (x + 4) (Some x) a) s3 →
    Emits s (λ k p. parts_piece k at x a) s3
parts_emitted s s1 s2 s3 at x a h0 h1 h2 = emits_line (i.Int (pos 0)) at h0 (emits_line (i.Load (x + 3)) at h1 h2)

pub array_emitted : (s s1 s2 s3 s4 s5 s6 s7 s8 s9 s10 : Emitted) (at : Place) (x : ℕ) (a count : TypedExpr) (body : TypedStmt) →
    Emits s (λ k p. expr_piece k p a) s1 → Emits s1 (λ k p. line (i.Store x) at nothing) s2 → Emits s2 (λ k p. line (i.Int (pos 0)) at nothing) s3 →
    Emits s3 (λ k p. line (i.Store (x + 1)) at nothing) s4 → Emits s4 (λ k p. expr_piece k p count) s5 → Emits s5 (λ k p. line (i.Store (x + 3)) at nothing) s6 →
    Emits s6 (λ k p. line (i.Load x) at nothing) s7 → Emits s7 (λ k p. line i.Length at nothing) s8 → Emits s8 (λ k p. line (i.Store (x + 2)) at nothing) s9 →
    Emits s9 (λ k p. parts_piece k at x body) s10 → Emits s (λ k p. stmt_piece k p (statement at (form.foreach_parts x (of_array a) count body))) s10
array_emitted s s1 s2 s3 s4 s5 s6 s7 s8 s9 s10 at x a count body h0 h1 h2 h3 h4 h5 h6 h7 h8 h9 =
    then_expr a h0 (emits_line (i.Store x) at h1 (emits_line (i.Int (pos 0)) at h2 (emits_line (i.Store (x + 1)) at h3 (then_expr count h4
    (emits_line (i.Store (x + 3)) at h5 (emits_line (i.Load x) at h6 (emits_line i.Length at h7 (emits_line (i.Store (x + 2)) at h8 h9))))))))

pub whole_part_emitted : (s s1 s2 s3 s4 s5 s6 s7 s8 s9 : Emitted) (at : Place) (x y : ℕ) (count : TypedExpr) (body : TypedStmt) →
    Emits s (λ k p. line (i.Load y) at nothing) s1 → Emits s1 (λ k p. line (i.Store x) at nothing) s2 → Emits s2 (λ k p. line (i.Load (y + 1)) at nothing) s3 →
    Emits s3 (λ k p. line (i.Store (x + 1)) at nothing) s4 → Emits s4 (λ k p. expr_piece k p count) s5 → Emits s5 (λ k p. line (i.Store (x + 3)) at nothing) s6 →
    Emits s6 (λ k p. line (i.Load (y + 2)) at nothing) s7 → Emits s7 (λ k p. line (i.Store (x + 2)) at nothing) s8 →
    Emits s8 (λ k p. parts_piece k at x body) s9 → Emits s (λ k p. stmt_piece k p (statement at (form.foreach_parts x (of_part y) count body))) s9
whole_part_emitted s s1 s2 s3 s4 s5 s6 s7 s8 s9 at x y count body h0 h1 h2 h3 h4 h5 h6 h7 h8 =
    emits_line (i.Load y) at h0 (emits_line (i.Store x) at h1 (emits_line (i.Load (y + 1)) at h2 (emits_line (i.Store (x + 1)) at h3 (then_expr count h4
    (emits_line (i.Store (x + 3)) at h5 (emits_line (i.Load (y + 2)) at h6 (emits_line (i.Store (x + 2)) at h7 h8)))))))

pub test_below_two : (s s1 s2 s3 s4 : Emitted) (at : Place) (test : ℕ) (x : Instr) (a : TypedStmt) (y : Instr) → test ≡ length s.piece.lines →
    Emits s (λ k p. line (i.Unless 0) at nothing) s1 → Emits s1 (λ k p. line x at nothing) s2 → Emits s2 (λ k p. stmt_piece k p a) s3 →
    Emits s3 (λ k p. line y at nothing) s4 → test < length s4.piece.lines
test_below_two s s1 s2 s3 s4 at test x a y is h0 h1 h2 h3 =
    let a0 = one_longer _ at h0 in let a1 = one_longer _ at h1 in let a2 = emits_grow s2 s3 _ h2 in let a3 = one_longer _ at h3 in omega arith

nothing_more : (t : Emitted) → Emits t (λ k p. nothing) t
nothing_more t = record { is = ap (λ a. record t { piece = a }) (sym (beside_nothing t.piece)) }

pub perform_dropped : (s t : Emitted) (at : Place) (e : TypedExpr) → is_void (type_of e) ≡ true → Emits s (λ k p. expr_piece k p e) t →
    Emits s (λ k p. stmt_piece k p (statement at (form.perform e))) t
perform_dropped s t at e is h =
    emits_as (λ k p. stmt_piece k p (statement at (form.perform e)))
    (ap (λ z. then_next (next_of s) (expr_piece (next_of s) (length s.piece.lines) e) (λ k. cond z nothing (line i.Pop at nothing))) (sym is))
    (then_expr e h (nothing_more t))

pub perform_popped : (s t u : Emitted) (at : Place) (e : TypedExpr) → is_void (type_of e) ≡ false → Emits s (λ k p. expr_piece k p e) t →
    Emits t (λ k p. line i.Pop at nothing) u → Emits s (λ k p. stmt_piece k p (statement at (form.perform e))) u
perform_popped s t u at e is h j =
    emits_as (λ k p. stmt_piece k p (statement at (form.perform e)))
    (ap (λ z. then_next (next_of s) (expr_piece (next_of s) (length s.piece.lines) e) (λ k. cond z nothing (line i.Pop at nothing))) (sym is))
    (then_expr e h j)

pub one_then_line : (s t u : Emitted) (x : Instr) (at : Place) (e : TypedExpr) → Emits s (λ k p. expr_piece k p e) t → Emits t (λ k p. line x at nothing) u →
    Emits s (λ k p. then_next k (expr_piece k p e) (λ k. line x at nothing)) u
one_then_line s t u x at e h j = then_expr e h j

pub jump_below : (s s1 s2 : Emitted) (at : Place) (jump : ℕ) (x : Instr) (b : TypedStmt) → jump ≡ length s.piece.lines → Emits s (λ k p. line x at nothing) s1 →
    Emits s1 (λ k p. stmt_piece k p b) s2 → jump < length s2.piece.lines
jump_below s s1 s2 at jump x b is h j = let one = one_longer x at h in let more = emits_grow s1 s2 _ j in omega arith

pub skip_below : (s s1 s2 s3 s4 t : Emitted) (at : Place) (skip : ℕ) (x y : Instr) (a b : TypedStmt) → skip ≡ length s.piece.lines →
    Emits s (λ k p. line x at nothing) s1 → Emits s1 (λ k p. stmt_piece k p a) s2 → Emits s2 (λ k p. line y at nothing) s3 → Emits s3 (λ k p. stmt_piece k p b) s4 →
    length t.piece.lines ≡ length s4.piece.lines → skip < length t.piece.lines
skip_below s s1 s2 s3 s4 t at skip x y a b is h0 h1 h2 h3 same =
    let a0 = one_longer x at h0 in let a1 = emits_grow s1 s2 _ h1 in let a2 = one_longer y at h2 in let a3 = emits_grow s3 s4 _ h3 in omega arith
