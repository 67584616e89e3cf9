-- How expressions are emitted: a lemma a construct that needs more than its parts.
use Rattle.std.proofs.Common.{◌≡◌, ◌∙◌, ℕ, suc, ◌+◌, ◌<◌, List, [], ◌∷◌, map, length, get_or, drop, drop-cons, add-one, refl, sym, ap, ap₂, subst, arith, true}
use Rattle.lang_base.specs.declared.place.Place.{Place}
use Rattle.lang_base.specs.Types.{PlainType}
use Rattle.lang_typed.specs.declared.expr.Expr.{Expr}
use Rattle.lang_typed.specs.Plain.{TypedExpr, typed, TypedExprs, plain_expr, exprs_of}
use Rattle.lang_typed.specs.Plain.{ExprForm as form}
use Rattle.lang_base.specs.declared.region.Rpl.{Rpl}
use Rattle.lang_meaning.specs.Expressions.{class_in}
use Rattle.code_instrs.specs.declared.instr.Instr.{Instr}
use Rattle.code_instrs.specs.Plain.{Site, call_site, new_site}
use Rattle.code_instrs.specs.declared.instr.Instr.TheVariants as i
use Rattle.code_scheme.specs.Pieces.{Piece, Next, nothing, line, with_site, then_next}
use Rattle.code_scheme.specs.Scheme.{many, after_expr, after_exprs, expr_piece, exprs_piece, site_of_array}
use Rattle.code_scheme.proofs.Pieces.{next, stop}
use Rattle.code_scheme.proofs.Placed.{expr_far, exprs_far}
use Rattle.code_compile.specs.Emitted.{Emitted, next_of, after, Emits, patched, jump_past, BothClosed}
use Rattle.code_compile.proofs.Emits.{beside_nothing, emits_as, emits_then, emits_line, emits_patched, emits_length, emits_grow, one_longer}

-- an expression, and what follows it
pub then_expr : {s t u : Emitted} {g : Next → ℕ → Piece} (a : TypedExpr) → Emits s (λ k p. expr_piece k p a) t → Emits t g u →
    Emits s (λ k p. then_next k (expr_piece k p a) (λ k. g k (after_expr p a))) u
then_expr a h j = emits_then (λ p. after_expr p a) (λ k p. expr_far k p a) h j

-- the first of several
pub one_more : (s t : Emitted) (e : Expr) (all rest : List Expr) → all ≡ e ∷ rest → Emits s (λ k p. expr_piece k p (plain_expr e)) t →
    after t (λ k p. exprs_piece k p (exprs_of (map plain_expr rest))) ≡ after s (λ k p. exprs_piece k p (exprs_of (map plain_expr all)))
one_more s t e all rest is h =
    let u : Emitted = after t (λ k p. exprs_piece k p (exprs_of (map plain_expr rest))) in
    let j : Emits t (λ k p. exprs_piece k p (exprs_of (map plain_expr rest))) u = record { is = refl } in
    (then_expr (plain_expr e) h j).is ∙ ap (λ xs. after s (λ k p. exprs_piece k p (exprs_of (map plain_expr xs)))) (sym is)

pub next_is : {A : Type 0} (all : List A) (i : ℕ) (e : A) → i < length all → e ≡ get_or all i e → drop i all ≡ e ∷ drop (i + 1) all
next_is all i e below is = drop-cons all i e below ∙ ap (λ x. x ∷ drop (suc i) all) (sym is) ∙ ap (λ k. e ∷ drop k all) (sym (add-one i))

pub next_at : {A : Type 0} (all : List A) (i : ℕ) (d : A) → i < length all → drop i all ≡ get_or all i d ∷ drop (i + 1) all
next_at all i d below = drop-cons all i d below ∙ ap (λ k. get_or all i d ∷ drop k all) (sym (add-one i))

pub none_more : (s : Emitted) (all : List Expr) → all ≡ [] → after s (λ k p. exprs_piece k p (exprs_of (map plain_expr all))) ≡ s
none_more s all is =
    ap (λ xs. after s (λ k p. exprs_piece k p (exprs_of (map plain_expr xs)))) is ∙ ap (λ a. record s { piece = a }) (beside_nothing s.piece)

abbrev two_after : Emitted → Instr → Instr → Place → Emitted
two_after s x y at = after (after s (λ k p. line x at nothing)) (λ k p. line y at nothing)

-- three lines, one after another
three_lines : (s t : Emitted) (x y z : Instr) (at : Place) → Emits s (λ k p. line x at (line y at (line z at nothing))) t →
    Emits s (λ k p. line x at nothing) (after s (λ k p. line x at nothing)) ×
    Emits (after s (λ k p. line x at nothing)) (λ k p. line y at nothing) (two_after s x y at) ×
    Emits (two_after s x y at) (λ k p. line z at nothing) t
three_lines s t x y z at h =
    let s1 : Emitted = after s (λ k p. line x at nothing) in
    let s2 : Emitted = two_after s x y at in
    let s3 : Emitted = after s2 (λ k p. line z at nothing) in
    let h1 : Emits s (λ k p. line x at nothing) s1 = record { is = refl } in
    let h2 : Emits s1 (λ k p. line y at nothing) s2 = record { is = refl } in
    let h3 : Emits s2 (λ k p. line z at nothing) s3 = record { is = refl } in
    let whole = emits_line x at h1 (emits_line y at h2 h3) in
    (h1, h2, record { is = h.is ∙ sym whole.is })

-- a test, the right operand, and what stands for the whole where the test fails
pub both_emitted : (s s1 s2 s3 u : Emitted) (at : Place) (test : ℕ) (t : PlainType) (a b : TypedExpr) →
    Emits s (λ k p. expr_piece k p a) s1 → test ≡ length s1.piece.lines → Emits s1 (λ k p. line (i.Unless 0) at nothing) s2 →
    Emits s2 (λ k p. expr_piece k p b) s3 → BothClosed s3 test at u → Emits s (λ k p. expr_piece k p (typed at t (form.both a b))) u
both_emitted s s1 s2 s3 u at test t a b h0 is h1 h2 closed =
    let p : ℕ = length s.piece.lines in
    let v : Emitted = after s3 (jump_past at) in
    let h3 : Emits s3 (jump_past at) v = record { is = refl } in
    let l1 : length s1.piece.lines ≡ after_expr p a = emits_length h0 (expr_far _ _ a) in
    let l2 : length s2.piece.lines ≡ suc (after_expr p a) = emits_length h1 (next _ _ stop) ∙ ap suc l1 in
    let l3 : length s3.piece.lines ≡ after_expr (suc (after_expr p a)) b = emits_length h2 (expr_far _ _ b) ∙ ap (λ q. after_expr q b) l2 in
    let e1 = emits_patched _ (i.Unless 0) (i.Unless (suc (length s3.piece.lines))) at (emits_line (i.Unless 0) at h1 (then_expr b h2 h3)) in
    let e0 : Emits s (λ k p. then_next k (expr_piece k p a) (λ k. line (i.Unless (suc (length s3.piece.lines))) at
    (then_next k (expr_piece k (suc (after_expr p a)) b) (λ k. jump_past at k (after_expr (suc (after_expr p a)) b)))))
    (patched v (length s1.piece.lines) (record { instr = i.Unless (suc (length s3.piece.lines)); place = at })) = then_expr a h0 e1 in
    let e : Emits s (λ k p. expr_piece k p (typed at t (form.both a b)))
    (patched v (length s1.piece.lines) (record { instr = i.Unless (suc (length s3.piece.lines)); place = at })) =
    emits_as (λ k p. expr_piece k p (typed at t (form.both a b)))
    (ap (λ n. then_next (next_of s) (expr_piece (next_of s) p a) (λ k. line (i.Unless (suc n)) at
    (then_next k (expr_piece k (suc (after_expr p a)) b) (λ k. jump_past at k (after_expr (suc (after_expr p a)) b))))) l3) e0 in
    record { is = closed ∙ ap (λ n. patched v n (record { instr = i.Unless (suc (length s3.piece.lines)); place = at })) is ∙ e.is }

-- a test, what stands for the whole where it succeeds, and the right operand
pub either_emitted : (s s1 s2 s3 u : Emitted) (at : Place) (jump : ℕ) (t : PlainType) (a b : TypedExpr) →
    Emits s (λ k p. expr_piece k p a) s1 → jump ≡ suc (suc (length s1.piece.lines)) →
    Emits s1 (λ k p. line (i.Unless (suc (suc (suc p)))) at (line (i.Bool true) at (line (i.Jump 0) at nothing))) s2 →
    Emits s2 (λ k p. expr_piece k p b) s3 →
    u ≡ patched s3 jump (record { instr = i.Jump (length s3.piece.lines); place = at }) → Emits s (λ k p. expr_piece k p (typed at t (form.either a b))) u
either_emitted s s1 s2 s3 u at jump t a b h0 is h1 h2 closed =
    let p : ℕ = length s.piece.lines in
    let q : ℕ = length s1.piece.lines in
    let l1 : length s1.piece.lines ≡ after_expr p a = emits_length h0 (expr_far _ _ a) in
    let l2 : length s2.piece.lines ≡ suc (suc (suc q)) = emits_length h1 (next _ _ (next _ _ (next _ _ stop))) in
    let l3 : length s3.piece.lines ≡ after_expr (suc (suc (suc q))) b = emits_length h2 (expr_far _ _ b) ∙ ap (λ n. after_expr n b) l2 in
    let here : Emits s1 (λ k p. line (i.Unless (suc (suc (suc q)))) at (line (i.Bool true) at (line (i.Jump 0) at nothing))) s2 = record { is = h1.is } in
    let opened = three_lines s1 s2 (i.Unless (suc (suc (suc q)))) (i.Bool true) (i.Jump 0) at here in
    let e2 = emits_patched (λ k p. expr_piece k (suc p) b) (i.Jump 0) (i.Jump (length s3.piece.lines)) at (emits_line (i.Jump 0) at opened.2 h2) in
    let e1 = emits_line (i.Unless (suc (suc (suc q)))) at opened.0 (emits_line (i.Bool true) at opened.1 e2) in
    let n1 : length (after s1 (λ k p. line (i.Unless (suc (suc (suc q)))) at nothing)).piece.lines ≡ suc q = emits_length opened.0 (next _ _ stop) in
    let n2 : length (two_after s1 (i.Unless (suc (suc (suc q)))) (i.Bool true) at).piece.lines ≡ suc (suc q) = emits_length opened.1 (next _ _ stop) ∙ ap suc n1 in
    let e0 = then_expr a h0 e1 in
    let e = emits_as (λ k p. expr_piece k p (typed at t (form.either a b)))
    (ap₂ (λ n m. then_next (next_of s) (expr_piece (next_of s) p a) (λ k. line (i.Unless (suc (suc (suc n)))) at (line (i.Bool true) at
    (line (i.Jump m) at (expr_piece k (suc (suc (suc (after_expr p a)))) b))))) l1 (l3 ∙ ap (λ n. after_expr (suc (suc (suc n))) b) l1)) e0 in
    record { is = closed ∙ ap (λ n. patched s3 n (record { instr = i.Jump (length s3.piece.lines); place = at })) (is ∙ sym n2) ∙ e.is }

-- operands, and an instruction
pub one_operand : {s s1 u : Emitted} (x : Instr) (at : Place) (a : TypedExpr) → Emits s (λ k p. expr_piece k p a) s1 → Emits s1 (λ k p. line x at nothing) u →
    Emits s (λ k p. then_next k (expr_piece k p a) (λ k. line x at nothing)) u
one_operand x at a h j = then_expr a h j

pub two_operands : {s s1 s2 u : Emitted} (x : Instr) (at : Place) (a b : TypedExpr) → Emits s (λ k p. expr_piece k p a) s1 →
    Emits s1 (λ k p. expr_piece k p b) s2 → Emits s2 (λ k p. line x at nothing) u →
    Emits s (λ k p. then_next k (expr_piece k p a) (λ k. then_next k (expr_piece k (after_expr p a) b) (λ k. line x at nothing))) u
two_operands x at a b h i j = then_expr a h (then_expr b i j)

-- what is emitted of a form is emitted of the expression that has it
pub expr_is : {s t : Emitted} {e x : TypedExpr} → e ≡ x → Emits s (λ k p. expr_piece k p x) t → Emits s (λ k p. expr_piece k p e) t
expr_is {s} {t} is h = subst (λ z. Emits s (λ k p. expr_piece k p z) t) (sym is) h

-- several operands, and what follows them
pub then_exprs : {s t u : Emitted} {g : Next → ℕ → Piece} (es : TypedExprs) → Emits s (λ k p. exprs_piece k p es) t → Emits t g u →
    Emits s (λ k p. then_next k (exprs_piece k p es) (λ k. g k (after_exprs p es))) u
then_exprs es h j = emits_then (λ p. after_exprs p es) (λ k p. exprs_far k p es) h j

-- an instruction with a site, which is known otherwise
pub site_is : {s t : Emitted} (at : Place) (x : ℕ → Instr) {a b : Site} → a ≡ b → Emits s (λ k p. with_site a (line (x k.site) at nothing)) t →
    Emits s (λ k p. with_site b (line (x k.site) at nothing)) t
site_is {s} {t} at x is h = subst (λ z. Emits s (λ k p. with_site z (line (x k.site) at nothing)) t) is h

pub many_is : (es : List Expr) → many (exprs_of (map plain_expr es)) ≡ length es
many_is [] = refl
many_is (e ∷ es) = ap suc (many_is es)

-- a call
pub called : {s s1 s2 u : Emitted} (at : Place) (c r n : ℕ) (regions : List Rpl) (a : TypedExpr) (es : List Expr) (t : PlainType) → n ≡ length es →
    Emits s (λ k p. expr_piece k p a) s1 → Emits s1 (λ k p. exprs_piece k p (exprs_of (map plain_expr es))) s2 →
    Emits s2 (λ k p. with_site (call_site c r n regions) (line (i.Call k.site) at nothing)) u →
    Emits s (λ k p. expr_piece k p (typed at t (form.call a c r regions (exprs_of (map plain_expr es))))) u
called at c r n regions a es t is h j l =
    then_expr a h (then_exprs (exprs_of (map plain_expr es)) j (site_is at (λ m. i.Call m) (ap (λ m. call_site c r m regions) (is ∙ sym (many_is es))) l))

pub made : {s s1 u : Emitted} (at : Place) (t : PlainType) (n : ℕ) (es : List Expr) → n ≡ length es → Emits s (λ k p. exprs_piece k p (exprs_of (map plain_expr es))) s1 →
    (site : Site) → site ≡ new_site (class_in t).0 n (class_in t).1 → Emits s1 (λ k p. with_site site (line (i.New k.site) at nothing)) u →
    Emits s (λ k p. expr_piece k p (typed at t (form.create (exprs_of (map plain_expr es))))) u
made at t n es is h site there l =
    then_exprs (exprs_of (map plain_expr es)) h (site_is at (λ m. i.New m) (there ∙ ap (λ m. new_site (class_in t).0 m (class_in t).1) (is ∙ sym (many_is es))) l)

pub made_array : {s s1 u : Emitted} (at : Place) (t : PlainType) (n : TypedExpr) → Emits s (λ k p. expr_piece k p n) s1 →
    (site : Site) → site ≡ site_of_array t → Emits s1 (λ k p. with_site site (line (i.Array k.site) at nothing)) u →
    Emits s (λ k p. expr_piece k p (typed at t (form.create_array n))) u
made_array at t n h site there l = then_expr n h (site_is at (λ m. i.Array m) there l)

pub part_read : {s s1 s2 u : Emitted} (at : Place) (t : PlainType) (x : ℕ) (j : TypedExpr) → Emits s (λ k p. expr_piece k p j) s1 →
    Emits s1 (λ k p. line (i.InPart x) at nothing) s2 → Emits s2 (λ k p. line i.Elem at nothing) u →
    Emits s (λ k p. expr_piece k p (typed at t (form.part_element x j))) u
part_read at t x j h l m = then_expr j h (emits_line (i.InPart x) at l m)

-- the places of the tests stand before the end
pub both_below : (s s1 s2 : Emitted) (at : Place) (test : ℕ) (b : TypedExpr) → test ≡ length s.piece.lines → Emits s (λ k p. line (i.Unless 0) at nothing) s1 →
    Emits s1 (λ k p. expr_piece k p b) s2 → test < length s2.piece.lines
both_below s s1 s2 at test b is h j = let one = one_longer _ at h in let more = emits_grow s1 s2 _ j in omega arith

pub either_below : (s s1 s2 : Emitted) (at : Place) (jump : ℕ) (b : TypedExpr) → jump ≡ suc (suc (length s.piece.lines)) →
    Emits s (λ k p. line (i.Unless (suc (suc (suc p)))) at (line (i.Bool true) at (line (i.Jump 0) at nothing))) s1 →
    Emits s1 (λ k p. expr_piece k p b) s2 → jump < length s2.piece.lines
either_below s s1 s2 at jump b is h j =
    let three : length s1.piece.lines ≡ suc (suc (suc (length s.piece.lines))) = emits_length h (next _ _ (next _ _ (next _ _ stop))) in
    let more = emits_grow s1 s2 _ j in omega arith
