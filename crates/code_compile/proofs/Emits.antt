-- How emitted pieces follow each other.
use Rattle.std.proofs.Common.{◌≡◌, ℕ, suc, ◌+◌, List, [], ◌∷◌, ◌++◌, length, refl, sym, ap, ◌∙◌, arith, append_assoc, length-append, Result, Ok, Err, OnOk, slice_set, ◌<◌, ◌≤◌, true, false}
use Rattle.std.proofs.lemmas.List.{append-nil, length-set}
use Rattle.std.proofs.Math.Seq.{set-append_seam}
use Rattle.lang_base.specs.declared.place.Place.{Place}
use Rattle.code_instrs.specs.declared.instr.Instr.{Instr}
use Rattle.code_instrs.specs.Plain.{Line, Site}
use Rattle.code_scheme.specs.Pieces.{Branch, Piece, Next, past, nothing, line, with_site, with_text, with_branches, beside, then_next}
use Rattle.code_scheme.proofs.Pieces.{Far, next, stop}
use Rattle.code_instrs.specs.declared.instr.Instr.TheVariants as i
use Rattle.code_compile.specs.Emitted.{Emitted, next_of, after, Emits, patched, jump_past, BothClosed}

abbrev piece_of : List Line → List Site → List (List ℕ) → List Branch → Piece
piece_of lines sites texts branches = record { lines = lines; sites = sites; texts = texts; branches = branches }

pub same_piece : (a b : Piece) → a.lines ≡ b.lines → a.sites ≡ b.sites → a.texts ≡ b.texts → a.branches ≡ b.branches → a ≡ b
same_piece a b lines sites texts branches =
    ap (λ l. piece_of l a.sites a.texts a.branches) lines ∙ ap (λ s. piece_of b.lines s a.texts a.branches) sites
    ∙ ap (λ x. piece_of b.lines b.sites x a.branches) texts ∙ ap (λ c. piece_of b.lines b.sites b.texts c) branches

abbrev next_numbers : ℕ → ℕ → ℕ → Next
next_numbers site text body = record { site = site; text = text; body = body }

pub same_next : (k l : Next) → k.site ≡ l.site → k.text ≡ l.text → k.body ≡ l.body → k ≡ l
same_next k l site text body =
    ap (λ s. next_numbers s k.text k.body) site ∙ ap (λ x. next_numbers l.site x k.body) text ∙ ap (λ b. next_numbers l.site l.text b) body

pub beside_assoc : (a b c : Piece) → beside (beside a b) c ≡ beside a (beside b c)
unfolding beside
beside_assoc a b c =
    same_piece _ _ (append_assoc a.lines b.lines c.lines) (append_assoc a.sites b.sites c.sites) (append_assoc a.texts b.texts c.texts)
    (append_assoc a.branches b.branches c.branches)

pub beside_nothing : (a : Piece) → beside a nothing ≡ a
unfolding beside
beside_nothing a = same_piece _ _ (append-nil a.lines) (append-nil a.sites) (append-nil a.texts) (append-nil a.branches)

pub next_after : (s : Emitted) (a : Piece) → next_of (record s { piece = beside s.piece a }) ≡ past (next_of s) a
unfolding beside
next_after s a =
    same_next _ _ (length-append s.piece.sites a.sites) (length-append s.piece.texts a.texts)
    (let l = length-append s.piece.branches a.branches in omega arith)

lines_beside : (a b : Piece) → length (beside a b).lines ≡ length a.lines + length b.lines
unfolding beside
lines_beside a b = length-append a.lines b.lines

-- the lines after a piece
pub emits_length : {s t : Emitted} {f : Next → ℕ → Piece} {q : ℕ} → Emits s f t → Far (length s.piece.lines) (f (next_of s) (length s.piece.lines)) q →
    length t.piece.lines ≡ q
emits_length {s} {t} {f} {q} h far = ap (λ (z : Emitted). length z.piece.lines) h.is ∙ lines_beside s.piece _ ∙ far.is

-- nothing is taken away
pub emits_grow : (s t : Emitted) (f : Next → ℕ → Piece) → Emits s f t → length s.piece.lines ≤ length t.piece.lines
emits_grow s t f h =
    let e : length t.piece.lines ≡ length s.piece.lines + length (f (next_of s) (length s.piece.lines)).lines =
    ap (λ (z : Emitted). length z.piece.lines) h.is ∙ lines_beside s.piece (f (next_of s) (length s.piece.lines)) in omega arith

-- what stands after a place is the same, whatever it is called
pub emits_as : {s t : Emitted} {f : Next → ℕ → Piece} (g : Next → ℕ → Piece) → f (next_of s) (length s.piece.lines) ≡ g (next_of s) (length s.piece.lines) →
    Emits s f t → Emits s g t
emits_as {s} {t} {f} g e h = record { is = h.is ∙ ap (λ a. record s { piece = beside s.piece a }) e }

-- one piece after another
joined : (s : Emitted) (a : Piece) (g : Next → ℕ → Piece) (q : ℕ) → length s.piece.lines + length a.lines ≡ q →
    after (record s { piece = beside s.piece a }) g ≡ record s { piece = beside s.piece (beside a (g (past (next_of s) a) q)) }
joined s a g q e =
    ap (λ z. record s { piece = z })
    (ap (λ k. beside (beside s.piece a) (g k (length (beside s.piece a).lines))) (next_after s a)
    ∙ ap (λ p. beside (beside s.piece a) (g (past (next_of s) a) p)) (lines_beside s.piece a ∙ e)
    ∙ beside_assoc s.piece a (g (past (next_of s) a) q))

pub emits_then : {s t u : Emitted} {f g : Next → ℕ → Piece} (reach : ℕ → ℕ) → ((k : Next) (p : ℕ) → Far p (f k p) (reach p)) → Emits s f t → Emits t g u →
    Emits s (λ k p. then_next k (f k p) (λ k. g k (reach p))) u
emits_then {s} {t} {u} {f} {g} reach far h j = record {
  is = j.is ∙ ap (λ z. after z g) h.is ∙ joined s (f (next_of s) (length s.piece.lines)) g (reach (length s.piece.lines)) (far (next_of s) (length s.piece.lines)).is;
}

line_first : (x : Instr) (at : Place) (b : Piece) → beside (line x at nothing) b ≡ line x at b
unfolding beside line
line_first x at b = refl

past_line : (k : Next) (x : Instr) (at : Place) → past k (line x at nothing) ≡ k
unfolding line
past_line k x at = same_next _ _ (omega arith) (omega arith) (omega arith)

one_line : (x : Instr) (at : Place) → length (line x at nothing).lines ≡ 1
unfolding line
one_line x at = refl

-- an instruction, and what follows it
pub emits_line : {s t u : Emitted} {g : Next → ℕ → Piece} (x : Instr) (at : Place) → Emits s (λ k p. line x at nothing) t → Emits t g u →
    Emits s (λ k p. line x at (g k (suc p))) u
emits_line {s} {t} {u} {g} x at h j = record {
  is = j.is ∙ ap (λ z. after z g) h.is ∙ joined s (line x at nothing) g (suc (length s.piece.lines)) (let o = one_line x at in omega arith)
      ∙ ap (λ a. record s { piece = beside s.piece a })
      (line_first x at (g (past (next_of s) (line x at nothing)) (suc (length s.piece.lines))) ∙ ap (λ k. line x at (g k (suc (length s.piece.lines)))) (past_line (next_of s) x at));
}

-- another instruction in the place of one
patched_lines : (a : Piece) (x y : Instr) (at : Place) (b : Piece) →
    slice_set (beside a (line x at b)).lines (length a.lines) (record { instr = y; place = at }) ≡ (beside a (line y at b)).lines
unfolding beside line
patched_lines a x y at b = set-append_seam a.lines (record { instr = x; place = at }) b.lines (record { instr = y; place = at })

patched_piece : (a : Piece) (x y : Instr) (at : Place) (b : Piece) →
    record (beside a (line x at b)) { lines = slice_set (beside a (line x at b)).lines (length a.lines) (record { instr = y; place = at }) } ≡ beside a (line y at b)
unfolding beside line
patched_piece a x y at b = same_piece _ _ (patched_lines a x y at b) refl refl refl

pub emits_patched : {s t : Emitted} (g : Next → ℕ → Piece) (x y : Instr) (at : Place) → Emits s (λ k p. line x at (g k p)) t →
    Emits s (λ k p. line y at (g k p)) (patched t (length s.piece.lines) (record { instr = y; place = at }))
emits_patched {s} {t} g x y at h = record {
  is = ap (λ z. patched z (length s.piece.lines) (record { instr = y; place = at })) h.is
      ∙ ap (λ z. record s { piece = z }) (patched_piece s.piece x y at (g (next_of s) (length s.piece.lines)));
}

pub on_ok : {X E : Type 0} {P Q : Type 0} (r : Result X E) → (P → Q) → OnOk r P → OnOk r Q
on_ok (Ok x) f h = f h
on_ok (Err e) f h = tt

-- a line pushed; with a site, or a text, pushed before it
pub line_pushed : (s : Emitted) (x : Instr) (at : Place) (lines : List Line) → lines ≡ s.piece.lines ++ record { instr = x; place = at } ∷ [] →
    Emits s (λ k p. line x at nothing) (record s { piece = record s.piece { lines = lines } })
unfolding beside line
line_pushed s x at lines e = record {
  is = ap (λ z. record s { piece = z }) (same_piece _ _ e (sym (append-nil s.piece.sites)) (sym (append-nil s.piece.texts)) (sym (append-nil s.piece.branches)));
}

sited_piece : (a : Piece) (sites : List Site) (site : Site) (x : Instr) (at : Place) → sites ≡ a.sites ++ site ∷ [] →
    beside (record a { sites = sites }) (line x at nothing) ≡ beside a (with_site site (line x at nothing))
unfolding beside line with_site
sited_piece a sites site x at e = same_piece _ _ refl (append-nil sites ∙ e) refl refl

pub sited_pushed : (s t : Emitted) (sites : List Site) (site : Site) (x : ℕ → Instr) (y : Instr) (at : Place) → sites ≡ s.piece.sites ++ site ∷ [] →
    y ≡ x (length s.piece.sites) → Emits (record s { piece = record s.piece { sites = sites } }) (λ k p. line y at nothing) t →
    Emits s (λ k p. with_site site (line (x k.site) at nothing)) t
sited_pushed s t sites site x y at e is h = record {
  is = h.is ∙ ap (λ a. record s { piece = a }) (sited_piece s.piece sites site y at e ∙ ap (λ z. beside s.piece (with_site site (line z at nothing))) is);
}

texted_piece : (a : Piece) (texts : List (List ℕ)) (text : List ℕ) (x : Instr) (at : Place) → texts ≡ a.texts ++ text ∷ [] →
    beside (record a { texts = texts }) (line x at nothing) ≡ beside a (with_text text (line x at nothing))
unfolding beside line with_text
texted_piece a texts text x at e = same_piece _ _ refl refl (append-nil texts ∙ e) refl

pub texted_pushed : (s t : Emitted) (texts : List (List ℕ)) (text : List ℕ) (x : ℕ → Instr) (y : Instr) (at : Place) → texts ≡ s.piece.texts ++ text ∷ [] →
    y ≡ x (length s.piece.texts) → Emits (record s { piece = record s.piece { texts = texts } }) (λ k p. line y at nothing) t →
    Emits s (λ k p. with_text text (line (x k.text) at nothing)) t
texted_pushed s t texts text x y at e is h = record {
  is = h.is ∙ ap (λ a. record s { piece = a }) (texted_piece s.piece texts text y at e ∙ ap (λ z. beside s.piece (with_text text (line z at nothing))) is);
}

pub on_ok_of : {X E : Type 0} {P Q : Type 0} (r : Result X E) → OnOk r P → (P → Q) → OnOk r Q
on_ok_of r h f = on_ok r f h

branched_piece : (a : Piece) (branches : List Branch) (b : Branch) → branches ≡ a.branches ++ b ∷ [] →
    record a { branches = branches } ≡ beside a (with_branches (b ∷ []) nothing)
unfolding beside with_branches
branched_piece a branches b e = same_piece _ _ (sym (append-nil a.lines)) (sym (append-nil a.sites)) (sym (append-nil a.texts)) e

-- a branch pushed, which has the number of the next site
pub branch_pushed : (s : Emitted) (branches : List Branch) (b : ℕ → Branch) (n : ℕ) → branches ≡ s.piece.branches ++ b n ∷ [] → n ≡ length s.piece.sites →
    Emits s (λ k p. with_branches (b k.site ∷ []) nothing) (record s { piece = record s.piece { branches = branches } })
branch_pushed s branches b n e is = record {
  is = ap (λ z. record s { piece = z }) (branched_piece s.piece branches (b n) e ∙ ap (λ m. beside s.piece (with_branches (b m ∷ []) nothing)) is);
}

-- one line more
pub one_longer : {s t : Emitted} (x : Instr) (at : Place) → Emits s (λ k p. line x at nothing) t → length t.piece.lines ≡ suc (length s.piece.lines)
one_longer x at h = emits_length h (next _ _ stop)

pub below_patched : (s t : Emitted) (j n : ℕ) (l : Line) → t ≡ patched s j l → n < length s.piece.lines → n < length t.piece.lines
below_patched s t j n l e below =
    let z : length t.piece.lines ≡ length s.piece.lines = ap (λ (u : Emitted). length u.piece.lines) e ∙ length-set s.piece.lines j l in
    omega arith

pub both_closed : (s s1 s2 t u : Emitted) (at : Place) (jump other test : ℕ) → jump ≡ length s.piece.lines → Emits s (λ k p. line (i.Jump 0) at nothing) s1 →
    other ≡ length s1.piece.lines → Emits s1 (λ k p. line (i.Bool false) at nothing) s2 →
    t ≡ patched s2 jump (record { instr = i.Jump (length s2.piece.lines); place = at }) →
    u ≡ patched t test (record { instr = i.Unless other; place = at }) → BothClosed s test at u
both_closed s s1 s2 t u at jump other test at_jump h1 at_other h2 te ue =
    let l1 : length s1.piece.lines ≡ suc (length s.piece.lines) = one_longer _ at h1 in
    let l2 : length s2.piece.lines ≡ suc (suc (length s.piece.lines)) = one_longer _ at h2 ∙ ap suc l1 in
    let e : Emits s (λ k p. line (i.Jump (length s2.piece.lines)) at (line (i.Bool false) at nothing))
    (patched s2 (length s.piece.lines) (record { instr = i.Jump (length s2.piece.lines); place = at })) =
    emits_patched (λ k p. line (i.Bool false) at nothing) (i.Jump 0) (i.Jump (length s2.piece.lines)) at (emits_line (i.Jump 0) at h1 h2) in
    let d = emits_as (jump_past at) (ap (λ n. line (i.Jump n) at (line (i.Bool false) at nothing)) l2) e in
    let there : t ≡ after s (jump_past at) = te ∙ ap (λ n. patched s2 n (record { instr = i.Jump (length s2.piece.lines); place = at })) at_jump ∙ d.is in
    ue ∙ ap (λ z. patched z test (record { instr = i.Unless other; place = at })) there
    ∙ ap (λ n. patched (after s (jump_past at)) test (record { instr = i.Unless n; place = at })) (at_other ∙ l1)

pub either_opened : (s s1 s2 s3 u : Emitted) (at : Place) (test : ℕ) → test ≡ length s.piece.lines → Emits s (λ k p. line (i.Unless 0) at nothing) s1 →
    Emits s1 (λ k p. line (i.Bool true) at nothing) s2 → Emits s2 (λ k p. line (i.Jump 0) at nothing) s3 →
    u ≡ patched s3 test (record { instr = i.Unless (length s3.piece.lines); place = at }) →
    Emits s (λ k p. line (i.Unless (suc (suc (suc p)))) at (line (i.Bool true) at (line (i.Jump 0) at nothing))) u
either_opened s s1 s2 s3 u at test at_test h1 h2 h3 ue =
    let l3 : length s3.piece.lines ≡ suc (suc (suc (length s.piece.lines))) = one_longer _ at h3 ∙ ap suc (one_longer _ at h2 ∙ ap suc (one_longer _ at h1)) in
    let e = emits_patched _ (i.Unless 0) (i.Unless (length s3.piece.lines)) at (emits_line (i.Unless 0) at h1 (emits_line (i.Bool true) at h2 h3)) in
    let d = emits_as (λ k p. line (i.Unless (suc (suc (suc p)))) at (line (i.Bool true) at (line (i.Jump 0) at nothing)))
    (ap (λ n. line (i.Unless n) at (line (i.Bool true) at (line (i.Jump 0) at nothing))) l3) e in
    record { is = ue ∙ ap (λ n. patched s3 n (record { instr = i.Unless (length s3.piece.lines); place = at })) at_test ∙ d.is }

pub patched_long : (s t : Emitted) (j : ℕ) (l : Line) → t ≡ patched s j l → length t.piece.lines ≡ length s.piece.lines
patched_long s t j l e = ap (λ (u : Emitted). length u.piece.lines) e ∙ length-set s.piece.lines j l
