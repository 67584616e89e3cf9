-- Where a piece stands in a code, and how it is cut.
use Rattle.std.proofs.Common.{◌≡◌, ℕ, suc, ◌+◌, List, [], ◌∷◌, ◌++◌, length, refl, sym, ap, ◌∙◌, subst, arith, Some, slice_get, length-append, append_assoc}
use Rattle.lang_base.specs.declared.place.Place.{Place}
use Rattle.code_instrs.specs.declared.instr.Instr.{Instr}
use Rattle.code_instrs.specs.declared.instr.Instr.TheVariants as i
use Rattle.code_instrs.specs.Plain.{Line, Site, PlainCode, body_at}
use Rattle.code_scheme.specs.Pieces.{Branch, Piece, Next, past, nothing, line, with_site, with_text, with_branches, beside}
use Rattle.code_scheme.specs.Scheme.{after_stmt}
use Rattle.code_scheme.specs.Stands.{LineAt, BeginsAt, first_place, StmtAt}

-- in c, xs stands from p on
abbrev pub Holds : {A : Type 0} → List A → ℕ → List A → Type 0
Holds c p [] = Unit {0}
Holds c p (x ∷ xs) = (slice_get c p ≡ Some x) × Holds c (suc p) xs

pub split : {A : Type 0} (c xs ys : List A) (p : ℕ) → Holds c p (xs ++ ys) → Holds c p xs × Holds c (p + length xs) ys
split c [] ys p h = (tt, subst (λ q. Holds c q ys) (omega arith) h)
split c (x ∷ xs) ys p h = let r = split c xs ys (suc p) h.1 in ((h.0, r.0), subst (λ q. Holds c q ys) (omega arith) r.1)

get_after : {A : Type 0} (xs ys : List A) (y : A) → slice_get (xs ++ y ∷ ys) (length xs) ≡ Some y
get_after [] ys y = refl
get_after (x ∷ xs) ys y = get_after xs ys y

whole : {A : Type 0} (xs ys c : List A) → c ≡ xs ++ ys → Holds c (length xs) ys
whole xs [] c e = tt
whole xs (y ∷ ys) c e = (
  ap (λ l. slice_get l (length xs)) e ∙ get_after xs ys y,
  subst (λ n. Holds c n ys) (let l = length-append xs (y ∷ []) in
      omega arith) (whole (xs ++ y ∷ []) ys c (e ∙ sym (append_assoc xs (y ∷ []) ys))),
)

pub all_of : {A : Type 0} (c : List A) → Holds c 0 c
all_of c = whole [] c c refl

-- from p the lines of a piece reach q
pub record Far (p : ℕ) (a : Piece) (q : ℕ) : Type 0 where
  pub is : p + length a.lines ≡ q

pub far : {p q r : ℕ} {a b : Piece} → Far p a q → Far q b r → Far p (beside a b) r
unfolding beside
far {p} {q} {r} {a} {b} e f = let l = length-append a.lines b.lines in let m = e.is in let n = f.is in record { is = omega arith }

pub next : {p q : ℕ} {a : Piece} (x : Instr) (at : Place) → Far (suc p) a q → Far p (line x at a) q
unfolding line
next {p} {q} {a} x at e = let m = e.is in record { is = omega arith }

pub stop : {q : ℕ} → Far q nothing q
stop {q} = record { is = omega arith }

pub sited : {p q : ℕ} {a : Piece} (s : Site) → Far p a q → Far p (with_site s a) q
unfolding with_site
sited s e = record { is = e.is }

pub texted : {p q : ℕ} {a : Piece} (t : List ℕ) → Far p a q → Far p (with_text t a) q
unfolding with_text
texted t e = record { is = e.is }

pub branched : {p q : ℕ} {a : Piece} (bs : List Branch) → Far p a q → Far p (with_branches bs a) q
unfolding with_branches
branched bs e = record { is = e.is }

module _ (C : PlainCode) where
  -- the body of a branch stands in the code
  pub record BranchStands (j : ℕ) (b : Branch) : Type 0 where
    pub title : (body_at C j).title ≡ b.title
    pub begins : BeginsAt C (body_at C j).lines b.takes
    pub stmt : StmtAt C (body_at C j).lines (first_place b.takes) b.stmt
    pub place : Place
    pub ends : LineAt (body_at C j).lines (after_stmt (first_place b.takes) b.stmt) i.End place

  abbrev pub Queued : ℕ → List Branch → Type 0
  Queued j [] = Unit {0}
  Queued j (b ∷ bs) = BranchStands j b × Queued (suc j) bs

  pub queued : (xs ys : List Branch) (j : ℕ) → Queued j (xs ++ ys) → Queued j xs × Queued (j + length xs) ys
  queued [] ys j h = (tt, subst (λ q. Queued q ys) (omega arith) h)
  queued (x ∷ xs) ys j h = let r = queued xs ys (suc j) h.1 in ((h.0, r.0), subst (λ q. Queued q ys) (omega arith) r.1)

  -- a piece stands in the lines c from p on, with its sites, texts and branches where k says
  pub record Laid (c : List Line) (k : Next) (p : ℕ) (a : Piece) : Type 0 where
    pub lines : Holds c p a.lines
    pub sites : Holds C.sites k.site a.sites
    pub texts : Holds C.texts k.text a.texts
    pub branches : Queued k.body a.branches

  pub cut : {c : List Line} {k : Next} {p q : ℕ} {a b : Piece} → Far p a q → Laid c k p (beside a b) → Laid c k p a × Laid c (past k a) q b
  unfolding beside
  cut {c} {k} {p} {q} {a} {b} e h =
      let l = split c a.lines b.lines p h.lines in
      let s = split C.sites a.sites b.sites k.site h.sites in
      let t = split C.texts a.texts b.texts k.text h.texts in
      let r = queued a.branches b.branches k.body h.branches in (
        record { lines = l.0; sites = s.0; texts = t.0; branches = r.0 },
        record {
          lines = subst (λ z. Holds c z b.lines) e.is l.1;
          sites = s.1;
          texts =
              t.1;
          branches = r.1;
        },
      )

  pub here : {c : List Line} {k : Next} {p : ℕ} {x : Instr} {at : Place} {a : Piece} → Laid c k p (line x at a) → LineAt c p x at × Laid c k (suc p) a
  unfolding line
  here h = (h.lines.0, record { lines = h.lines.1; sites = h.sites; texts = h.texts; branches = h.branches })

  pub here_sited : {c : List Line} {k : Next} {p : ℕ} {s : Site} (a : Piece) → Laid c k p (with_site s a) →
      (slice_get C.sites k.site ≡ Some s) × Holds c p a.lines
  unfolding with_site
  here_sited a h = (h.sites.0, h.lines)

  pub here_texted : {c : List Line} {k : Next} {p : ℕ} {t : List ℕ} (a : Piece) → Laid c k p (with_text t a) →
      (slice_get C.texts k.text ≡ Some t) × Holds c p a.lines
  unfolding with_text
  here_texted a h = (h.texts.0, h.lines)

  pub here_branched : {c : List Line} {k : Next} {p : ℕ} {s : Site} (bs : List Branch) (a : Piece) → Laid c k p (with_branches bs (with_site s a)) →
      Queued k.body bs × (slice_get C.sites k.site ≡ Some s) × Holds c p a.lines
  unfolding with_branches with_site
  here_branched bs a h = (h.branches, h.sites.0, h.lines)

pub one_line : {x : Instr} {at : Place} (c : List Line) (p : ℕ) (a : Piece) → Holds c p (line x at a).lines → LineAt c p x at × Holds c (suc p) a.lines
unfolding line
one_line c p a h = h
