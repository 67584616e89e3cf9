-- One branch more: what the branches before it do, and whether two of them clash.
use Rattle.std.proofs.Common.{◌≡◌, ◌↔◌, ◌⊎◌, ◌||◌, ◌==◌, ℕ, zero, suc, ◌+◌, ◌<◌, ◌≤◌, Bool, true, false, refl, [], ◌∷◌, IsTrue, Contains, List, length, get_or, inl, inr, ⊎_elim, sym, subst, arith}
use Rattle.std.proofs.lemmas.Bool.{both_ways, cases_lt, or_cases, or_left, or_right, eqb-true, eq-eqb}
use Rattle.std.proofs.lemmas.List.{get_or_default, get_or_read}
use Rattle.std.specs.BTreeSet.{BTreeSet}
use Rattle.lang_base.specs.Pairs.{NoPair}
use Rattle.body_locals.specs.declared.branch.Touched.{Touched}
use Rattle.body_locals.specs.Clash.{Uses, Clash}
use Rattle.body_locals.specs.Gains.{has, is_noted}
use Rattle.body_locals.specs.Earlier.{has_some, meets, Earlier, UsesLocal, AssignsLocal}

-- one test more
pub or_step : (first second rest : Bool) → ((first || second) || rest) ≡ (first || (second || rest))
or_step true second rest = refl
or_step false second rest = refl

-- what is true of the branch that was read is true of the one at its place, and the other way round
there : (P : Touched → Type 0) (bs : List Touched) (n : ℕ) (b : Touched) → n < length bs → b ≡ get_or bs n b → P b → (d : Touched) → P (get_or bs n d)
there P bs n b lt is p d = subst P (get_or_read bs n b lt is d) p

here : (P : Touched → Type 0) (bs : List Touched) (n : ℕ) (b d : Touched) → n < length bs → b ≡ get_or bs n b → P (get_or bs n d) → P b
here P bs n b d lt is p = subst P (sym (get_or_read bs n b lt is d)) p

every : (P : Touched → Type 0) (bs : List Touched) (i : ℕ) (d : Touched) → i < length bs → P (get_or bs i d) → (e : Touched) → P (get_or bs i e)
every P bs i d lt p e = subst P (get_or_default bs i d e lt) p

earlier-last : (P : Touched → Type 0) (bs : List Touched) (n : ℕ) (b : Touched) → n < length bs → b ≡ get_or bs n b → Earlier P bs (n + 1) → Earlier P bs n ⊎ P b
earlier-last P bs n b lt is (i, below, p) =
    ⊎_elim
    (λ (less : i < n). inl (i, less, p))
    (λ (least : n ≤ i). let same : i ≡ n = omega arith in inr (here P bs n b b lt is (subst (λ (k : ℕ). P (get_or bs k b)) same (p b))))
    (cases_lt i n)

earlier-more : (P : Touched → Type 0) (bs : List Touched) (n : ℕ) (b : Touched) → n < length bs → b ≡ get_or bs n b → Earlier P bs n ⊎ P b → Earlier P bs (n + 1)
earlier-more P bs n b lt is =
    ⊎_elim
    (λ (e : Earlier P bs n). (e.0, omega (arith, e.1), e.2))
    (λ (p : P b). (n, omega arith, there P bs n b lt is p))

-- a set that tells what the branches before do tells it with one branch more
pub reported-more : (P : Touched → Type 0) (bs : List Touched) (n : ℕ) (b : Touched) (before after : Bool) → n < length bs → b ≡ get_or bs n b → IsTrue before ↔ Earlier P bs n → IsTrue after ↔ (IsTrue before ⊎ P b) → IsTrue after ↔ Earlier P bs (n + 1)
reported-more P bs n b before after lt is h step = (
  λ t. earlier-more P bs n b lt is (⊎_elim (λ (s : IsTrue before). inl (h.0 s)) (λ (p : P b). inr p) (step.0 t)),
  λ e. step.1 (⊎_elim (λ (s : Earlier P bs n). inl (h.1 s)) (λ (p : P b). inr p) (earlier-last P bs n b lt is e)),
)

-- one of the locals is in the set; the branch assigns a local that is used before, or reads one that is assigned before
abbrev HasSome : BTreeSet ℕ → List ℕ → Type 0
HasSome set locals = (x : ℕ) × Contains locals x × IsTrue (has set x)

abbrev Meets : BTreeSet ℕ → BTreeSet ℕ → Touched → Type 0
Meets used assigned b = HasSome used b.writes ⊎ HasSome assigned b.reads

-- a name is among names exactly where it is one of them
noted_contains : (xs : List ℕ) (x : ℕ) → is_noted xs x ≡ true → Contains xs x
noted_contains [] x e = absurd (cc)
noted_contains (y ∷ ys) x e =
    ⊎_elim
    (λ (h : (y == x) ≡ true). (0, omega arith, eqb-true y x h))
    (λ (h : is_noted ys x ≡ true). let c : Contains ys x = noted_contains ys x h in (suc c.0, omega (arith, c.1), c.2))
    (or_cases (y == x) (is_noted ys x) e)

contains_noted : (xs : List ℕ) (x k : ℕ) → k < length xs → get_or xs k x ≡ x → is_noted xs x ≡ true
contains_noted [] x k lt e = absurd (omega (arith, lt))
contains_noted (y ∷ ys) x zero lt e = or_left (y == x) (is_noted ys x) (eq-eqb y x e)
contains_noted (y ∷ ys) x (suc k) lt e = or_right (y == x) (is_noted ys x) (contains_noted ys x k (omega (arith, lt)) e)

-- one of the locals is in the set
some_reported : (set : BTreeSet ℕ) (xs : List ℕ) → has_some set xs ≡ true → HasSome set xs
some_reported set [] e = absurd (cc)
some_reported set (y ∷ ys) e =
    ⊎_elim
    (λ (h : has set y ≡ true). (y, (0, omega arith, refl), h))
    (λ (h : has_some set ys ≡ true). let s : HasSome set ys = some_reported set ys h in (s.0, (suc s.1.0, omega (arith, s.1.1), s.1.2), s.2))
    (or_cases (has set y) (has_some set ys) e)

reported_some : (set : BTreeSet ℕ) (xs : List ℕ) (x k : ℕ) → k < length xs → get_or xs k x ≡ x → has set x ≡ true → has_some set xs ≡ true
reported_some set [] x k lt e h = absurd (omega (arith, lt))
reported_some set (y ∷ ys) x zero lt e h = or_left (has set y) (has_some set ys) (subst (λ (z : ℕ). has set z ≡ true) (sym e) h)
reported_some set (y ∷ ys) x (suc k) lt e h = or_right (has set y) (has_some set ys) (reported_some set ys x k (omega (arith, lt)) e h)

meets_reported : (used assigned : BTreeSet ℕ) (b : Touched) → IsTrue (meets used assigned b) ↔ Meets used assigned b
meets_reported used assigned b = (
  λ t. ⊎_elim
      (λ (h : has_some used b.writes ≡ true). inl (some_reported used b.writes h))
      (λ (h : has_some assigned b.reads ≡ true). inr (some_reported assigned b.reads h))
      (or_cases (has_some used b.writes) (has_some assigned b.reads) t),
  λ m. ⊎_elim
      (λ (s : HasSome used b.writes). or_left (has_some used b.writes) (has_some assigned b.reads) (reported_some used b.writes s.0 s.1.0 s.1.1 s.1.2 s.2))
      (λ (s : HasSome assigned b.reads). or_right (has_some used b.writes) (has_some assigned b.reads) (reported_some assigned b.reads s.0 s.1.0 s.1.1 s.1.2 s.2))
      m,
)

noted_reported : (before : Bool) (xs : List ℕ) (x : ℕ) → IsTrue (before || is_noted xs x) ↔ (IsTrue before ⊎ Contains xs x)
noted_reported before xs x = (
  λ t. ⊎_elim (λ (h : before ≡ true). inl h) (λ (h : is_noted xs x ≡ true). inr (noted_contains xs x h)) (or_cases before (is_noted xs x) t),
  λ m. ⊎_elim
      (λ (h : IsTrue before). or_left before (is_noted xs x) h)
      (λ (c : Contains xs x). or_right before (is_noted xs x) (contains_noted xs x c.0 c.1 c.2))
      m,
)

-- a set with the locals that a branch assigns
pub assigned_reported : (before after : BTreeSet ℕ) (b : Touched) (ws : List ℕ) → ws ≡ b.writes → ((x : ℕ) → has after x ≡ (has before x || is_noted ws x)) → (x : ℕ) → IsTrue (has after x) ↔ (IsTrue (has before x) ⊎ Contains b.writes x)
assigned_reported before after b ws same is x =
    subst (λ (zs : List ℕ). IsTrue (has after x) ↔ (IsTrue (has before x) ⊎ Contains zs x)) same
    (subst (λ (t : Bool). IsTrue t ↔ (IsTrue (has before x) ⊎ Contains ws x)) (sym (is x)) (noted_reported (has before x) ws x))

-- and with those that it reads
pub used_reported : (before mid after : BTreeSet ℕ) (b : Touched) (rs ws : List ℕ) → rs ≡ b.reads → ws ≡ b.writes → ((x : ℕ) → has mid x ≡ (has before x || is_noted rs x)) → ((x : ℕ) → has after x ≡ (has mid x || is_noted ws x)) → (x : ℕ) → IsTrue (has after x) ↔ (IsTrue (has before x) ⊎ Uses b x)
used_reported before mid after b rs ws reads writes first second x =
    let one : IsTrue (has mid x) ↔ (IsTrue (has before x) ⊎ Contains b.reads x) = subst (λ (zs : List ℕ). IsTrue (has mid x) ↔ (IsTrue (has before x) ⊎ Contains zs x)) reads (subst (λ (t : Bool). IsTrue t ↔ (IsTrue (has before x) ⊎ Contains rs x)) (sym (first x)) (noted_reported (has before x) rs x)) in
    let two : IsTrue (has after x) ↔ (IsTrue (has mid x) ⊎ Contains b.writes x) = assigned_reported mid after b ws writes second x in (
      λ t. ⊎_elim
          (λ (m : IsTrue (has mid x)). ⊎_elim (λ (o : IsTrue (has before x)). inl o) (λ (r : Contains b.reads x). inr (inl r)) (one.0 m))
          (λ (w : Contains b.writes x). inr (inr w))
          (two.0 t),
      λ m. ⊎_elim
          (λ (o : IsTrue (has before x)). two.1 (inl (one.1 (inl o))))
          (λ (u : Uses b x). ⊎_elim (λ (r : Contains b.reads x). two.1 (inl (one.1 (inr r)))) (λ (w : Contains b.writes x). two.1 (inr w)) u)
          m,
    )

-- no two of the first branches clash
abbrev pub NoneAmong : List Touched → ℕ → Type 0
NoneAmong bs n = (i j : ℕ) (d : Touched) → i < j → j < n → ¬ Clash (get_or bs i d) (get_or bs j d)

-- the sets tell what the first branches use and assign
pub record Tells (users writers : BTreeSet ℕ) (bs : List Touched) (n : ℕ) : Type 0 where
  pub used : (x : ℕ) → IsTrue (has users x) ↔ Earlier (UsesLocal x) bs n
  pub assigned : (x : ℕ) → IsTrue (has writers x) ↔ Earlier (AssignsLocal x) bs n

meets_from : (used assigned : BTreeSet ℕ) (bs : List Touched) (n i : ℕ) (b d : Touched) → Tells used assigned bs n → i < n → n < length bs → Clash (get_or bs i d) b → Meets used assigned b
meets_from used assigned bs n i b d t below lt (inl (x, w, u)) =
    let inside : i < length bs = omega arith in
    ⊎_elim
    (λ (r : Contains b.reads x). inr (x, r, (t.assigned x).1 (i, below, every (AssignsLocal x) bs i d inside w)))
    (λ (v : Contains b.writes x). inl (x, v, (t.used x).1 (i, below, every (UsesLocal x) bs i d inside (inr w))))
    u
meets_from used assigned bs n i b d t below lt (inr (x, w, u)) =
    let inside : i < length bs = omega arith in
    inl (x, w, (t.used x).1 (i, below, every (UsesLocal x) bs i d inside u))

-- the next branch meets none, so that one more doesn't clash
pub none-more : (used assigned : BTreeSet ℕ) (bs : List Touched) (n : ℕ) (b : Touched) → Tells used assigned bs n → n < length bs → b ≡ get_or bs n b → meets used assigned b ≡ false → NoneAmong bs n → NoneAmong bs (n + 1)
none-more used assigned bs n b t lt is apart h i j d ij below clash =
    ⊎_elim
    (λ (less : j < n). h i j d ij less clash)
    (λ (least : n ≤ j).
    let same : j ≡ n = omega arith in
    let early : i < n = omega arith in
    let at : Clash (get_or bs i d) (get_or bs n d) = subst (λ (k : ℕ). Clash (get_or bs i d) (get_or bs k d)) same clash in
    both_ways (meets used assigned b) apart ((meets_reported used assigned b).1 (meets_from used assigned bs n i b d t early lt (here (Clash (get_or bs i d)) bs n b d lt is at))))
    (cases_lt j n)

-- the next branch meets one, so that two clash
met-pair : (used assigned : BTreeSet ℕ) (bs : List Touched) (n : ℕ) (b : Touched) → Tells used assigned bs n → n < length bs → b ≡ get_or bs n b → Meets used assigned b → ¬ NoPair Clash bs
met-pair used assigned bs n b t lt is (inl (x, w, s)) none =
    let e : Earlier (UsesLocal x) bs n = (t.used x).0 s in
    let clash : Clash (get_or bs e.0 b) b = inr (x, w, e.2 b) in
    none e.0 n b e.1 lt (there (Clash (get_or bs e.0 b)) bs n b lt is clash b)
met-pair used assigned bs n b t lt is (inr (x, r, s)) none =
    let e : Earlier (AssignsLocal x) bs n = (t.assigned x).0 s in
    let clash : Clash (get_or bs e.0 b) b = inl (x, e.2 b, inl r) in
    none e.0 n b e.1 lt (there (Clash (get_or bs e.0 b)) bs n b lt is clash b)

pub some-pair : (used assigned : BTreeSet ℕ) (bs : List Touched) (n : ℕ) (b : Touched) → Tells used assigned bs n → n < length bs → b ≡ get_or bs n b → meets used assigned b ≡ true → ¬ NoPair Clash bs
some-pair used assigned bs n b t lt is met = met-pair used assigned bs n b t lt is ((meets_reported used assigned b).0 met)

-- the sets tell it of one branch more
pub tells-more : (used assigned used' assigned' : BTreeSet ℕ) (bs : List Touched) (n : ℕ) (b : Touched) → Tells used assigned bs n → n < length bs → b ≡ get_or bs n b → ((x : ℕ) → IsTrue (has used' x) ↔ (IsTrue (has used x) ⊎ Uses b x)) → ((x : ℕ) → IsTrue (has assigned' x) ↔ (IsTrue (has assigned x) ⊎ Contains b.writes x)) → Tells used' assigned' bs (n + 1)
tells-more used assigned used' assigned' bs n b t lt is first second = record {
  used = λ x. reported-more (UsesLocal x) bs n b (has used x) (has used' x) lt is (t.used x) (first x);
  assigned = λ x. reported-more (AssignsLocal x) bs n b (has assigned x) (has assigned' x) lt is (t.assigned x) (second x);
}
