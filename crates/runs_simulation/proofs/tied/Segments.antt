-- The events of a task up to some moment, with all events of the branches that it has begun and joined, in the order of elision.
use Rattle.std.proofs.Common.{◌≡◌, ◌≤◌, ◌<◌, ◌⊎◌, inl, inr, ⊎_elim, ℕ, suc, ◌+◌, List, [], ◌∷◌, ◌++◌, length, refl, sym, ap, ap₂, ◌∙◌, subst, arith, append_assoc, append-nil, length-append}
use Rattle.runs_theory.specs.Actions.{Begin, End, Ending}
use Rattle.runs_theory.specs.Objects.{Path}
use Rattle.runs_theory.specs.Order.{InOrder, Lex, level_with, lower, position, shorter, way}
use Rattle.runs_theory.specs.Runs.{Event, Run, Upto, count, later, mine, now}
use Rattle.runs_theory.proofs.events.Mine.{mine_nil, mine_other, mine_same, mine_upto, path_cases}
use Rattle.runs_theory.proofs.events.Upto.{upto_none, upto_split, upto_trans}

pub data Seg (R : Run) : Path → Run → Run → Type 0 where
  seg_none : {p : Path} → Seg R p [] []
  seg_own : {p : Path} {es S : Run} (e : Event) → e.path ≡ p → ((b : ℕ) → e.act ≡ Begin b → ⊥) → Seg R p es S → Seg R p (e ∷ es) (e ∷ S)
  -- a branch that has ended
  seg_begin : {p : Path} {es S es' U : Run} (g : Event) (n b : ℕ) (x : Event) (z : Ending) → g.path ≡ p → g.act ≡ Begin b → length es ≡ suc (n + b)
      → x.act ≡ End z → Upto (x ∷ es') (mine R ((n, b) ∷ p)) → Seg R ((n, b) ∷ p) (x ∷ es') U → Seg R p es S → Seg R p (g ∷ es) (U ++ g ∷ S)

pub seg_later : {R : Run} {p : Path} {es S : Run} (e : Event) → Seg R p es S → Seg (e ∷ R) p es S
seg_later e seg_none = seg_none
seg_later e (seg_own x a b h) = seg_own x a b (seg_later e h)
seg_later e (seg_begin {p} g n b x z a c d f u h k) = seg_begin g n b x z a c d f (upto_trans u (mine_upto ((n, b) ∷ p) (later now))) (seg_later e h) (seg_later e k)

-- lists
pub mine_on : (U S : Run) (q : Path) → mine (U ++ S) q ≡ mine U q ++ mine S q
mine_on [] S q = ap (λ l. l ++ mine S q) (sym (mine_nil q))
mine_on (x ∷ U) S q = go (mine_on U S q) (path_cases x.path q)
  where
    go : mine (U ++ S) q ≡ mine U q ++ mine S q → (x.path ≡ q) ⊎ (x.path ≡ q → ⊥) → mine (x ∷ U ++ S) q ≡ mine (x ∷ U) q ++ mine S q
    go rec (inl e) = mine_same x (U ++ S) q e ∙ ap (λ l. x ∷ l) rec ∙ ap (λ l. l ++ mine S q) (sym (mine_same x U q e))
    go rec (inr e) = mine_other x (U ++ S) q e ∙ rec ∙ ap (λ l. l ++ mine S q) (sym (mine_other x U q e))

pub mine_none : (S : Run) (q : Path) → ((x : Event) (X : Run) → Upto (x ∷ X) S → x.path ≡ q → ⊥) → mine S q ≡ []
mine_none [] q h = mine_nil q
mine_none (x ∷ S) q h = mine_other x S q (λ e. h x S now e) ∙ mine_none S q (λ y Y u e. h y Y (later u) e)

upto_on : {x : Event} {X : Run} (U S : Run) → Upto (x ∷ X) (U ++ S) → ((Y : Run) × (X ≡ Y ++ S) × Upto (x ∷ Y) U) ⊎ Upto (x ∷ X) S
upto_on [] S h = inr h
upto_on {x} {X} (u ∷ U) S h = go (λ k. upto_on U S k) (upto_split h)
  where
    go : (Upto (x ∷ X) (U ++ S) → ((Y : Run) × (X ≡ Y ++ S) × Upto (x ∷ Y) U) ⊎ Upto (x ∷ X) S) → ((x ≡ u) × (X ≡ U ++ S)) ⊎ Upto (x ∷ X) (U ++ S)
        → ((Y : Run) × (X ≡ Y ++ S) × Upto (x ∷ Y) (u ∷ U)) ⊎ Upto (x ∷ X) S
    go rec (inl e) = inl (U, e.1, subst (λ y. Upto (y ∷ U) (u ∷ U)) (sym e.0) now)
    go rec (inr k) = ⊎_elim (λ r. inl (r.0, r.1, later r.2)) (λ r. inr r) (rec k)

-- paths and ways
pub longer : (zs : Path) (u : ℕ × ℕ) (p : Path) → zs ++ u ∷ p ≡ p → ⊥
longer zs u p e = (let a = ap (λ z. length z) e in let b = length-append zs (u ∷ p) in omega (arith, a, b))

below_child : (zs : Path) (u : ℕ × ℕ) (p : Path) → zs ++ u ∷ p ≡ (zs ++ u ∷ []) ++ p
below_child zs u p = sym (append_assoc zs (u ∷ []) p)

way_below : (zs : Path) (u : ℕ × ℕ) (p : Path) → (more : List ℕ) × (way (zs ++ u ∷ p) ≡ way p ++ suc (u.0 + u.1) ∷ more)
way_below [] u p = ([], refl)
way_below (v ∷ zs) u p =
    let r = way_below zs u p in
    (r.0 ++ suc (v.0 + v.1) ∷ [], ap (λ l. l ++ suc (v.0 + v.1) ∷ []) r.1 ∙ append_assoc (way p) (suc (u.0 + u.1) ∷ r.0) (suc (v.0 + v.1) ∷ []))

head_same : (xs : List ℕ) (a b : ℕ) (as' bs : List ℕ) → xs ++ a ∷ as' ≡ xs ++ b ∷ bs → a ≡ b
head_same [] a b as' bs e = cc
head_same (x ∷ xs) a b as' bs e = head_same xs a b as' bs (let t : xs ++ a ∷ as' ≡ xs ++ b ∷ bs = cc in t)

lex_lower : (xs : List ℕ) (a b : ℕ) (as' bs : List ℕ) → a < b → Lex (xs ++ a ∷ as') (xs ++ b ∷ bs)
lex_lower [] a b as' bs h = lower h
lex_lower (x ∷ xs) a b as' bs h = level_with (lex_lower xs a b as' bs h)

lex_under : (xs : List ℕ) (a b : ℕ) (bs : List ℕ) → Lex (xs ++ a ∷ []) (xs ++ a ∷ b ∷ bs)
lex_under [] a b bs = level_with shorter
lex_under (x ∷ xs) a b bs = level_with (lex_under xs a b bs)

-- two paths below different branches of one task differ
pub tails_same : (ys zs : Path) (u v : ℕ × ℕ) (p : Path) → ys ++ u ∷ p ≡ zs ++ v ∷ p → u ≡ v
tails_same [] [] u v p e = (cc)
tails_same [] (z ∷ zs) u v p e = absurd (let a = ap (λ l. length l) e in let b = length-append zs (v ∷ p) in omega (arith, a, b))
tails_same (y ∷ ys) [] u v p e = absurd (let a = ap (λ l. length l) e in let b = length-append ys (u ∷ p) in omega (arith, a, b))
tails_same (y ∷ ys) (z ∷ zs) u v p e = tails_same ys zs u v p (let t : ys ++ u ∷ p ≡ zs ++ v ∷ p = cc in t)

-- all events are those of the task and of tasks below it
pub seg_below : {R : Run} {p : Path} {es S : Run} → Seg R p es S → (x : Event) (X : Run) → Upto (x ∷ X) S → (zs : Path) × (x.path ≡ zs ++ p)
seg_below seg_none x X u = absurd (upto_none u)
seg_below {p = p} (seg_own {S = S} e a b h) x X u = ⊎_elim (λ k. ([], ap (λ (y : Event). y.path) k.0 ∙ a)) (λ k. seg_below h x X k) (upto_split u)
seg_below {p = p} (seg_begin {S = S} {U = U} g n b y z a c d f w h k) x X u =
    ⊎_elim
    (λ i. (let r = seg_below h x i.0 i.2 in (r.0 ++ (n, b) ∷ [], r.1 ∙ below_child r.0 (n, b) p)))
    (λ i. ⊎_elim (λ j. ([], ap (λ (y : Event). y.path) j.0 ∙ a)) (λ j. seg_below k x X j) (upto_split i)) (upto_on U (g ∷ S) u)

none_above : {R : Run} {p : Path} {u : ℕ × ℕ} {es U : Run} → Seg R (u ∷ p) es U → mine U p ≡ []
none_above {p = p} {u = u} {U = U} h = mine_none U p (λ x X k e. (let r = seg_below h x X k in longer r.0 u p (sym r.1 ∙ e)))

pub seg_mine : {R : Run} {p : Path} {es S : Run} → Seg R p es S → mine S p ≡ es
seg_mine {p = p} seg_none = mine_nil p
seg_mine {p = p} (seg_own {S = S} e a b h) = mine_same e S p a ∙ ap (λ l. e ∷ l) (seg_mine h)
seg_mine {p = p} (seg_begin {S = S} {U = U} g n b x z a c d f w h k) =
    mine_on U (g ∷ S) p ∙ ap (λ l. l ++ mine (g ∷ S) p) (none_above h) ∙ mine_same g S p a ∙ ap (λ l. g ∷ l) (seg_mine k)

-- where an event stands among those of a task and below it
record Placed (p : Path) (many : ℕ) (x : Event) (X : Run) : Type 0 where
  number : ℕ
  rest : List ℕ
  is : position x.path (count X x.path) ≡ way p ++ number ∷ rest
  low : number < many

-- nothing below a branch that isn't begun yet
module _ {p : Path} {S : Run} {many : ℕ} (placed : (x : Event) (X : Run) → Upto (x ∷ X) S → Placed p many x X) where
  not_below : (zs : Path) (u : ℕ × ℕ) → many ≤ suc (u.0 + u.1) → mine S (zs ++ u ∷ p) ≡ []
  not_below zs u l = mine_none S (zs ++ u ∷ p) none
    where
      none : (x : Event) (X : Run) → Upto (x ∷ X) S → x.path ≡ zs ++ u ∷ p → ⊥
      none x X h e =
          let P = placed x X h in
          let w = way_below zs u p in
          let at : position x.path (count X x.path) ≡ way p ++ suc (u.0 + u.1) ∷ (w.0 ++ count X x.path ∷ []) =
          ap (λ q. way q ++ count X x.path ∷ []) e ∙ ap (λ l. l ++ count X x.path ∷ []) w.1 ∙ append_assoc (way p) (suc (u.0 + u.1) ∷ w.0) (count X x.path ∷ []) in
          let same = head_same (way p) P.number (suc (u.0 + u.1)) P.rest (w.0 ++ count X x.path ∷ []) (sym P.is ∙ at) in
          let low = P.low in
          omega (arith, same, low, l)

-- an event of a branch, among those of its parent
module _ {R : Run} {p : Path} {S es' U : Run} (many : ℕ) (g : Event) (n b : ℕ) (a : g.path ≡ p) (d : many ≡ suc (n + b)) (h : Seg R ((n, b) ∷ p) es' U)
    (placed : (x : Event) (X : Run) → Upto (x ∷ X) S → Placed p many x X) where
  child_apart : (x : Event) (Y : Run) → Upto (x ∷ Y) U → mine (g ∷ S) x.path ≡ []
  child_apart x Y u =
      let r = seg_below h x Y u in
      subst (λ q. mine (g ∷ S) q ≡ []) (sym r.1)
      (mine_other g S (r.0 ++ (n, b) ∷ p) (λ e. longer r.0 (n, b) p (sym e ∙ a)) ∙ not_below {many = many} placed r.0 (n, b) (omega (arith, d)))

  child_count : (x : Event) (Y : Run) → Upto (x ∷ Y) U → count (Y ++ g ∷ S) x.path ≡ count Y x.path
  child_count x Y u = ap length (mine_on Y (g ∷ S) x.path ∙ ap (λ l. mine Y x.path ++ l) (child_apart x Y u) ∙ append-nil (mine Y x.path))

  child_placed : (x : Event) (Y : Run) → Upto (x ∷ Y) U → (k : ℕ) (rest : List ℕ) → position x.path (count Y x.path) ≡ way ((n, b) ∷ p) ++ k ∷ rest
      → position x.path (count (Y ++ g ∷ S) x.path) ≡ way p ++ suc (n + b) ∷ k ∷ rest
  child_placed x Y u k rest e = ap (λ c. position x.path c) (child_count x Y u) ∙ e ∙ append_assoc (way p) (suc (n + b) ∷ []) (k ∷ rest)

abbrev AllPlaced : Path → ℕ → Run → Type 0
AllPlaced p many S = (x : Event) (X : Run) → Upto (x ∷ X) S → Placed p many x X

placed_more : {p : Path} {many : ℕ} {x : Event} {X : Run} → Placed p many x X → Placed p (suc many) x X
placed_more P = (let l = P.low in record { number = P.number; rest = P.rest; is = P.is; low = omega (arith, l) })

placed_next : {R : Run} {p : Path} {es S : Run} (e : Event) → e.path ≡ p → Seg R p es S → AllPlaced p (length es) S → AllPlaced p (suc (length es)) (e ∷ S)
placed_next {p = p} {es} {S} e a h rec x X u = ⊎_elim own (λ k. placed_more (rec x X k)) (upto_split u)
  where
    own : (x ≡ e) × (X ≡ S) → Placed p (suc (length es)) x X
    own k = record {
      number = length es;
      rest = [];
      is = ap₂ (λ (y : Event) (Y : Run). position y.path (count Y y.path)) k.0 k.1 ∙ ap (λ q. position q (count S q)) a
          ∙ ap (λ l. position p (length l)) (seg_mine h);
      low = omega arith;
    }

placed_begin : {R : Run} {p : Path} {es S es' U : Run} (g : Event) (n b : ℕ) → g.path ≡ p → length es ≡ suc (n + b) → Seg R ((n, b) ∷ p) es' U → Seg R p es S
    → AllPlaced ((n, b) ∷ p) (length es') U → AllPlaced p (length es) S → AllPlaced p (suc (length es)) (U ++ g ∷ S)
placed_begin {p = p} {es} {S} {es'} {U} g n b a d h k rec_h rec_k x X u = ⊎_elim inside (λ i. placed_next g a k rec_k x X i) (upto_on U (g ∷ S) u)
  where
    inside : (Y : Run) × (X ≡ Y ++ g ∷ S) × Upto (x ∷ Y) U → Placed p (suc (length es)) x X
    inside i = (let r = rec_h x i.0 i.2 in record {
      number = suc (n + b);
      rest = r.number ∷ r.rest;
      is = ap (λ Z. position x.path (count Z x.path)) i.1 ∙ child_placed (length es) g n b a d h rec_k x i.0 i.2 r.number r.rest r.is;
      low = omega (arith, d);
    })

seg_placed : {R : Run} {p : Path} {es S : Run} → Seg R p es S → AllPlaced p (length es) S
seg_placed seg_none = λ x X u. absurd (upto_none u)
seg_placed (seg_own e a b h) = placed_next e a h (seg_placed h)
seg_placed (seg_begin g n b y z a c d f w h k) = placed_begin g n b a d h k (seg_placed h) (seg_placed k)

-- nothing is below a branch that isn't begun yet
pub only_begun : {R : Run} {p : Path} {es S : Run} → Seg R p es S → (zs : Path) (u : ℕ × ℕ) → length es ≤ suc (u.0 + u.1) → mine S (zs ++ u ∷ p) ≡ []
only_begun {es = es} h zs u l = not_below {many = length es} (seg_placed h) zs u l

-- so they stand in the order of elision
abbrev Ordered : Run → Type 0
Ordered S = (y x : Event) (Y X : Run) → Upto (y ∷ Y) S → Upto (x ∷ X) Y → Lex (position x.path (count X x.path)) (position y.path (count Y y.path))

order_next : {R : Run} {p : Path} {es S : Run} (e : Event) → e.path ≡ p → Seg R p es S → AllPlaced p (length es) S → Ordered S → Ordered (e ∷ S)
order_next {p = p} {es} {S} e a h placed rec y x Y X u w = ⊎_elim first (λ k. rec y x Y X k w) (upto_split u)
  where
    first : (y ≡ e) × (Y ≡ S) → Lex (position x.path (count X x.path)) (position y.path (count Y y.path))
    first k =
        let P = placed x X (subst (λ Z. Upto (x ∷ X) Z) k.1 w) in
        let at : way p ++ length es ∷ [] ≡ position y.path (count Y y.path) =
        sym (ap₂ (λ (z : Event) (Z : Run). position z.path (count Z z.path)) k.0 k.1 ∙ ap (λ q. position q (count S q)) a ∙ ap (λ l. position p (length l)) (seg_mine h)) in
        subst (λ l. Lex (position x.path (count X x.path)) l) at (subst (λ l. Lex l (way p ++ length es ∷ [])) (sym P.is) (lex_lower (way p) P.number (length es) P.rest [] P.low))

order_begin : {R : Run} {p : Path} {es S es' U : Run} (g : Event) (n b : ℕ) → g.path ≡ p → length es ≡ suc (n + b) → Seg R ((n, b) ∷ p) es' U → Seg R p es S
    → AllPlaced ((n, b) ∷ p) (length es') U → AllPlaced p (length es) S → Ordered U → Ordered (g ∷ S) → Ordered (U ++ g ∷ S)
order_begin {p = p} {es} {S} {es'} {U} g n b a d h k rec_h rec_k inner outer y x Y X u w =
    ⊎_elim (λ i. in_child i (upto_on i.0 (g ∷ S) (subst (λ Z. Upto (x ∷ X) Z) i.1 w))) (λ i. outer y x Y X i w) (upto_on U (g ∷ S) u)
  where
    in_child : (i : (V : Run) × (Y ≡ V ++ g ∷ S) × Upto (y ∷ V) U) → ((W : Run) × (X ≡ W ++ g ∷ S) × Upto (x ∷ W) i.0) ⊎ Upto (x ∷ X) (g ∷ S)
        → Lex (position x.path (count X x.path)) (position y.path (count Y y.path))
    in_child i (inl j) =
        let xu : Upto (x ∷ j.0) U = upto_trans j.2 (upto_trans (later now) i.2) in
        let px = ap (λ Z. position x.path (count Z x.path)) j.1 ∙ ap (λ c. position x.path c) (child_count (length es) g n b a d h rec_k x j.0 xu) in
        let py = ap (λ Z. position y.path (count Z y.path)) i.1 ∙ ap (λ c. position y.path c) (child_count (length es) g n b a d h rec_k y i.0 i.2) in
        subst (λ l. Lex l (position y.path (count Y y.path))) (sym px) (subst (λ l. Lex (position x.path (count j.0 x.path)) l) (sym py) (inner y x i.0 j.0 i.2 j.2))
    in_child i (inr j) =
        let r = rec_h y i.0 i.2 in
        let py : position y.path (count Y y.path) ≡ way p ++ suc (n + b) ∷ r.number ∷ r.rest =
        ap (λ Z. position y.path (count Z y.path)) i.1 ∙ child_placed (length es) g n b a d h rec_k y i.0 i.2 r.number r.rest r.is in
        subst (λ l. Lex (position x.path (count X x.path)) l) (sym py) (⊎_elim (begin r.number r.rest) (before r.number r.rest) (upto_split j))
      where
        begin : (number : ℕ) (rest : List ℕ) → (x ≡ g) × (X ≡ S) → Lex (position x.path (count X x.path)) (way p ++ suc (n + b) ∷ number ∷ rest)
        begin number rest e =
            let at : position x.path (count X x.path) ≡ way p ++ suc (n + b) ∷ [] =
            ap₂ (λ (z : Event) (Z : Run). position z.path (count Z z.path)) e.0 e.1 ∙ ap (λ q. position q (count S q)) a
            ∙ ap (λ l. position p (length l)) (seg_mine k) ∙ ap (λ c. way p ++ c ∷ []) d in
            subst (λ l. Lex l (way p ++ suc (n + b) ∷ number ∷ rest)) (sym at) (lex_under (way p) (suc (n + b)) number rest)

        before : (number : ℕ) (rest : List ℕ) → Upto (x ∷ X) S → Lex (position x.path (count X x.path)) (way p ++ suc (n + b) ∷ number ∷ rest)
        before number rest e =
            let P = rec_k x X e in
            let l = P.low in
            subst (λ l. Lex l (way p ++ suc (n + b) ∷ number ∷ rest)) (sym P.is) (lex_lower (way p) P.number (suc (n + b)) P.rest (number ∷ rest) (omega (arith, l, d)))

seg_ordered : {R : Run} {p : Path} {es S : Run} → Seg R p es S → Ordered S
seg_ordered seg_none = λ y x Y X u w. absurd (upto_none u)
seg_ordered (seg_own e a b h) = order_next e a h (seg_placed h) (seg_ordered h)
seg_ordered (seg_begin g n b y z a c d f w h k) =
    order_begin g n b a d h k (seg_placed h) (seg_placed k) (seg_ordered h) (order_next g a k (seg_placed k) (seg_ordered k))

pub seg_in_order : {R : Run} {p : Path} {es S : Run} → Seg R p es S → InOrder S
seg_in_order h = record { each = seg_ordered h }
