-- Each faithful run can be put into the order of elision, by inserting its events one by one.
use Rattle.std.proofs.Common.{◌≡◌, ℕ, suc, ◌+◌, ◌<◌, ◌⊎◌, inl, inr, ⊎_elim, List, [], ◌∷◌, ◌++◌, length, refl, sym, ap, ◌∙◌, subst, arith}
use Rattle.std.proofs.lemmas.Bool.{cases_order}
use Rattle.runs_theory.specs.Actions.{Begin, Program, Task}
use Rattle.runs_theory.specs.Objects.{Path}
use Rattle.runs_theory.specs.Order.{InOrder, Lex, level_with, lower, position, shorter, way}
use Rattle.runs_theory.specs.Runs.{Begun, Event, Faithful, Run, Upto, branch, count, later, mine, now, root}
use Rattle.runs_theory.proofs.events.Mine.{path_cases, mine_same, mine_other, mine_at, found, same_of}
use Rattle.runs_theory.proofs.events.Carry.{begun_at}
use Rattle.runs_theory.proofs.events.Numbers.{same_begin}
use Rattle.runs_theory.proofs.order.Sorted.{lex_trans, lex_differ, order_tail}

data LexCases (xs ys : List ℕ) : Type 0 where
  less : Lex xs ys → LexCases xs ys
  same : xs ≡ ys → LexCases xs ys
  more : Lex ys xs → LexCases xs ys

lex_cases : (xs ys : List ℕ) → LexCases xs ys
lex_cases [] [] = same refl
lex_cases [] (y ∷ ys) = less shorter
lex_cases (x ∷ xs) [] = more shorter
lex_cases (x ∷ xs) (y ∷ ys) = go (cases_order x y) (lex_cases xs ys)
  where
    at : x ≡ y → LexCases xs ys → LexCases (x ∷ xs) (y ∷ ys)
    at e (less h) = less (subst (λ z. Lex (x ∷ xs) (z ∷ ys)) e (level_with h))
    at e (same h) = same (λ i. e i ∷ h i)
    at e (more h) = more (subst (λ z. Lex (z ∷ ys) (x ∷ xs)) e (level_with h))

    go : (x ≡ y) ⊎ ((x < y) ⊎ (y < x)) → LexCases xs ys → LexCases (x ∷ xs) (y ∷ ys)
    go (inl e) c = at e c
    go (inr (inl h)) c = less (lower h)
    go (inr (inr h)) c = more (lower h)

snoc_same : (xs ys : List ℕ) (a b : ℕ) → xs ++ a ∷ [] ≡ ys ++ b ∷ [] → (xs ≡ ys) × (a ≡ b)
snoc_same [] [] a b e = (refl, cc)
snoc_same [] (y ∷ []) a b e = absurd (cc)
snoc_same [] (y ∷ z ∷ ys) a b e = absurd (cc)
snoc_same (x ∷ []) [] a b e = absurd (cc)
snoc_same (x ∷ z ∷ xs) [] a b e = absurd (cc)
snoc_same (x ∷ xs) (y ∷ ys) a b e =
    let k : x ≡ y = cc in
    let t : xs ++ a ∷ [] ≡ ys ++ b ∷ [] = cc in
    let r = snoc_same xs ys a b t in
    ((λ i. k i ∷ r.0 i), r.1)

pub lex_snoc : (xs : List ℕ) (a b : ℕ) → a < b → Lex (xs ++ a ∷ []) (xs ++ b ∷ [])
lex_snoc [] a b h = lower h
lex_snoc (x ∷ xs) a b h = level_with (lex_snoc xs a b h)

snoc_some : (xs : List ℕ) (a : ℕ) → xs ++ a ∷ [] ≡ [] → ⊥
snoc_some [] a e = cc
snoc_some (x ∷ xs) a e = cc

-- tasks that have begun have one way each
one_way : (P : Program) {R : Run} {t s : Task} (p q : Path) → Faithful P R → Begun P R p t → Begun P R q s → way p ≡ way q → p ≡ q
one_way P [] [] l b c e = refl
one_way P [] (v ∷ q) l b c e = absurd (snoc_some (way q) (suc (v.0 + v.1)) (sym e))
one_way P (u ∷ p) [] l b c e = absurd (snoc_some (way p) (suc (u.0 + u.1)) e)
one_way P {R} {t} {s} (u ∷ p) (v ∷ q) l b c e = go b c (λ x y k. one_way P {t = x} {s = y} p q l k)
  where
    parts : (way p ≡ way q) × (suc (u.0 + u.1) ≡ suc (v.0 + v.1))
    parts = snoc_same (way p) (way q) (suc (u.0 + u.1)) (suc (v.0 + v.1)) e

    go : Begun P R (u ∷ p) t → Begun P R (v ∷ q) s → ((x y : Task) → Begun P R p x → Begun P R q y → way p ≡ way q → p ≡ q) → u ∷ p ≡ v ∷ q
    go (root a b) c rec = absurd (cc)
    go (branch p' u' F f ts B g a1 f1 f2 f3 f4 f5 g1 g2 g3 g4) (root a b) rec = absurd (cc)
    go (branch p' u' F f ts B g a1 f1 f2 f3 f4 f5 g1 g2 g3 g4) (branch q' v' H h us C k b1 h1 h2 h3 h4 h5 k1 k2 k3 k4) rec =
        let uu : u' ≡ u = cc in
        let pp : p' ≡ p = cc in
        let vv : v' ≡ v = cc in
        let qq : q' ≡ q = cc in
        let gp = g2 ∙ pp in
        let kq = k2 ∙ qq in
        let x = begun_at P p l g1 gp in
        let y = begun_at P q l k1 kq in
        let pq = rec x.0 y.0 x.1 y.1 parts.0 in
        let n1 : count B p ≡ suc (u.0 + u.1) = ap (λ r. count B r) (sym pp) ∙ g4 ∙ ap (λ (w : ℕ × ℕ). suc (w.0 + w.1)) uu in
        let n2 : count C p ≡ suc (v.0 + v.1) = ap (λ r. count C r) (pq ∙ sym qq) ∙ k4 ∙ ap (λ (w : ℕ × ℕ). suc (w.0 + w.1)) vv in
        let o = same_of p g1 k1 gp (kq ∙ sym pq) (n1 ∙ parts.1 ∙ sym n2) in
        let s1 : u.1 ≡ v.1 = same_begin u.1 v.1 (ap (λ (w : ℕ × ℕ). Begin w.1) (sym uu) ∙ sym g3 ∙ ap (λ w. w.act) o.0 ∙ k3
        ∙ ap (λ (w : ℕ × ℕ). Begin w.1) vv) in
        let p1 = parts.1 in
        let s0 : u.0 ≡ v.0 = omega arith in
        λ i. (s0 i, s1 i) ∷ pq i

abbrev pub place_of : Event → Run → List ℕ
place_of e R = position e.path (count R e.path)

-- all events of a run stand before a place
pub record AllBefore (R : Run) (l : List ℕ) : Type 0 where
  pub each : (x : Event) (X : Run) → Upto (x ∷ X) R → Lex (place_of x X) l

pub before_nil : (l : List ℕ) → AllBefore [] l
before_nil l = record { each = λ x X h. elim h [ ] }

pub before_more : {R : Run} {l : List ℕ} (e : Event) → AllBefore R l → Lex (place_of e R) l → AllBefore (e ∷ R) l
before_more {R} {l} e a h = record { each = each }
  where
    each : (x : Event) (X : Run) → Upto (x ∷ X) (e ∷ R) → Lex (place_of x X) l
    each x X now = h
    each x X (later u) = a.each x X u

pub order_more : {R : Run} (e : Event) → InOrder R → AllBefore R (place_of e R) → InOrder (e ∷ R)
order_more {R} e o a = record { each = each }
  where
    each : (y x : Event) (Y X : Run) → Upto (y ∷ Y) (e ∷ R) → Upto (x ∷ X) Y → Lex (place_of x X) (place_of y Y)
    each y x Y X now k = a.each x X k
    each y x Y X (later h) k = o.each y x Y X h k

below_top : {R : Run} {y : Event} → InOrder (y ∷ R) → AllBefore R (place_of y R)
below_top {R} {y} o = record { each = λ x X h. o.each y x R X now h }

-- a sorted run with one more event of a task, after that task's others
record Inserted (e : Event) (S : Run) : Type 0 where
  run : Run
  in_order : InOrder run
  here : mine run e.path ≡ e ∷ mine S e.path
  other : (q : Path) → (q ≡ e.path → ⊥) → mine run q ≡ mine S q
  low : (l : List ℕ) → AllBefore S l → Lex (place_of e S) l → AllBefore run l

insert : (e : Event) (S : Run) → InOrder S → ((y : Event) (Y : Run) → Upto (y ∷ Y) S → way y.path ≡ way e.path → y.path ≡ e.path) → Inserted e S
insert e [] o apart = record {
  run = e ∷ [];
  in_order = order_more e o (before_nil _);
  here = mine_same e [] e.path refl;
  other = λ q n. mine_other e [] q (λ k. n (sym k));
  low = λ l a h. before_more e a h;
}
insert e (y ∷ S) o apart = go (lex_cases (place_of e (y ∷ S)) (place_of y S)) (insert e S (order_tail o) (λ x X h. apart x X (later h)))
  where
    on_top : Lex (place_of y S) (place_of e (y ∷ S)) → Inserted e (y ∷ S)
    on_top h = record {
      run = e ∷ y ∷ S;
      in_order = order_more e o (before_more y (record { each = λ x X k. lex_trans ((below_top o).each x X k) h }) h);
      here = mine_same e (y ∷ S) e.path refl;
      other = λ q n. mine_other e (y ∷ S) q (λ k. n (sym k));
      low = λ l a k. before_more e a k;
    }

    lower_number : y.path ≡ e.path → count S y.path < count (y ∷ S) e.path
    lower_number k = let a = ap length (mine_same y S e.path k) in let b = ap (λ p. count S p) k in omega arith

    go : LexCases (place_of e (y ∷ S)) (place_of y S) → Inserted e S → Inserted e (y ∷ S)
    go (more h) r = on_top h
    go (same k) r =
        let w = snoc_same (way e.path) (way y.path) (count (y ∷ S) e.path) (count S y.path) k in
        let n = lower_number (apart y S now (sym w.0)) in
        let m = w.1 in
        absurd (omega arith)
    go (less h) r = record {
      run = y ∷ r.run;
      in_order = order_more y r.in_order (subst (λ n. AllBefore r.run (position y.path n)) (sym number) (r.low (place_of y S) (below_top o) first));
      here = mine_other y r.run e.path differ ∙ r.here ∙ ap (λ l. e ∷ l) (sym (mine_other y S e.path differ));
      other = λ q n. ⊎_elim (λ k. mine_same y r.run q k ∙ ap (λ l. y ∷ l) (r.other q n) ∙ sym (mine_same y S q k))
          (λ k. mine_other y r.run q k ∙ r.other q n ∙ sym (mine_other y S q k)) (path_cases y.path q);
      low = λ l a k. before_more y (r.low l (record { each = λ x X u. a.each x X (later u) }) (subst (λ n. Lex (position e.path n) l) fewer k))
          (subst (λ n. Lex (position y.path n) l) (sym number) (a.each y S now));
    }
      where
        differ : y.path ≡ e.path → ⊥
        differ k =
            let a : Lex (place_of y S) (place_of e (y ∷ S)) =
            subst (λ p. Lex (position p (count S y.path)) (place_of e (y ∷ S))) (sym k)
            (lex_snoc (way e.path) (count S y.path) (count (y ∷ S) e.path) (lower_number k)) in
            lex_differ (lex_trans a h) refl

        fewer : count (y ∷ S) e.path ≡ count S e.path
        fewer = ap length (mine_other y S e.path differ)

        number : count r.run y.path ≡ count S y.path
        number = ap length (r.other y.path differ)

        first : Lex (place_of e S) (place_of y S)
        first = subst (λ n. Lex (position e.path n) (place_of y S)) fewer h

pub record InOrderOf (R : Run) : Type 0 where
  pub sorted : Run
  pub in_order : InOrder sorted
  pub events : (p : Path) → mine R p ≡ mine sorted p

pub sort : (P : Program) (R : Run) → Faithful P R → InOrderOf R
sort P [] l = record { sorted = []; in_order = record { each = λ y x Y X h k. elim h [ ] }; events = λ p. refl }
sort P (e ∷ R) l = go (sort P R l.1)
  where
    go : InOrderOf R → InOrderOf (e ∷ R)
    go r = record { sorted = i.run; in_order = i.in_order; events = events }
      where
        apart : (y : Event) (Y : Run) → Upto (y ∷ Y) r.sorted → way y.path ≡ way e.path → y.path ≡ e.path
        apart y Y h k =
            let f = found R y.path (subst (λ es. Upto (y ∷ mine Y y.path) es) (sym (r.events y.path)) (mine_at y.path h refl)) in
            let b = begun_at P y.path l.1 f.stands refl in
            one_way P y.path e.path l.1 b.1 l.0.begun k

        i : Inserted e r.sorted
        i = insert e r.sorted r.in_order apart

        events : (p : Path) → mine (e ∷ R) p ≡ mine i.run p
        events p = ⊎_elim here (λ n. mine_other e R p n ∙ r.events p ∙ sym (i.other p (λ k. n (sym k)))) (path_cases e.path p)
          where
            here : e.path ≡ p → mine (e ∷ R) p ≡ mine i.run p
            here k = mine_same e R p k ∙ ap (λ l. e ∷ l) (r.events p ∙ ap (λ q. mine r.sorted q) (sym k)) ∙ sym i.here ∙ ap (λ q. mine i.run q) k
