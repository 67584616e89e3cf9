-- How two paths lie to each other.
use Rattle.std.proofs.Common.{◌≡◌, ℕ, ◌<◌, ◌⊎◌, inl, inr, ⊎_elim, [], ◌∷◌, ◌++◌, refl, sym, ap, ◌∙◌, append_assoc, length, length-append, arith}
use Rattle.std.proofs.lemmas.Bool.{cases_order, cases_eq}
use Rattle.runs_theory.specs.Objects.{Path}
use Rattle.runs_theory.specs.Order.{Unordered}

pub data Place (p q : Path) : Type 0 where
  equal : p ≡ q → Place p q
  under : (xs : Path) (u : ℕ × ℕ) → p ≡ xs ++ u ∷ q → Place p q
  over : (xs : Path) (u : ℕ × ℕ) → q ≡ xs ++ u ∷ p → Place p q
  left_of : (xs ys r : Path) (u v : ℕ × ℕ) → p ≡ xs ++ u ∷ r → q ≡ ys ++ v ∷ r → u.0 < v.0 → Place p q
  right_of : (xs ys r : Path) (u v : ℕ × ℕ) → p ≡ xs ++ u ∷ r → q ≡ ys ++ v ∷ r → v.0 < u.0 → Place p q
  beside : Unordered p q → Place p q

-- the last of a list that isn't empty
pub snoc : (x : ℕ × ℕ) (xs : Path) → (ys : Path) × (y : ℕ × ℕ) × (x ∷ xs ≡ ys ++ y ∷ [])
snoc x [] = ([], x, refl)
snoc x (z ∷ xs) = let r = snoc z xs in (x ∷ r.0, r.1, ap (λ l. x ∷ l) r.2)

pub pair_eq : (x y : ℕ × ℕ) → x.0 ≡ y.0 → x.1 ≡ y.1 → x ≡ y
pair_eq x y a b = λ i. (a i, b i)

apart : (x z : ℕ × ℕ) (xs p q : Path) → q ≡ xs ++ z ∷ p → (z.1 ≡ x.1 → ⊥) → x.0 ≡ z.0 → Place (x ∷ p) q
apart x z xs p q e ne o = beside (record { below_p = []; below_q = xs; above = p; u = x; v = z; one_fork = o; apart = λ h. ne (sym h); p_is = refl; q_is = e })

under_one : (x : ℕ × ℕ) (xs p q : Path) → q ≡ xs ++ x ∷ p → Place (x ∷ p) q
under_one x [] p q e = equal (sym e)
under_one x (w ∷ ws) p q e = let r = snoc w ws in over r.0 r.1 (e ∙ ap (λ l. l ++ x ∷ p) r.2 ∙ append_assoc r.0 (r.1 ∷ []) (x ∷ p))

cons_place : (x : ℕ × ℕ) (p q : Path) → Place p q → Place (x ∷ p) q
cons_place x p q (equal e) = under [] x (ap (λ l. x ∷ l) e)
cons_place x p q (under xs u e) = under (x ∷ xs) u (ap (λ l. x ∷ l) e)
cons_place x p q (over xs z e) = go (cases_order x.0 z.0)
  where
    go : (x.0 ≡ z.0) ⊎ ((x.0 < z.0) ⊎ (z.0 < x.0)) → Place (x ∷ p) q
    go (inl o) = ⊎_elim (λ h. under_one x xs p q (e ∙ ap (λ w. xs ++ w ∷ p) (pair_eq z x (sym o) h))) (λ ne. apart x z xs p q e ne o) (cases_eq z.1 x.1)
    go (inr (inl l)) = left_of [] xs p x z refl e l
    go (inr (inr l)) = right_of [] xs p x z refl e l
cons_place x p q (left_of xs ys r u v d e l) = left_of (x ∷ xs) ys r u v (ap (λ l. x ∷ l) d) e l
cons_place x p q (right_of xs ys r u v d e l) = right_of (x ∷ xs) ys r u v (ap (λ l. x ∷ l) d) e l
cons_place x p q (beside n) = beside (record {
  below_p = x ∷ n.below_p;
  below_q = n.below_q;
  above = n.above;
  u = n.u;
  v = n.v;
  one_fork = n.one_fork;
  apart = n.apart;
  p_is = ap (λ l. x ∷ l) n.p_is;
  q_is = n.q_is;
})

nil_place : (q : Path) → Place [] q
nil_place [] = equal refl
nil_place (y ∷ q) = let r = snoc y q in over r.0 r.1 r.2

pub place : (p q : Path) → Place p q
place [] q = nil_place q
place (x ∷ p) q = cons_place x p q (place p q)

-- nothing lies strictly below itself
pub not_below_self : (q xs : Path) (u : ℕ × ℕ) → q ≡ xs ++ u ∷ q → ⊥
not_below_self q xs u e = let n = ap length e in let k = length-append xs (u ∷ q) in absurd (omega arith)
