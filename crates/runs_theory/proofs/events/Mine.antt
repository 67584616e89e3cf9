-- The events of one task.
use Rattle.std.proofs.Common.{◌≡◌, ℕ, ◌<◌, ◌⊎◌, inl, inr, Bool, true, false, List, [], ◌∷◌, length, refl, sym, ap, ◌∙◌, subst, arith}
use Rattle.std.proofs.Common.{ap₂, ⊎_elim, true≢false, eq-eqb, eqb-true}
use Rattle.std.proofs.lemmas.Bool.{and_from, and_parts, cond-true, cond-false, false_from_ne_true, cases_eq}
use Rattle.runs_theory.specs.Objects.{Path, same_path}
use Rattle.runs_theory.specs.Runs.{Event, Run, Upto, count, later, mine, now}
use Rattle.runs_theory.proofs.events.Places.{pair_eq}
use Rattle.runs_theory.proofs.events.Upto.{upto_trans, upto_length, upto_split, upto_none, which, Which, same_one, before, after}

same_path_refl : (p : Path) → same_path p p ≡ true
same_path_refl [] = refl
same_path_refl (x ∷ p) = and_from _ _ (eq-eqb x.0 x.0 refl) (and_from _ _ (eq-eqb x.1 x.1 refl) (same_path_refl p))

pub same_path_eq : (p q : Path) → same_path p q ≡ true → p ≡ q
same_path_eq [] [] e = refl
same_path_eq [] (y ∷ q) e = absurd (cc)
same_path_eq (x ∷ p) [] e = absurd (cc)
same_path_eq (x ∷ p) (y ∷ q) e =
    let a = and_parts _ _ e in
    let b = and_parts _ _ a.1 in
    ap₂ (λ u v. u ∷ v) (pair_eq x y (eqb-true _ _ a.0) (eqb-true _ _ b.0)) (same_path_eq p q b.1)

pub path_cases : (p q : Path) → (p ≡ q) ⊎ (p ≡ q → ⊥)
path_cases p q = go (same_path p q) refl
  where
    go : (b : Bool) → same_path p q ≡ b → (p ≡ q) ⊎ (p ≡ q → ⊥)
    go true e = inl (same_path_eq p q e)
    go false e = inr (λ h. true≢false (sym (subst (λ r. same_path p r ≡ true) h (same_path_refl p)) ∙ e))

pub test_same : (p q : Path) → p ≡ q → same_path p q ≡ true
test_same p q h = subst (λ r. same_path p r ≡ true) h (same_path_refl p)

pub test_other : (p q : Path) → (p ≡ q → ⊥) → same_path p q ≡ false
test_other p q h = false_from_ne_true _ (λ t. h (same_path_eq p q t))

pub mine_same : (e : Event) (R : Run) (p : Path) → e.path ≡ p → mine (e ∷ R) p ≡ e ∷ mine R p
unfolding mine
mine_same e R p h = cond-true (same_path e.path p) _ _ (subst (λ r. same_path e.path r ≡ true) h (same_path_refl e.path))

pub mine_other : (e : Event) (R : Run) (p : Path) → (e.path ≡ p → ⊥) → mine (e ∷ R) p ≡ mine R p
unfolding mine
mine_other e R p h = cond-false (same_path e.path p) _ _ (false_from_ne_true _ (λ t. h (same_path_eq e.path p t)))

pub mine_nil : (p : Path) → mine [] p ≡ []
unfolding mine
mine_nil p = refl

pub mine_step : (e : Event) (R : Run) (p : Path) → Upto (mine R p) (mine (e ∷ R) p)
mine_step e R p = ⊎_elim (λ h. subst (Upto (mine R p)) (sym (mine_same e R p h)) (later now)) (λ h. subst (Upto (mine R p)) (sym (mine_other e R p h)) now)
    (path_cases e.path p)

pub mine_upto : {B R : Run} (p : Path) → Upto B R → Upto (mine B p) (mine R p)
mine_upto p now = now
mine_upto p (later {y = e} {ys = R} h) = upto_trans (mine_upto p h) (mine_step e R p)

-- an event of a task, among its events
pub mine_at : {e : Event} {B R : Run} (p : Path) → Upto (e ∷ B) R → e.path ≡ p → Upto (e ∷ mine B p) (mine R p)
mine_at {e} {B} {R} p h k = subst (λ l. Upto l (mine R p)) (mine_same e B p k) (mine_upto p h)

pub record Found (R : Run) (p : Path) (e : Event) (es : Run) : Type 0 where
  pub before : Run
  pub stands : Upto (e ∷ before) R
  pub path : e.path ≡ p
  pub mine_is : mine before p ≡ es

-- and back
pub found : (R : Run) (p : Path) {e : Event} {es : Run} → Upto (e ∷ es) (mine R p) → Found R p e es
found [] p {e} {es} h = absurd (upto_none (subst (Upto (e ∷ es)) (mine_nil p) h))
found (x ∷ R) p {e} {es} h = go (found R p) (path_cases x.path p)
  where
    more : Found R p e es → Found (x ∷ R) p e es
    more f = record { before = f.before; stands = later f.stands; path = f.path; mine_is = f.mine_is }

    go : (Upto (e ∷ es) (mine R p) → Found R p e es) → (x.path ≡ p) ⊎ (x.path ≡ p → ⊥) → Found (x ∷ R) p e es
    go rec (inl k) = ⊎_elim here (λ u. more (rec u)) (upto_split (subst (Upto (e ∷ es)) (mine_same x R p k) h))
      where
        here : (e ≡ x) × (es ≡ mine R p) → Found (x ∷ R) p e es
        here w = record { before = R; stands = subst (λ y. Upto (y ∷ R) (x ∷ R)) (sym w.0) now; path = ap (λ y. y.path) w.0 ∙ k; mine_is = sym w.1 }
    go rec (inr k) = more (rec (subst (Upto (e ∷ es)) (mine_other x R p k) h))

-- of two events of one task the one with the lower number is earlier
pub earlier_of : {x y : Event} {X Y R : Run} (p : Path) → Upto (x ∷ X) R → Upto (y ∷ Y) R → x.path ≡ p → y.path ≡ p → count X p < count Y p → Upto (x ∷ X) Y
earlier_of {x} {y} {X} {Y} p hx hy px py l = go (which hx hy)
  where
    go : Which x X y Y → Upto (x ∷ X) Y
    go (same_one e k) = let n = ap (λ Z. count Z p) k in absurd (omega arith)
    go (before h) = h
    go (after h) = let n = upto_length (mine_at p h py) in absurd (omega arith)

-- with the same number they are one
pub same_of : {x y : Event} {X Y R : Run} (p : Path) → Upto (x ∷ X) R → Upto (y ∷ Y) R → x.path ≡ p → y.path ≡ p → count X p ≡ count Y p → (x ≡ y) × (X ≡ Y)
same_of {x} {y} {X} {Y} p hx hy px py l = go (which hx hy)
  where
    go : Which x X y Y → (x ≡ y) × (X ≡ Y)
    go (same_one e k) = (e, k)
    go (before h) = let n = upto_length (mine_at p h px) in absurd (omega arith)
    go (after h) = let n = upto_length (mine_at p h py) in absurd (omega arith)

-- the lower number of two where the one is earlier
pub number_of : {x : Event} {X Y : Run} (p : Path) → Upto (x ∷ X) Y → x.path ≡ p → count X p < count Y p
number_of p h px = upto_length (mine_at p h px)

nth_of : {A : Type 0} (xs : List A) (n : ℕ) → n < length xs → (y : A) × (ys : List A) × Upto (y ∷ ys) xs × (length ys ≡ n)
nth_of [] n l = absurd (omega arith)
nth_of (x ∷ xs) n l = ⊎_elim (λ e. (x, xs, now, sym e)) (λ ne. let r = nth_of xs n (omega arith) in (r.0, r.1, later r.2, r.3)) (cases_eq n (length xs))

-- the event with a number below the count
pub numbered : (R : Run) (p : Path) (n : ℕ) → n < count R p → (e : Event) × (B : Run) × Upto (e ∷ B) R × (e.path ≡ p) × (count B p ≡ n)
numbered R p n l =
    let a = nth_of (mine R p) n l in
    let f = found R p a.2 in
    (a.0, f.before, f.stands, f.path, ap length f.mine_is ∙ a.3)
