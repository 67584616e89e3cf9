-- Which branch of a deterministic construct a task is in.
use Rattle.std.proofs.Common.{◌≡◌, ℕ, suc, Bool, true, false, [], ◌∷◌, ◌++◌, refl, sym, ap, ◌∙◌, subst, append_assoc, if◌then◌else◌}
use Rattle.std.proofs.lemmas.Bool.{cond-true, cond-false}
use Rattle.runs_theory.specs.Objects.{Path}
use Rattle.runs_theory.specs.Runs.{Run, mine}
use Rattle.runs_theory.specs.Standing.{first_of}
use Rattle.runs_reduction.specs.Insertion.{All_of, Branch_of}
use Rattle.runs_reduction.specs.Moved.{inner, is_det}
use Rattle.runs_theory.proofs.events.Places.{not_below_self}
use Rattle.runs_reduction.proofs.shifts.Under.{Under, under_self, under_next}

pub inner_nil : (R : Run) → inner R [] ≡ All_of []
unfolding inner
inner_nil R = refl

pub inner_step : (R : Run) (u : ℕ × ℕ) (q : Path) → inner R (u ∷ q) ≡ (if is_det (first_of (suc u.0) (mine R q)) then Branch_of u q else inner R q)
unfolding inner
inner_step R u q = refl

-- a branch is deterministic, or one belongs where the task above belongs
pub data Inner (R : Run) (u : ℕ × ℕ) (q : Path) : Type 0 where
  its_branch : is_det (first_of (suc u.0) (mine R q)) ≡ true → inner R (u ∷ q) ≡ Branch_of u q → Inner R u q
  as_above : is_det (first_of (suc u.0) (mine R q)) ≡ false → inner R (u ∷ q) ≡ inner R q → Inner R u q

pub inner_cases : (R : Run) (u : ℕ × ℕ) (q : Path) → Inner R u q
inner_cases R u q = go (is_det (first_of (suc u.0) (mine R q))) refl
  where
    go : (b : Bool) → is_det (first_of (suc u.0) (mine R q)) ≡ b → Inner R u q
    go true e = its_branch e (inner_step R u q ∙ cond-true _ _ _ e)
    go false e = as_above e (inner_step R u q ∙ cond-false _ _ _ e)

branch_under : (u w : ℕ × ℕ) (q p : Path) → Branch_of w p ≡ Branch_of u q → Under (u ∷ q) (w ∷ p)
branch_under u w q p e = let a : w ≡ u = cc in let b : p ≡ q = cc in subst (λ o. Under o (w ∷ p)) (ap (λ l. w ∷ l) b ∙ ap (λ x. x ∷ q) a) (under_self (w ∷ p))

pub inner_under : (R : Run) (p : Path) (u : ℕ × ℕ) (q : Path) → inner R p ≡ Branch_of u q → Under (u ∷ q) p
inner_under R [] u q e = absurd (let k = sym (inner_nil R) ∙ e in cc)
inner_under R (w ∷ p) u q e = go (inner_under R p u q) (inner_cases R w p)
  where
    go : (inner R p ≡ Branch_of u q → Under (u ∷ q) p) → Inner R w p → Under (u ∷ q) (w ∷ p)
    go rec (its_branch d k) = branch_under u w q p (sym k ∙ e)
    go rec (as_above d k) = under_next (u ∷ q) p w (rec (sym k ∙ e))

pub inner_all : (R : Run) (p q : Path) → inner R p ≡ All_of q → q ≡ []
inner_all R [] q e = let k = sym (inner_nil R) ∙ e in cc
inner_all R (w ∷ p) q e = go (inner_all R p q) (inner_cases R w p)
  where
    go : (inner R p ≡ All_of q → q ≡ []) → Inner R w p → q ≡ []
    go rec (its_branch d k) = absurd (let z = sym k ∙ e in cc)
    go rec (as_above d k) = rec (sym k ∙ e)

-- what lies between a task and its branch belongs to that branch
pub inner_between : (R : Run) (zs o : Path) (u : ℕ × ℕ) (q : Path) → inner R (zs ++ o) ≡ Branch_of u q → Under (u ∷ q) o → inner R o ≡ Branch_of u q
inner_between R [] o u q e h = e
inner_between R (z ∷ zs) o u q e h = go (λ k. inner_between R zs o u q k h) (inner_cases R z (zs ++ o))
  where
    go : (inner R (zs ++ o) ≡ Branch_of u q → inner R o ≡ Branch_of u q) → Inner R z (zs ++ o) → inner R o ≡ Branch_of u q
    go rec (its_branch d k) =
        let w : Branch_of z (zs ++ o) ≡ Branch_of u q = sym k ∙ e in
        let b : zs ++ o ≡ q = cc in
        absurd (not_below_self q (zs ++ h.below) u (sym b ∙ ap (λ l. zs ++ l) h.is ∙ sym (append_assoc zs h.below (u ∷ q))))
    go rec (as_above d k) = rec (sym k ∙ e)

-- below a branch of a deterministic construct, the innermost branch is that one or below it
pub inner_least : (R : Run) (xs : Path) (u : ℕ × ℕ) (q : Path) → is_det (first_of (suc u.0) (mine R q)) ≡ true → (v : ℕ × ℕ) × (r : Path)
    × (inner R (xs ++ u ∷ q) ≡ Branch_of v r) × Under (u ∷ q) (v ∷ r)
inner_least R [] u q d = (u, q, inner_step R u q ∙ cond-true _ _ _ d, under_self (u ∷ q))
inner_least R (x ∷ xs) u q d = go (inner_least R xs u q d) (inner_cases R x (xs ++ u ∷ q))
  where
    go : (v : ℕ × ℕ) × (r : Path) × (inner R (xs ++ u ∷ q) ≡ Branch_of v r) × Under (u ∷ q) (v ∷ r) → Inner R x (xs ++ u ∷ q) → (v : ℕ × ℕ) × (r : Path)
        × (inner R (x ∷ (xs ++ u ∷ q)) ≡ Branch_of v r) × Under (u ∷ q) (v ∷ r)
    go rec (its_branch e k) = (x, xs ++ u ∷ q, k, record { below = x ∷ xs; is = refl })
    go rec (as_above e k) = (rec.0, rec.1, k ∙ rec.2, rec.3)
