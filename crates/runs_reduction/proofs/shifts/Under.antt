-- Which paths lie below which.
use Rattle.std.proofs.Common.{◌≡◌, ℕ, ◌⊎◌, inl, inr, Bool, true, false, true≢false, [], ◌∷◌, ◌++◌, refl, sym, ap, ◌∙◌, append_assoc}
use Rattle.std.proofs.lemmas.Bool.{cond-true, cond-false}
use Rattle.runs_theory.specs.Objects.{Path, same_path}
use Rattle.runs_reduction.specs.Insertion.{is_under}
use Rattle.runs_theory.proofs.events.Mine.{path_cases, test_same, test_other}

-- p is o or below it
pub record Under (o p : Path) : Type 0 where
  pub below : Path
  pub is : p ≡ below ++ o

pub under_self : (o : Path) → Under o o
under_self o = record { below = []; is = refl }

pub under_tail : (o q : Path) (u : ℕ × ℕ) → Under o (u ∷ q) → (u ∷ q ≡ o → ⊥) → Under o q
under_tail o q u h ne = go h.below h.is
  where
    go : (xs : Path) → u ∷ q ≡ xs ++ o → Under o q
    go [] e = absurd (ne e)
    go (x ∷ xs) e = let t : q ≡ xs ++ o = cc in record { below = xs; is = t }

pub under_more : (o p q : Path) (xs : Path) → Under o p → q ≡ xs ++ p → Under o q
under_more o p q xs h e = record { below = xs ++ h.below; is = e ∙ ap (λ l. xs ++ l) h.is ∙ sym (append_assoc xs h.below o) }

pub under_next : (o q : Path) (u : ℕ × ℕ) → Under o q → Under o (u ∷ q)
under_next o q u h = under_more o q (u ∷ q) (u ∷ []) h refl

pub true_of : (o p : Path) → Under o p → is_under p o ≡ true
true_of o [] h = test_same [] o (go h.below h.is)
  where
    go : (xs : Path) → [] ≡ xs ++ o → [] ≡ o
    go [] e = e
    go (x ∷ xs) e = absurd (cc)
true_of o (u ∷ p) h = go (true_of o p) (path_cases (u ∷ p) o)
  where
    go : (Under o p → is_under p o ≡ true) → (u ∷ p ≡ o) ⊎ (u ∷ p ≡ o → ⊥) → is_under (u ∷ p) o ≡ true
    go rec (inl e) = cond-true (same_path (u ∷ p) o) _ _ (test_same (u ∷ p) o e)
    go rec (inr ne) = cond-false (same_path (u ∷ p) o) _ _ (test_other (u ∷ p) o ne) ∙ rec (under_tail o p u h ne)

pub of_true : (o p : Path) → is_under p o ≡ true → Under o p
of_true o [] h = go (path_cases [] o)
  where
    go : ([] ≡ o) ⊎ ([] ≡ o → ⊥) → Under o []
    go (inl e) = record { below = []; is = e }
    go (inr ne) = absurd (true≢false (sym h ∙ test_other [] o ne))
of_true o (u ∷ p) h = go (of_true o p) (path_cases (u ∷ p) o)
  where
    go : (is_under p o ≡ true → Under o p) → (u ∷ p ≡ o) ⊎ (u ∷ p ≡ o → ⊥) → Under o (u ∷ p)
    go rec (inl e) = record { below = []; is = e }
    go rec (inr ne) = under_next o p u (rec (sym (cond-false (same_path (u ∷ p) o) _ _ (test_other (u ∷ p) o ne)) ∙ h))

pub data UnderCases (o p : Path) : Type 0 where
  yes_under : Under o p → is_under p o ≡ true → UnderCases o p
  not_under : (Under o p → ⊥) → is_under p o ≡ false → UnderCases o p

pub under_cases : (o p : Path) → UnderCases o p
under_cases o p = go (is_under p o) refl
  where
    go : (b : Bool) → is_under p o ≡ b → UnderCases o p
    go true e = yes_under (of_true o p e) e
    go false e = not_under (λ h. true≢false (sym (true_of o p h) ∙ e)) e

-- of one path and a place below another: the place is below it, or it is below the place
pub data Split (o r : Path) (u : ℕ × ℕ) : Type 0 where
  lies_in : Under o r → Split o r u
  lies_over : (ys : Path) → o ≡ ys ++ u ∷ r → Split o r u

pub split : (zs o xs r : Path) (u : ℕ × ℕ) → zs ++ o ≡ xs ++ u ∷ r → Split o r u
split [] o xs r u e = lies_over xs e
split (z ∷ zs) o [] r u e = let t : r ≡ zs ++ o = cc in lies_in (record { below = zs; is = t })
split (z ∷ zs) o (x ∷ xs) r u e = let t : zs ++ o ≡ xs ++ u ∷ r = cc in split zs o xs r u t

pub nil_append : (p : Path) → p ≡ p ++ []
nil_append [] = refl
nil_append (x ∷ p) = ap (λ l. x ∷ l) (nil_append p)

-- all is below the root
pub under_root : (p : Path) → Under [] p
under_root p = record { below = p; is = nil_append p }
