-- What a class hands to each class below it holds of the class that is entered.
use Rattle.std.proofs.Common.{◌≡◌, ℕ, zero, suc, Bool, true, false, cond, List, refl, sym, subst, Option, Some, None, ◌==◌}
use Rattle.std.proofs.lemmas.Bool.{eqb-true}
use Rattle.lang_typed.specs.Plain.{PlainParent}
use Rattle.lang_meaning.specs.Values.{Region}
use Rattle.lang_meaning.specs.Counts.{is_below, class_entered}

module _ (parent : ℕ → Option PlainParent) (Has : ℕ → Type 0) (handed : (c : ℕ) (p : PlainParent) → parent c ≡ Some p → Has p.class → Has c) where
  below_has : (k a c : ℕ) → is_below parent k a c ≡ true → Has c → Has a
  below_has zero a c e h = subst Has (sym (eqb-true a c e)) h
  below_has (suc k) a c e h = here (λ p f. below_has k p c f h) (a == c) refl e
    where
      above : ((p : ℕ) → is_below parent k p c ≡ true → Has p) → (p : Option PlainParent) → parent a ≡ p →
          elim p as (λ z. Bool) [ None ↦ false | Some q ↦ is_below parent k q.class c ] ≡ true → Has a
      above more None q f = absurd (cc)
      above more (Some p) q f = handed a p q (more p.class f)

      here : ((p : ℕ) → is_below parent k p c ≡ true → Has p) → (t : Bool) → (a == c) ≡ t →
          cond t true (elim (parent a) as (λ z. Bool) [ None ↦ false | Some q ↦ is_below parent k q.class c ]) ≡ true → Has a
      here more true q f = subst Has (sym (eqb-true a c q)) h
      here more false q f = above more (parent a) refl f

  pub entered_has : {M : Type 0} (k c : ℕ) (seen : Option (ℕ × List (Region M))) → Has c → Has (class_entered parent k c seen).0
  entered_has k c None h = h
  entered_has k c (Some seen) h = go (is_below parent k seen.0 c) refl
    where
      go : (t : Bool) → is_below parent k seen.0 c ≡ t → Has (cond t seen (c, seen.1)).0
      go true q = below_has k seen.0 c q h
      go false q = h
