-- A step up the chain of superclasses.
use Rattle.std.proofs.Common.{rules, ◌≡◌, ℕ, zero, suc, ◌==◌, eq-eqb, Bool, true, false, cond, List, refl, ap, ◌∙◌, Option, Some, None}
use Rattle.lang_typed.specs.Plain.{PlainParent}
use Rattle.lang_meaning.specs.Values.{Region, Naming}
use Rattle.lang_meaning.specs.Counts.{is_below}
use Rattle.lang_meaning.specs.Regions.{handed_up, regions_above}

differs : (c d : ℕ) → (c ≡ d → ⊥) → (c == d) ≡ false
differs c d h = search (rules, h)

module _ (parent : ℕ → Option PlainParent) where
  pub here_below : (k c d : ℕ) → c ≡ d → is_below parent k c d ≡ true
  here_below zero c d e = eq-eqb c d e
  here_below (suc k) c d e = ap (λ b. cond b true (elim (parent c) [ None ↦ false | Some p ↦ is_below parent k p.class d ])) (eq-eqb c d e)

  abbrev step_below : ℕ → ℕ → Option PlainParent → Bool
  step_below k d o = elim o [ None ↦ false | Some p ↦ is_below parent k p.class d ]

  pub top_below : (k c d : ℕ) → (c ≡ d → ⊥) → parent c ≡ None → is_below parent (suc k) c d ≡ false
  top_below k c d h e = ap (λ b. cond b true (step_below k d (parent c))) (differs c d h) ∙ ap (step_below k d) e

  pub up_below : (k c d : ℕ) (p : PlainParent) → (c ≡ d → ⊥) → parent c ≡ Some p → is_below parent (suc k) c d ≡ is_below parent k p.class d
  up_below k c d p h e = ap (λ b. cond b true (step_below k d (parent c))) (differs c d h) ∙ ap (step_below k d) e

  module _ {N M : Type 0} (names : Naming N M) (above : ℕ) where
    abbrev step_up : ℕ → List (Region M) → Option PlainParent → List (Region M)
    step_up k rs o = elim o [ None ↦ rs | Some p ↦ regions_above names parent k p.class (handed_up names rs p.args) above ]

    pub here_above : (k c : ℕ) (rs : List (Region M)) → c ≡ above → regions_above names parent k c rs above ≡ rs
    here_above zero c rs e = refl
    here_above (suc k) c rs e = ap (λ b. cond b rs (step_up k rs (parent c))) (eq-eqb c above e)

    pub top_above : (k c : ℕ) (rs : List (Region M)) → parent c ≡ None → regions_above names parent k c rs above ≡ rs
    top_above zero c rs e = refl
    top_above (suc k) c rs e = ap (λ o. cond (c == above) rs (step_up k rs o)) e ∙ either (c == above)
      where
        either : (b : Bool) → cond b rs rs ≡ rs
        either true = refl
        either false = refl

    pub up_above : (k c : ℕ) (rs : List (Region M)) (p : PlainParent) → (c ≡ above → ⊥) → parent c ≡ Some p
        → regions_above names parent (suc k) c rs above ≡ regions_above names parent k p.class (handed_up names rs p.args) above
    up_above k c rs p h e = ap (λ b. cond b rs (step_up k rs (parent c))) (differs c above h) ∙ ap (step_up k rs) e
