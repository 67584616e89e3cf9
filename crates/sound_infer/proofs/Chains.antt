-- How a class is seen as one above it: superclasses fall in the order of classes, so a chain of them isn't longer than there are
-- classes.
use Rattle.std.proofs.Common.{◌≡◌, ◌<◌, ◌≤◌, ◌||◌, ◌==◌, ⊎_elim, ℕ, zero, suc, eqb, true, false, if◌then◌else◌, List, [], ◌∷◌, map, length, Some, refl, sym, ap, ◌∙◌, subst, arith}
use Rattle.std.specs.List.{AllByRecursion, IsDistinct, list_any}
use Rattle.std.proofs.lemmas.Bool.{cases_Bool, false≢true, eqb-true, eq-eqb, false_from_ne_true}
use Rattle.std.proofs.lemmas.Map.Steps.{length-le_from_distinct_below}
use Rattle.std.proofs.lemmas.Option.{option_and_then_some, slice_get_within}
use Rattle.lang_base.specs.declared.region.Rpl.{Rpl}
use Rattle.lang_base.specs.Regions.{substituted}
use Rattle.lang_typed.specs.Plain.{PlainProgram, PlainClass, PlainParent}
use Rattle.lang_typed.specs.Scope.{class_at, parent_of, Above, itself, through_parent}
use Rattle.lang_typed.specs.WellTyped.{WellTyped}
use Rattle.body_infer.specs.Doing.{seen_by, seen_within, seen_as}

-- in this order each class stands after its superclass
abbrev pub Falls : PlainProgram → (ℕ → ℕ) → Type 0
Falls P rank = (c : ℕ) (p : PlainParent) → parent_of P c ≡ Some p → rank p.class < rank c

pub ranks_fall : (P : PlainProgram) (wt : WellTyped P) → Falls P wt.rank
ranks_fall P wt = λ c p e. option_and_then_some (λ (class : PlainClass). class.parent) (class_at P c) p e (λ k is q. ((wt.classes c k is).parent p q).before)

module _ (P : PlainProgram) (rank : ℕ → ℕ) (falls : Falls P rank) where
  parent_lower : {c : ℕ} {p : PlainParent} → parent_of P c ≡ Some p → rank p.class < rank c
  parent_lower {c} {p} e = falls c p e

  above_lower : {c d : ℕ} {args owned : List Rpl} → Above P c args d owned → rank d ≤ rank c
  above_lower itself = omega arith
  above_lower (through_parent e h) = let a = parent_lower e in let b = above_lower h in omega (arith, a, b)

  -- the classes below the last one of a chain
  passed : {c d : ℕ} {args owned : List Rpl} → Above P c args d owned → List ℕ
  passed itself = []
  passed (through_parent {c = c} e h) = c ∷ passed h

  ranks_below : {c d : ℕ} {args owned : List Rpl} (h : Above P c args d owned) (m : ℕ) → rank c < m → AllByRecursion (λ y. rank y < m) (passed h)
  unfolding passed
  ranks_below itself m l = tt
  ranks_below (through_parent e h) m l = (l, ranks_below h m (let a = parent_lower e in omega (arith, a, l)))

  others : (c : ℕ) (xs : List ℕ) → AllByRecursion (λ y. rank y < rank c) xs → AllByRecursion (λ y. eqb c y ≡ false) xs
  others c [] h = tt
  others c (x ∷ xs) h = (false_from_ne_true (eqb c x) (λ t. (let a = h.0 in let e : rank c ≡ rank x = ap rank (eqb-true c x t) in omega (arith, a, e))), others c xs h.1)

  distinct : {c d : ℕ} {args owned : List Rpl} (h : Above P c args d owned) → IsDistinct eqb (passed h)
  unfolding IsDistinct passed
  distinct itself = tt
  distinct (through_parent {c = c} e h) = (others c (passed h) (ranks_below h (rank c) (parent_lower e)), distinct h)

  class_number : {c : ℕ} {p : PlainParent} → parent_of P c ≡ Some p → c < length P.classes
  class_number {c} {p} e = option_and_then_some (λ (class : PlainClass). class.parent) (class_at P c) p e (λ k is q. slice_get_within P.classes c k is)

  numbers : {c d : ℕ} {args owned : List Rpl} (h : Above P c args d owned) (q : ℕ) → list_any (eqb q) (passed h) ≡ true → q < length P.classes
  unfolding passed
  numbers itself q a = absurd (false≢true a)
  numbers (through_parent {c = c} e h) q a =
      ⊎_elim (λ t. subst (λ z. z < length P.classes) (sym (eqb-true q c t)) (class_number e))
      (λ f. numbers h q (sym (ap (λ z. z || list_any (eqb q) (passed h)) f) ∙ a)) (cases_Bool (eqb q c))

  few : {c d : ℕ} {args owned : List Rpl} (h : Above P c args d owned) → length (passed h) ≤ length P.classes
  few h = length-le_from_distinct_below (passed h) (length P.classes) (distinct h) (numbers h)

  other_class : (c d : ℕ) {p : PlainParent} → parent_of P c ≡ Some p → rank d ≤ rank p.class → (c == d) ≡ false
  other_class c d e l = false_from_ne_true (c == d) (λ t. (let a = parent_lower e in let q : rank c ≡ rank d = ap rank (eqb-true c d t) in omega (arith, a, l, q)))

  seen_here : (n c : ℕ) (args : List Rpl) → seen_within n P c args c ≡ args
  seen_here zero c args = refl
  seen_here (suc n) c args = ap (λ b. if b then args else seen_by (λ q owned. seen_within n P q owned c) args (parent_of P c)) (eq-eqb c c refl)

  seen_up : (n c d : ℕ) (args : List Rpl) (p : PlainParent) → parent_of P c ≡ Some p → (c == d) ≡ false → seen_within (suc n) P c args d ≡ seen_within n P p.class (map (substituted args) p.args) d
  seen_up n c d args p e f =
      ap (λ b. if b then args else seen_by (λ q owned. seen_within n P q owned d) args (parent_of P c)) f ∙ ap (seen_by (λ q owned. seen_within n P q owned d) args) e

  seen_in_steps : {c d : ℕ} {args owned : List Rpl} (h : Above P c args d owned) (n : ℕ) → length (passed h) ≤ n → seen_within n P c args d ≡ owned
  unfolding passed
  seen_in_steps (itself {c = c} {args = args}) n l = seen_here n c args
  seen_in_steps (through_parent {c = c} {d = d} {args = args} {p = p} e h) zero l = absurd (omega (arith, l))
  seen_in_steps (through_parent {c = c} {d = d} {args = args} {p = p} e h) (suc n) l =
      seen_up n c d args p e (other_class c d e (above_lower h)) ∙ seen_in_steps h n (omega (arith, l))

  pub seen_is : {c d : ℕ} {args owned : List Rpl} → Above P c args d owned → seen_as P c args d ≡ owned
  seen_is h = seen_in_steps h (length P.classes) (few h)
