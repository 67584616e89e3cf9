-- Lists of effects without some that clash with nothing.
use Rattle.std.proofs.Common.{◌≡◌, Bool, false, ◌||◌, List, [], ◌∷◌, Option, refl, sym, ap, ◌∙◌, ⊎_elim}
use Rattle.std.specs.List.{filter, AllByRecursion}
use Rattle.std.proofs.lemmas.Bool.{or_from, cases_Bool, cond-true, cond-false, and_left}
use Rattle.lang_base.specs.declared.effect.Effect.{Effect}
use Rattle.lang_base.specs.declared.effect.Constraint.{Constraint}
use Rattle.lang_base.specs.Effects.{interferes}
use Rattle.lang_base.specs.Branches.{Atomic, clashes, some_clashes, lists_clash}

-- effects that don't interfere don't clash, whatever is declared atomic
pub quiet-clash : (given : List Constraint) (nd : Option Atomic) (e f : Effect) → interferes given e f ≡ false → clashes given nd e f ≡ false
unfolding clashes
quiet-clash given nd e f h = and_left _ _ h

module _ (given : List Constraint) (nd : Option Atomic) where
  some_clashes-filter : (q : Effect → Bool) (e : Effect) (fs : List Effect) → AllByRecursion (λ f. q f ≡ false → clashes given nd e f ≡ false) fs →
      some_clashes given nd e (filter q fs) ≡ some_clashes given nd e fs
  some_clashes-filter q e [] h = refl
  some_clashes-filter q e (f ∷ fs) h =
      let rest = some_clashes-filter q e fs h.1 in
      ⊎_elim
      (λ t. ap (some_clashes given nd e) (cond-true (q f) (f ∷ filter q fs) (filter q fs) t) ∙ ap (λ z. clashes given nd e f || z) rest)
      (λ n. ap (some_clashes given nd e) (cond-false (q f) (f ∷ filter q fs) (filter q fs) n) ∙ rest ∙ sym (ap (λ z. z || some_clashes given nd e fs) (h.0 n)))
      (cases_Bool (q f))

  clashes-none : (e : Effect) (fs : List Effect) → AllByRecursion (λ f. clashes given nd e f ≡ false) fs → some_clashes given nd e fs ≡ false
  clashes-none e [] h = refl
  clashes-none e (f ∷ fs) h = or_from _ _ h.0 (clashes-none e fs h.1)

  pub lists_clash-filter : (p q : Effect → Bool) (es fs : List Effect) →
      AllByRecursion (λ e. p e ≡ false → AllByRecursion (λ f. clashes given nd e f ≡ false) fs) es →
      AllByRecursion (λ e. AllByRecursion (λ f. q f ≡ false → clashes given nd e f ≡ false) fs) es →
      lists_clash given nd (filter p es) (filter q fs) ≡ lists_clash given nd es fs
  lists_clash-filter p q [] fs h k = refl
  lists_clash-filter p q (e ∷ es) fs h k =
      let rest = lists_clash-filter p q es fs h.1 k.1 in
      let first = some_clashes-filter q e fs k.0 in
      ⊎_elim
      (λ t. ap (λ z. lists_clash given nd z (filter q fs)) (cond-true (p e) (e ∷ filter p es) (filter p es) t)
      ∙ ap (λ z. z || lists_clash given nd (filter p es) (filter q fs)) first ∙ ap (λ z. some_clashes given nd e fs || z) rest)
      (λ n. ap (λ z. lists_clash given nd z (filter q fs)) (cond-false (p e) (e ∷ filter p es) (filter p es) n)
      ∙ rest ∙ sym (ap (λ z. z || lists_clash given nd es fs) (clashes-none e fs (h.0 n))))
      (cases_Bool (p e))
