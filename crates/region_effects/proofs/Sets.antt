-- What a set looks up and puts last, by `==` of effects, and that gathering distinct effects leaves them as they are.
use Rattle.std.proofs.Common.{◌≡◌, Bool, true, false, ◌&&◌, ◌||◌, cond, List, [], ◌∷◌, ◌++◌, refl, sym, ap, ◌∙◌, subst, ⊎_elim, append_assoc}
use Rattle.std.specs.Bool.{Decides}
use Rattle.std.specs.List.{list_any, AllByRecursion, IsDistinct}
use Rattle.std.proofs.lemmas.Bool.{and_parts, and_from, or_from, or_cases, or_left, or_right, false≢true, not-true}
use Rattle.std.proofs.lemmas.Bool.Decides.{Decides-like, same_from_decides}
use Rattle.std.proofs.lemmas.List.{append-nil}
use Rattle.std.proofs.lemmas.Map.Keys.{IsDistinct-push, IsDistinct-head, IsDistinct-tail}
use Rattle.indexmap.specs.IndexSet.{insert_key}
use Rattle.lang_base.specs.declared.effect.Access.{Access}
use Rattle.lang_base.specs.declared.effect.Access.TheVariants.{Read, Write}
use Rattle.lang_base.specs.declared.effect.Effect.{Effect}
use Rattle.lang_base.specs.contracts.effect.EffectPartialEq.TheImpl.{eq-value}
use Rattle.lang_base.specs.contracts.effect.EffectEq.TheImpl.Laws as eq_laws
use Rattle.lang_base.specs.Effects.{same_access, same_bool, same_effect, has_effect, added, gathered, covers_effect, some_covers}
use Rattle.lang_base.proofs.Equal.{effect_decides}
use Rattle.region_paths.proofs.Same.{same_rpl-is, same_rpl-from}

same_bool-is : (b c : Bool) → same_bool b c ≡ true → b ≡ c
same_bool-is true c h = sym h
same_bool-is false c h = sym (not-true c h)

same_bool-refl : (b : Bool) → same_bool b b ≡ true
same_bool-refl true = refl
same_bool-refl false = refl

same_access-is : (a b : Access) → same_access a b ≡ true → a ≡ b
same_access-is Read Read h = refl
same_access-is Write Write h = refl
same_access-is a b h = absurd (false≢true h)

same_access-refl : (a : Access) → same_access a a ≡ true
same_access-refl Read = refl
same_access-refl Write = refl

pub same_effect-is : (e f : Effect) → same_effect e f ≡ true → e ≡ f
unfolding same_effect
same_effect-is e f h =
    let p = and_parts (same_access e.access f.access && same_bool e.atomic f.atomic) _ h in
    let q = and_parts (same_access e.access f.access) _ p.0 in
    ap (λ z. record e { access = z }) (same_access-is e.access f.access q.0)
    ∙ ap (λ z. record { access = f.access; atomic = z; rpl = e.rpl }) (same_bool-is e.atomic f.atomic q.1)
    ∙ ap (λ z. record { access = f.access; atomic = f.atomic; rpl = z }) (same_rpl-is e.rpl f.rpl p.1)

same_effect-refl : (e : Effect) → same_effect e e ≡ true
unfolding same_effect
same_effect-refl e =
    and_from _ _ (and_from _ _ (same_access-refl e.access) (same_bool-refl e.atomic))
    (same_rpl-from e.rpl e.rpl refl)

same_effect-decides : (e f : Effect) → Decides (same_effect e f) (e ≡ f)
same_effect-decides e f = (same_effect-is e f, λ s. subst (λ z. same_effect e z ≡ true) s (same_effect-refl e))

-- `==` either way round
pub eq-same : (e f : Effect) → eq-value.it e f ≡ same_effect e f
eq-same e f = same_from_decides _ _ (effect_decides e f) (same_effect-decides e f)

eq-swapped : (e f : Effect) → eq-value.it f e ≡ same_effect e f
eq-swapped e f = same_from_decides _ _ (Decides-like _ (λ s. sym s) (λ s. sym s) (effect_decides f e)) (same_effect-decides e f)

-- what is looked up
pub any-has : (es : List Effect) (f : Effect) → list_any (eq-value.it f) es ≡ has_effect es f
any-has [] f = refl
any-has (e ∷ es) f = ap (λ z. z || list_any (eq-value.it f) es) (eq-swapped e f) ∙ ap (λ z. same_effect e f || z) (any-has es f)

-- what is put last
pub inserted : (es : List Effect) (f : Effect) → insert_key eq-value.it es f ≡ added es f
inserted es f = ap (λ b. cond b es (es ++ f ∷ [])) (any-has es f)

-- an effect of the list that covers another
pub has-covers : (es : List Effect) (e f : Effect) → has_effect es e ≡ true → covers_effect e f ≡ true → some_covers es f ≡ true
has-covers [] e f h k = absurd (false≢true h)
has-covers (d ∷ es) e f h k =
    ⊎_elim
    (λ t. or_left _ _ (subst (λ z. covers_effect z f ≡ true) (sym (same_effect-is d e t)) k))
    (λ t. or_right (covers_effect d f) _ (has-covers es e f t k))
    (or_cases (same_effect d e) _ h)

-- one effect more keeps them distinct, where it isn't there yet
pub distinct-nil : IsDistinct eq-value.it []
unfolding IsDistinct
distinct-nil = tt

pub distinct-push : (es : List Effect) (f : Effect) → IsDistinct eq-value.it es → has_effect es f ≡ false → IsDistinct eq-value.it (es ++ f ∷ [])
distinct-push es f d h = IsDistinct-push eq_laws.laws-law es f d (any-has es f ∙ h)

-- distinct effects, gathered again
one_of : (P : Effect → Type 0) (es fs : List Effect) (f : Effect) → AllByRecursion P (es ++ f ∷ fs) → P f
one_of P [] fs f h = h.0
one_of P (e ∷ es) fs f h = one_of P es fs f h.1

new_in_front : (es fs : List Effect) (f : Effect) → IsDistinct eq-value.it (es ++ f ∷ fs) → has_effect es f ≡ false
new_in_front [] fs f h = refl
new_in_front (e ∷ es) fs f h =
    or_from _ _
    (sym (eq-same e f) ∙ one_of (λ y. eq-value.it e y ≡ false) es fs f (IsDistinct-head eq-value.it e (es ++ f ∷ fs) h))
    (new_in_front es fs f (IsDistinct-tail eq-value.it e (es ++ f ∷ fs) h))

gathered-more : (es fs : List Effect) → IsDistinct eq-value.it (es ++ fs) → gathered es fs ≡ es ++ fs
gathered-more es [] h = sym (append-nil es)
gathered-more es (f ∷ fs) h =
    ap (λ z. gathered z fs) (ap (λ b. cond b es (es ++ f ∷ [])) (new_in_front es fs f h))
    ∙ gathered-more (es ++ f ∷ []) fs (subst (IsDistinct eq-value.it) (sym (append_assoc es (f ∷ []) fs)) h)
    ∙ append_assoc es (f ∷ []) fs

pub gathered-distinct : (es : List Effect) → IsDistinct eq-value.it es → gathered [] es ≡ es
gathered-distinct es h = gathered-more [] es h
