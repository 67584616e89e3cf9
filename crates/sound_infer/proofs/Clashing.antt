-- Weaker and fewer effects clash no more.
use Rattle.std.proofs.Common.{◌≡◌, ◌∙◌, ◌≤◌, ◌&&◌, ◌||◌, ℕ, Bool, true, false, not, List, [], ◌∷◌, map, filter, Option, Some, None, inl, inr, refl, sym, ap, arith}
use Rattle.std.specs.Prelude.{Contains}
use Rattle.lang_base.specs.declared.effect.Access.{Access}
use Rattle.lang_base.specs.declared.effect.Access.TheVariants.{Read, Write}
use Rattle.lang_base.specs.declared.effect.Constraint.{Constraint}
use Rattle.lang_base.specs.declared.effect.Effect.{Effect}
use Rattle.lang_base.specs.Apart.{apart}
use Rattle.lang_base.specs.Branches.{Atomic, ordered_by_blocks, clashes, some_clashes, lists_clash, renamed_effect, iterations_clash}
use Rattle.lang_base.specs.Effects.{is_write, interferes}
use Rattle.lang_typed.specs.Effects.{Own, does, uses, is_through, through_part, besides_part}
use Rattle.body_infer.specs.Kept.{strength_of}
use Rattle.body_infer.proofs.Fewer.{Fewer, fewer_mapped, fewer_filtered, fewer_in, in_cases, nothing_in, head_in, later_in, effect_by, own_by, Weaker, Less}
use Rattle.body_infer.proofs.Growing.{effects_less}
use Rattle.body_infer.proofs.Passing.{neither}

both_not : (a b : Bool) → a ≡ false → b ≡ false → (a || b) ≡ false
both_not true b e g = cc
both_not false b e g = g

no_write : (a b : Access) → strength_of a ≤ strength_of b → is_write b ≡ false → is_write a ≡ false
no_write Read b h e = refl
no_write Write Read h e = absurd (omega (arith, h))
no_write Write Write h e = e

-- effects that don't clash still don't where less is written
less_written : (w v x y : Bool) → (w ≡ false → v ≡ false) → ((w && x) && y) ≡ false → ((v && x) && y) ≡ false
less_written true true x y h e = e
less_written true false x y h e = refl
less_written false true x y h e = absurd (let g = h refl in cc)
less_written false false x y h e = refl

-- what atomic blocks order doesn't depend on accesses
ordered_alike : (nd : Option Atomic) (d e : Effect) (a b : Access) → ordered_by_blocks nd (effect_by a d) (effect_by b e) ≡ ordered_by_blocks nd d e
ordered_alike None d e a b = refl
ordered_alike (Some atomic) d e a b = refl

module _ (given : List Constraint) (nd : Option Atomic) where
  weaker_clash : (d e : Effect) (a b : Access) → strength_of d.access ≤ strength_of a → strength_of e.access ≤ strength_of b → clashes given nd (effect_by a d) (effect_by b e) ≡ false →
      clashes given nd d e ≡ false
  unfolding clashes interferes
  weaker_clash d e a b h g c =
      less_written (is_write a || is_write b) (is_write d.access || is_write e.access) (not (apart given d.rpl e.rpl)) (not (ordered_by_blocks nd d e))
      (λ n. (let w = neither (is_write a) (is_write b) n in both_not (is_write d.access) (is_write e.access) (no_write d.access a h w.0) (no_write e.access b g w.1)))
      (ap (λ o. ((is_write a || is_write b) && not (apart given d.rpl e.rpl)) && not o) (sym (ordered_alike nd d e a b)) ∙ c)

  clash_less : (d e d' e' : Effect) → Weaker d d' → Weaker e e' → clashes given nd d' e' ≡ false → clashes given nd d e ≡ false
  clash_less d e d' e' h g c =
      weaker_clash d e (Weaker.access h) (Weaker.access g) (Weaker.stronger h) (Weaker.stronger g)
      (ap (λ x. clashes given nd x (effect_by (Weaker.access g) e)) (sym (Weaker.is h)) ∙ ap (clashes given nd d') (sym (Weaker.is g)) ∙ c)

  none_of_some : (e : Effect) (fs : List Effect) (f : Effect) → some_clashes given nd e fs ≡ false → Contains fs f → clashes given nd e f ≡ false
  none_of_some e [] f h c = absurd (nothing_in f c)
  none_of_some e (x ∷ fs) f h c =
      let w = neither (clashes given nd e x) (some_clashes given nd e fs) h in
      elim (in_cases x fs f c) [ inl same ↦ ap (clashes given nd e) (sym same) ∙ w.0 | inr later ↦ none_of_some e fs f w.1 later ]

  none_of_lists : (es fs : List Effect) (e f : Effect) → lists_clash given nd es fs ≡ false → Contains es e → Contains fs f → clashes given nd e f ≡ false
  none_of_lists [] fs e f h c d = absurd (nothing_in e c)
  none_of_lists (x ∷ es) fs e f h c d =
      let w = neither (some_clashes given nd x fs) (lists_clash given nd es fs) h in
      elim (in_cases x es e c) [ inl same ↦ none_of_some e fs f (ap (λ y. some_clashes given nd y fs) (sym same) ∙ w.0) d | inr later ↦ none_of_lists es fs e f w.1 later d ]

  some_from : (e : Effect) (fs : List Effect) → ((f : Effect) → Contains fs f → clashes given nd e f ≡ false) → some_clashes given nd e fs ≡ false
  some_from e [] h = refl
  some_from e (x ∷ fs) h = both_not (clashes given nd e x) (some_clashes given nd e fs) (h x (head_in x fs)) (some_from e fs (λ f c. h f (later_in x fs f c)))

  lists_from : (es fs : List Effect) → ((e f : Effect) → Contains es e → Contains fs f → clashes given nd e f ≡ false) → lists_clash given nd es fs ≡ false
  lists_from [] fs h = refl
  lists_from (x ∷ es) fs h =
      both_not (some_clashes given nd x fs) (lists_clash given nd es fs) (some_from x fs (λ f d. h x f (head_in x es) d)) (lists_from es fs (λ e f c d. h e f (later_in x es e c) d))

  pub lists_less : (es fs es' fs' : List Effect) → Fewer Weaker es es' → Fewer Weaker fs fs' → lists_clash given nd es' fs' ≡ false → lists_clash given nd es fs ≡ false
  lists_less es fs es' fs' h g none =
      lists_from es fs (λ e f c d.
      let v = fewer_in Weaker es es' e h c in
      let w = fewer_in Weaker fs fs' f g d in
      clash_less e f v.0 w.0 v.2 w.2 (none_of_lists es' fs' v.0 w.0 none v.1 w.1))

  renamed_weaker : (v : ℕ) (d e : Effect) → Weaker d e → Weaker (renamed_effect v d) (renamed_effect v e)
  renamed_weaker v d e h = record { access = Weaker.access h; stronger = Weaker.stronger h; is = ap (renamed_effect v) (Weaker.is h) }

  pub iterations_less : (v : ℕ) (es es' : List Effect) → Fewer Weaker es es' → iterations_clash given nd v es' ≡ false → iterations_clash given nd v es ≡ false
  iterations_less v es es' h = lists_less es (map (renamed_effect v) es) es' (map (renamed_effect v) es') h (fewer_mapped Weaker Weaker (renamed_effect v) (renamed_weaker v) es es' h)

-- what is done through a part, and what besides it

through_by : (k : ℕ) (a : Access) (o : Own) → is_through k (own_by a o) ≡ is_through k o
through_by k a (does e) = refl
through_by k a (uses j e) = refl

through_less : (k : ℕ) (o p : Own) → Less o p → is_through k p ≡ is_through k o
through_less k o p h = ap (is_through k) (Less.is h) ∙ through_by k (Less.access h) o

pub through_fewer : (k : ℕ) (E F : List Own) → Fewer Less E F → Fewer Weaker (through_part k E) (through_part k F)
through_fewer k E F h = effects_less (filter (is_through k) E) (filter (is_through k) F) (fewer_filtered Less (is_through k) (through_less k) E F h)

pub besides_fewer : (k : ℕ) (E F : List Own) → Fewer Less E F → Fewer Weaker (besides_part k E) (besides_part k F)
besides_fewer k E F h =
    effects_less (filter (λ o. not (is_through k o)) E) (filter (λ o. not (is_through k o)) F) (fewer_filtered Less (λ o. not (is_through k o)) (λ o p l. ap not (through_less k o p l)) E F h)
