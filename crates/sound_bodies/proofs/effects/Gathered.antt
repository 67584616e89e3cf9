-- What is found after a piece, by its parts.
use Rattle.std.proofs.Common.{◌≡◌, ◌⊎◌, ℕ, Bool, true, false, ◌||◌, cond, List, [], ◌∷◌, ◌++◌, map, Contains, inl, inr, ⊎_elim, refl, sym, subst, arith}
use Rattle.std.proofs.lemmas.List.Elements.{Contains-append_left, Contains-append_right, Contains-append_cases, Contains-push, Contains-push_cases}
use Rattle.lang_base.specs.declared.array_part.PartUse.{PartUse}
use Rattle.lang_base.specs.declared.effect.Access.{Access}
use Rattle.lang_base.specs.declared.effect.Effect.{Effect}
use Rattle.lang_base.specs.declared.region.Rpl.{Rpl}
use Rattle.lang_base.specs.Effects.{same_effect, has_effect, added, gathered}
use Rattle.region_effects.proofs.Sets.{same_effect-is}
use Rattle.lang_typed.specs.Effects.{Own, does, uses}
use Rattle.region_interfere.specs.Uses.{use_effect}
use Rattle.body_exprs.specs.declared.found.Found.{Found}
use Rattle.body_exprs.specs.Answer.{with_part_use}
use Rattle.body_exprs.specs.Found.{access_to, part_access}
use Rattle.sound_bodies.specs.Gathered.{InFound, Gathers}

-- members of lists

pub nothing_in : {A : Type 0} (x : A) → Contains [] x → ⊥
nothing_in x c = let below = c.1 in omega (arith, below)

pub head_in : {A : Type 0} (x : A) (xs : List A) → Contains (x ∷ xs) x
head_in x xs = (0, omega arith, refl)

pub later_in : {A : Type 0} (x : A) (xs : List A) (z : A) → Contains xs z → Contains (x ∷ xs) z
later_in x xs z c = Contains-append_right (x ∷ []) xs z c

pub one_of : {A : Type 0} (x z : A) → Contains (x ∷ []) z → x ≡ z
one_of x z c = ⊎_elim (λ none. absurd (nothing_in z none)) (λ same. same) (Contains-push_cases [] x z c)

pub in_cases : {A : Type 0} (x : A) (xs : List A) (z : A) → Contains (x ∷ xs) z → (x ≡ z) ⊎ Contains xs z
in_cases x xs z c = ⊎_elim (λ first. inl (one_of x z first)) (λ later. inr later) (Contains-append_cases (x ∷ []) xs z c)

-- sets of effects

has_in : (es : List Effect) (e : Effect) → has_effect es e ≡ true → Contains es e
has_in [] e h = cc
has_in (f ∷ es) e h = by (has_in es e) (same_effect f e) refl h
  where
    by : (has_effect es e ≡ true → Contains es e) → (b : Bool) → same_effect f e ≡ b → (b || has_effect es e) ≡ true → Contains (f ∷ es) e
    by next true is h = subst (λ z. Contains (f ∷ es) z) (same_effect-is f e is) (head_in f es)
    by next false is h = later_in f es e (next h)

pub added_from : (es : List Effect) (f e : Effect) → Contains (added es f) e → Contains es e ⊎ (f ≡ e)
added_from es f e c = by (has_effect es f) c
  where
    by : (b : Bool) → Contains (cond b es (es ++ f ∷ [])) e → Contains es e ⊎ (f ≡ e)
    by true c = inl c
    by false c = Contains-push_cases es f e c

pub added_kept : (es : List Effect) (f e : Effect) → Contains es e → Contains (added es f) e
added_kept es f e c = by (has_effect es f)
  where
    by : (b : Bool) → Contains (cond b es (es ++ f ∷ [])) e
    by true = c
    by false = Contains-append_left es (f ∷ []) e c

pub added_new : (es : List Effect) (f : Effect) → Contains (added es f) f
added_new es f = by (has_effect es f) refl
  where
    by : (b : Bool) → has_effect es f ≡ b → Contains (cond b es (es ++ f ∷ [])) f
    by true is = has_in es f is
    by false is = Contains-push es f

-- with one effect more
abbrev pub with_effect : Found → Effect → Found
with_effect found e = record found { effects = added found.effects e }

pub nothing_gathered : (f : Found) → Gathers f [] f
nothing_gathered f o = (λ i. inl i, λ s. ⊎_elim (λ i. i) (λ none. absurd (nothing_in o none)) s)

pub one_gathered : (f : Found) (e : Effect) → Gathers f (does e ∷ []) (with_effect f e)
one_gathered f e (does d) = (
  λ i. ⊎_elim (λ before. inl before) (λ same. inr (subst (λ z. Contains (does e ∷ []) (does z)) same (head_in (does e) []))) (added_from f.effects e d i),
  λ s. ⊎_elim (λ before. added_kept f.effects e d before) (λ c. subst (λ z. Contains (added f.effects e) z) (does_same e d (one_of (does e) (does d) c)) (added_new f.effects e)) s,
)
  where
    does_same : (x y : Effect) → does x ≡ does y → x ≡ y
    does_same x y same = cc
one_gathered f e (uses k d) = (λ i. inl i, λ s. ⊎_elim (λ i. i) (λ c. absurd (differ (one_of (does e) (uses k d) c))) s)
  where
    differ : does e ≡ uses k d → ⊥
    differ same = cc

pub use_gathered : (f : Found) (k : ℕ) (a : Rpl) (how : Access) → Gathers f (uses k (access_to a how) ∷ []) (with_part_use f k a how)
use_gathered f k a how (does d) = (λ i. inl i, λ s. ⊎_elim (λ i. i) (λ c. absurd (differ (one_of (uses k (access_to a how)) (does d) c))) s)
  where
    differ : uses k (access_to a how) ≡ does d → ⊥
    differ same = cc
use_gathered f k a how (uses j d) = (
  λ i. ⊎_elim (λ before. inl (i.0, before, i.2, i.3)) (λ same. inr (made i.0 same i.2 i.3)) (Contains-push_cases f.uses (part_access k a how) i.0 i.1),
  λ s. ⊎_elim (λ i. (i.0, Contains-append_left f.uses (part_access k a how ∷ []) i.0 i.1, i.2, i.3)) (λ c. reported (one_of (uses k (access_to a how)) (uses j d) c)) s,
)
  where
    made : (u : PartUse) → part_access k a how ≡ u → u.view ≡ j → use_effect u ≡ d → Contains (uses k (access_to a how) ∷ []) (uses j d)
    made u same view effect =
        let at : k ≡ j = subst (λ (z : PartUse). z.view ≡ j) (sym same) view in
        let does_so : access_to a how ≡ d = subst (λ (z : PartUse). use_effect z ≡ d) (sym same) effect in
        subst (λ z. Contains (uses k (access_to a how) ∷ []) (uses z d)) at
        (subst (λ z. Contains (uses k (access_to a how) ∷ []) (uses k z)) does_so (head_in (uses k (access_to a how)) []))

    reported : uses k (access_to a how) ≡ uses j d → InFound (with_part_use f k a how) (uses j d)
    reported same =
        let at : k ≡ j = cc in
        let effect : access_to a how ≡ d = cc in
        (part_access k a how, Contains-push f.uses (part_access k a how), at, effect)

pub then_gathered : (f g h : Found) (E F : List Own) → Gathers f E g → Gathers g F h → Gathers f (E ++ F) h
then_gathered f g h E F first second o = (
  λ i. ⊎_elim
      (λ before. ⊎_elim (λ j. inl j) (λ c. inr (Contains-append_left E F o c)) ((first o).0 before))
      (λ c. inr (Contains-append_right E F o c))
      ((second o).0 i),
  λ s. ⊎_elim
      (λ before. (second o).1 (inl ((first o).1 (inl before))))
      (λ c. ⊎_elim (λ d. (second o).1 (inl ((first o).1 (inr d)))) (λ d. (second o).1 (inr d)) (Contains-append_cases E F o c))
      s,
)

-- with several effects
pub all_gathered : (f : Found) (make : Effect → Effect) (es : List Effect) →
    Gathers f (map (λ e. does (make e)) es) (record f { effects = gathered f.effects (map make es) })
all_gathered f make [] = nothing_gathered f
all_gathered f make (e ∷ es) =
    then_gathered f (with_effect f (make e)) (record f { effects = gathered (added f.effects (make e)) (map make es) }) (does (make e) ∷ []) (map (λ d. does (make d)) es)
    (one_gathered f (make e)) (all_gathered (with_effect f (make e)) make es)

-- whether an nd construct was reached is told apart from effects
pub gathered_nd : (f g : Found) (E : List Own) (b : Bool) → Gathers f E g → Gathers f E (record g { reaches_nd = b })
gathered_nd f g E b h (does e) = h (does e)
gathered_nd f g E b h (uses k e) = h (uses k e)
