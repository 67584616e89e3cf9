-- Which fault is reported depends on which ones are noted, and not on their order or on how often each is noted.
use Rattle.std.proofs.Common.{◌≡◌, Bool, true, false, cond, List, [], ◌∷◌, Option, Some, None, ◌⊎◌, inl, inr, refl, sym, ap, subst, ◌∙◌, rules}
use Rattle.std.specs.Bool.{Decides}
use Rattle.std.specs.Cmp.{IsTotalOrder}
use Rattle.std.specs.Ordering.{is_eq, is_lt, ordering_reverse, ordering_then}
use Rattle.std.specs.declared.cmp.Ordering.{Ordering}
use Rattle.std.specs.declared.cmp.Ordering.TheVariants.{Less, Equal, Greater}
use Rattle.std.proofs.lemmas.Bool.Decides.{not_from_Decides}
use Rattle.std.proofs.lemmas.Cmp.{on_total, then_total, tied_itself}
use Rattle.lang_base.specs.contracts.place.PlaceOrd.TheImpl as places
use Rattle.lang_base.specs.contracts.place.PlaceOrd.TheImpl.Laws as place_laws
use Rattle.lang_base.specs.contracts.place.PlacePartialEq.TheImpl as place_eq
use Rattle.lang_base.specs.contracts.refusal.KindOrd.TheImpl as kinds
use Rattle.lang_base.specs.contracts.refusal.KindOrd.TheImpl.Laws as kind_laws
use Rattle.lang_base.specs.contracts.refusal.KindPartialEq.TheImpl as kind_eq
use Rattle.lang_base.specs.declared.place.Place.{Place}
use Rattle.lang_base.specs.declared.refusal.Kind.{Kind}
use Rattle.lang_base.specs.declared.refusal.Refusal.{Refusal}
use Rattle.decl_headers.specs.declared.faults.Faults.{Faults}
use Rattle.decl_headers.specs.declared.faults.Order.{Order}
use Rattle.decl_headers.specs.declared.faults.Order.TheVariants as order
use Rattle.decl_headers.specs.Faults.{compared, comes_first, reported_of, noted, all_noted}

-- the first fault is reported rather than the second
abbrev Before : Order → Refusal → Refusal → Type 0
Before by a b = compared by a b ≡ Less

total : (by : Order) → IsTotalOrder (compared by)
total order.Place = then_total (on_total (λ fault. fault.place) place_laws.total-law) (on_total (λ fault. fault.kind) kind_laws.total-law)
total order.Kind = then_total (on_total (λ fault. fault.kind) kind_laws.total-law) (on_total (λ fault. fault.place) place_laws.total-law)

less_decides : (o : Ordering) → Decides (is_lt o) (o ≡ Less)
less_decides Less = (λ e. refl, λ e. refl)
less_decides Equal = (λ e. cc, λ e. cc)
less_decides Greater = (λ e. cc, λ e. cc)

decided : (by : Order) (a b : Refusal) → Decides (comes_first by a b) (Before by a b)
decided by a b = less_decides (compared by a b)

before_trans : (by : Order) (a b c : Refusal) → Before by a b → Before by b c → Before by a c
before_trans by a b c = (total by).trans a b c

before_self : (by : Order) (a : Refusal) → Before by a a → ⊥
before_self by a h = let tied = tied_itself (total by) a in cc

place_decides : (a b : Place) → Decides (place_eq.eq-value.it a b) (a ≡ b)
place_decides a b = search rules

kind_decides : (a b : Kind) → Decides (kind_eq.eq-value.it a b) (a ≡ b)
kind_decides a b = search rules

same_place : (a b : Place) → places.cmp-value.it a b ≡ Equal → a ≡ b
same_place a b e = (place_decides a b).0 (place_laws.matches_eq-law a b ∙ ap is_eq e)

same_kind : (a b : Kind) → kinds.cmp-value.it a b ≡ Equal → a ≡ b
same_kind a b e = (kind_decides a b).0 (kind_laws.matches_eq-law a b ∙ ap is_eq e)

both_tied : (o p : Ordering) → ordering_then o p ≡ Equal → (o ≡ Equal) × (p ≡ Equal)
both_tied Less p e = cc
both_tied Equal p e = (refl, e)
both_tied Greater p e = cc

both_same : (a b : Refusal) → a.place ≡ b.place → a.kind ≡ b.kind → a ≡ b
both_same a b place kind = λ i. record { kind = kind i; place = place i }

same_refusal : (by : Order) (a b : Refusal) → compared by a b ≡ Equal → a ≡ b
same_refusal order.Place a b e =
    let w = both_tied _ _ e in
    both_same a b (same_place a.place b.place w.0) (same_kind a.kind b.kind w.1)
same_refusal order.Kind a b e =
    let w = both_tied _ _ e in
    both_same a b (same_place a.place b.place w.1) (same_kind a.kind b.kind w.0)

before_which : (by : Order) (a b : Refusal) → Before by a b ⊎ ((a ≡ b) ⊎ Before by b a)
before_which by a b = which (compared by a b) refl
  where
    which : (o : Ordering) → compared by a b ≡ o → Before by a b ⊎ ((a ≡ b) ⊎ Before by b a)
    which Less e = inl e
    which Equal e = inr (inl (same_refusal by a b e))
    which Greater e = inr (inr ((total by).antisymm b a ∙ ap ordering_reverse e))

-- of two faults the one that is reported
abbrev earlier : Order → Refusal → Refusal → Refusal
earlier by a b = cond (comes_first by b a) b a

earlier_is : (by : Order) (a b : Refusal) → (Before by b a × (earlier by a b ≡ b)) ⊎ ((Before by b a → ⊥) × (earlier by a b ≡ a))
earlier_is by a b = which (comes_first by b a) (decided by b a)
  where
    which : (t : Bool) → Decides t (Before by b a) → (Before by b a × (cond t b a ≡ b)) ⊎ ((Before by b a → ⊥) × (cond t b a ≡ a))
    which true d = inl (d.0 refl, refl)
    which false d = inr (not_from_Decides false d refl, refl)

-- what is reported before the earlier one is reported before both
before_both : (by : Order) (a b x : Refusal) → Before by x (earlier by a b) → Before by x a × Before by x b
before_both by a b x h =
    elim (earlier_is by a b) [
      | inl w ↦ let here : Before by x b = subst (Before by x) w.1 h in (before_trans by x b a here w.0, here)
      | inr w ↦
          let here : Before by x a = subst (Before by x) w.1 h in (
            here,
            elim (before_which by a b) [
              | inl l ↦ before_trans by x a b here l
              | inr more ↦ elim more [ inl e ↦ subst (Before by x) e here | inr g ↦ absurd (w.0 g) ]
            ],
          )
    ]

earlier_of : (by : Order) (a b : Refusal) → (earlier by a b ≡ a) ⊎ (earlier by a b ≡ b)
earlier_of by a b = elim (earlier_is by a b) [ inl w ↦ inr w.1 | inr w ↦ inl w.1 ]

-- two are the same where neither is reported before the other
neither_first : (by : Order) (a b : Refusal) → (Before by a b → ⊥) → (Before by b a → ⊥) → a ≡ b
neither_first by a b l g = elim (before_which by a b) [ inl h ↦ absurd (l h) | inr more ↦ elim more [ inl e ↦ e | inr h ↦ absurd (g h) ] ]

not_earlier : (by : Order) (a b m : Refusal) → (m ≡ a) ⊎ (m ≡ b) → Before by m (earlier by b a) → ⊥
not_earlier by a b m is h =
    let both = before_both by b a m h in
    elim is [ inl e ↦ before_self by a (subst (λ z. Before by z a) e both.1) | inr e ↦ before_self by b (subst (λ z. Before by z b) e both.0) ]

earlier_swap : (by : Order) (a b : Refusal) → earlier by a b ≡ earlier by b a
earlier_swap by a b =
    neither_first by (earlier by a b) (earlier by b a) (not_earlier by a b (earlier by a b) (earlier_of by a b)) (not_earlier by b a (earlier by b a) (earlier_of by b a))

not_earliest : (by : Order) (k a b : Refusal) → Before by (earlier by (earlier by k a) b) (earlier by (earlier by k b) a) → ⊥
not_earliest by k a b h =
    let m = earlier by (earlier by k a) b in
    let outer = before_both by (earlier by k b) a m h in
    let inner = before_both by k b m outer.0 in
    elim (earlier_of by (earlier by k a) b) [
      | inl e ↦ elim (earlier_of by k a) [
        | inl f ↦ before_self by k (subst (λ z. Before by z k) (e ∙ f) inner.0)
        | inr f ↦ before_self by a (subst (λ z. Before by z a) (e ∙ f) outer.1)
      ]
      | inr e ↦ before_self by b (subst (λ z. Before by z b) e inner.1)
    ]

reported_swap : (by : Order) (kept : Option Refusal) (a b : Refusal) → reported_of by (Some (reported_of by kept a)) b ≡ reported_of by (Some (reported_of by kept b)) a
reported_swap by None a b = earlier_swap by a b
reported_swap by (Some k) a b = neither_first by _ _ (not_earliest by k a b) (not_earliest by k b a)

earlier_again : (by : Order) (k a : Refusal) → (Before by a k → ⊥) → earlier by k a ≡ k
earlier_again by k a h = elim (earlier_is by k a) [ inl w ↦ absurd (h w.0) | inr w ↦ w.1 ]

reported_again : (by : Order) (kept : Option Refusal) (a : Refusal) → reported_of by (Some (reported_of by kept a)) a ≡ reported_of by kept a
reported_again by None a = earlier_again by a a (before_self by a)
reported_again by (Some k) a = earlier_again by (earlier by k a) a (λ h. before_self by a (before_both by k a a h).1)

noted_swap : (faults : Faults) (a b : Refusal) → noted (noted faults a) b ≡ noted (noted faults b) a
unfolding noted
noted_swap faults a b = ap (λ o. record faults { kept = Some o }) (reported_swap faults.order faults.kept a b)

noted_again : (faults : Faults) (a : Refusal) → noted (noted faults a) a ≡ noted faults a
unfolding noted
noted_again faults a = ap (λ o. record faults { kept = Some o }) (reported_again faults.order faults.kept a)

-- one fault or a list of them, in either order
one_swap : (faults : Faults) (a : Refusal) (found : List Refusal) → all_noted (noted faults a) found ≡ noted (all_noted faults found) a
one_swap faults a [] = refl
one_swap faults a (b ∷ found) = ap (λ f. all_noted f found) (noted_swap faults a b) ∙ one_swap (noted faults b) a found

pub all_swap : (faults : Faults) (found more : List Refusal) → all_noted (all_noted faults found) more ≡ all_noted (all_noted faults more) found
all_swap faults [] more = refl
all_swap faults (a ∷ found) more = all_swap (noted faults a) found more ∙ ap (λ f. all_noted f found) (one_swap faults a more)

-- what stands in a list
abbrev pub Among : {A : Type 0} → A → List A → Type 0
Among x [] = ⊥
Among x (y ∷ ys) = (x ≡ y) ⊎ Among x ys

-- what is among the faults is noted with them
noted_among : (faults : Faults) (a : Refusal) (found : List Refusal) → Among a found → all_noted (noted faults a) found ≡ all_noted faults found
noted_among faults a [] h = absurd h
noted_among faults a (b ∷ found) (inl e) = ap (λ f. all_noted f found) (ap (λ z. noted (noted faults z) b) e ∙ noted_again faults b)
noted_among faults a (b ∷ found) (inr h) = ap (λ f. all_noted f found) (noted_swap faults a b) ∙ noted_among (noted faults b) a found h

all_among : (faults : Faults) (few all : List Refusal) → ((a : Refusal) → Among a few → Among a all) → all_noted (all_noted faults few) all ≡ all_noted faults all
all_among faults [] all within = refl
all_among faults (a ∷ few) all within =
    all_among (noted faults a) few all (λ b h. within b (inr h)) ∙ noted_among faults a all (within a (inl refl))

-- two lists with the same faults
pub same_noted : (faults : Faults) (xs ys : List Refusal) → ((a : Refusal) → Among a xs → Among a ys) → ((a : Refusal) → Among a ys → Among a xs) → all_noted faults xs ≡ all_noted faults ys
same_noted faults xs ys there back =
    sym (all_among faults ys xs back) ∙ all_swap faults ys xs ∙ all_among faults xs ys there
