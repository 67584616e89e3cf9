-- Effects as a machine notes them interfere where those of the run do that they are like.
use Rattle.std.proofs.Common.{◌≡◌, inl, inr, fold, ℕ, suc, ◌==◌, Bool, true, false, cond, not, ◌+◌, ◌&&◌, ◌||◌, nat_lt, List, [], ◌∷◌, ◌++◌, length, map, reverse, refl, sym, ap, ap₂, ◌∙◌, subst, Some, slice_get, arith}
use Rattle.std.proofs.lemmas.Bool.Decides.{eqb_tells}
use Rattle.std.proofs.lemmas.List.{reverse-append, map-append}
use Rattle.lang_base.specs.Apart as base
use Rattle.lang_base.specs.Effects as base_effects
use Rattle.lang_base.specs.Regions as regions
use Rattle.lang_base.specs.declared.effect.Effect.{Effect}
use Rattle.lang_base.specs.declared.region.Head.TheVariants.{Root}
use Rattle.lang_base.specs.declared.region.Rpl.{Rpl}
use Rattle.region_paths.proofs.Envs.{apart_swap}
use Rattle.lang_meaning.specs.Actions.{Effect as EffectOver}
use Rattle.lang_meaning.specs.Values.{Region as RegionOver, Part as PartOver}
use Rattle.runs_theory.specs.Objects.{Path, Part, Region, LocalRegion, same_path}
use Rattle.runs_theory.specs.Objects.{Effect as RunEffect}
use Rattle.runs_theory.proofs.events.Mine.{test_same, test_other}
use Rattle.runs_program.specs.Interfering as run
use Rattle.exec_locks.specs.Locks as locks
use Rattle.exec_machine.specs.Wants.{noted, noted_part}
use Rattle.runs_simulation.proofs.alike.Sights.{Sight, each_none, each_more, each_append, LocalLike, made_like, unmade_like, EffectLike, EffectsLike, RegionLike, PartLike, a_name, a_number, a_local, own_index, any_index, any_parts}

-- one task has one number
abbrev pub OneNumber : Sight → Type 0
OneNumber w = (j k : ℕ) (p : Path) → slice_get w.paths j ≡ Some p → slice_get w.paths k ≡ Some p → j ≡ k

abbrev RegionIn : Type 0
RegionIn = RegionOver (ℕ × ℕ)

and_true : (b : Bool) → (b && true) ≡ b
and_true true = refl
and_true false = refl

and_false : (b : Bool) → (b && false) ≡ false
and_false true = refl
and_false false = refl

or_false : (b : Bool) → (b || false) ≡ b
or_false true = refl
or_false false = refl

or_grouped : (a b c : Bool) → ((a || b) || c) ≡ (a || (b || c))
or_grouped true b c = refl
or_grouped false b c = refl

or_crossed : (a b c d : Bool) → ((a || b) || (c || d)) ≡ ((a || c) || (b || d))
or_crossed true b c d = refl
or_crossed false true true d = refl
or_crossed false true false d = refl
or_crossed false false c d = refl

or_swapped : (a b : Bool) → (a || b) ≡ (b || a)
or_swapped true true = refl
or_swapped true false = refl
or_swapped false true = refl
or_swapped false false = refl

other : (a b : ℕ) → (a ≡ b → ⊥) → (a == b) ≡ false
other a b apart = elim (eqb_tells a b) [
  | inl y ↦ absurd (apart y.1)
  | inr y ↦ y.0
]

next_same : (c d : ℕ) → (suc c == suc d) ≡ (c == d)
next_same c d = elim (eqb_tells c d) [
  | inl x ↦ elim (eqb_tells (suc c) (suc d)) [
    | inl y ↦ y.0 ∙ sym x.0
    | inr y ↦ absurd (y.1 (ap (λ n. suc n) x.1))
  ]
  | inr x ↦ other (suc c) (suc d) (λ s. x.1 (omega (arith, s))) ∙ sym x.0
]

star_like : {w : Sight} {x : PartOver (ℕ × ℕ)} {p : Part} → PartLike w x p → regions.is_star (noted_part x) ≡ run.is_star p
star_like (a_name m) = refl
star_like (a_number k) = refl
star_like (a_local l) = refl
star_like own_index = refl
star_like any_index = refl
star_like any_parts = refl

module _ (w : Sight) (one : OneNumber w) where
  number_like : (j k : ℕ) (p q : Path) → slice_get w.paths j ≡ Some p → slice_get w.paths k ≡ Some q → (j == k) ≡ same_path p q
  number_like j k p q a b = elim (eqb_tells j k) [
    | inl y ↦ y.0 ∙ sym (test_same p q (let both : Some p ≡ Some q = sym a ∙ ap (λ i. slice_get w.paths i) y.1 ∙ b in cc))
    | inr y ↦ y.0 ∙ sym (test_other p q (λ same. y.1 (one j k p a (subst (λ z. slice_get w.paths k ≡ Some z) (sym same) b))))
  ]

  local_like : {l m : ℕ × ℕ} {r s : LocalRegion} → LocalLike w l r → LocalLike w m s → ((l.0 == m.0) && (l.1 == m.1)) ≡ run.same_local r s
  local_like (made_like j c p a) (made_like k d q b) = ap₂ (λ o i. o && i) (number_like j k p q a b) (next_same c d)
  local_like (made_like j c p a) (unmade_like r) = ap (λ i. (j == r) && i) (other (suc c) 0 (λ s. (omega (arith, s)))) ∙ and_false (j == r)
  local_like (unmade_like r) (made_like k d q b) = ap (λ i. (r == k) && i) (other 0 (suc d) (λ s. (omega (arith, s)))) ∙ and_false (r == k)
  local_like (unmade_like r) (unmade_like s) = and_true (r == s)

  distinct_like : {x y : PartOver (ℕ × ℕ)} {p q : Part} → PartLike w x p → PartLike w y q → base.distinct (noted_part x) (noted_part y) ≡ run.distinct p q
  distinct_like (a_name m) (a_name n) = refl
  distinct_like (a_name m) (a_number j) = refl
  distinct_like (a_name m) (a_local l) = refl
  distinct_like (a_name m) own_index = refl
  distinct_like (a_name m) any_index = refl
  distinct_like (a_name m) any_parts = refl
  distinct_like (a_number k) (a_name n) = refl
  distinct_like (a_number k) (a_number j) = refl
  distinct_like (a_number k) (a_local l) = refl
  distinct_like (a_number k) own_index = refl
  distinct_like (a_number k) any_index = refl
  distinct_like (a_number k) any_parts = refl
  distinct_like (a_local h) (a_name n) = refl
  distinct_like (a_local h) (a_number j) = refl
  distinct_like (a_local h) (a_local l) = ap (λ b. not b) (local_like h l)
  distinct_like (a_local h) own_index = refl
  distinct_like (a_local h) any_index = refl
  distinct_like (a_local h) any_parts = refl
  distinct_like own_index (a_name n) = refl
  distinct_like own_index (a_number j) = refl
  distinct_like own_index (a_local l) = refl
  distinct_like own_index own_index = refl
  distinct_like own_index any_index = refl
  distinct_like own_index any_parts = refl
  distinct_like any_index (a_name n) = refl
  distinct_like any_index (a_number j) = refl
  distinct_like any_index (a_local l) = refl
  distinct_like any_index own_index = refl
  distinct_like any_index any_index = refl
  distinct_like any_index any_parts = refl
  distinct_like any_parts (a_name n) = refl
  distinct_like any_parts (a_number j) = refl
  distinct_like any_parts (a_local l) = refl
  distinct_like any_parts own_index = refl
  distinct_like any_parts any_index = refl
  distinct_like any_parts any_parts = refl

  front_like : {r s : RegionIn} {p q : Region} → RegionLike w r p → RegionLike w s q → base.apart_front (map noted_part r) (map noted_part s) ≡ run.apart_front p q
  front_like each_none k = refl
  front_like (each_more h t) each_none = refl
  front_like (each_more h t) (each_more k u) =
      ap₂ (λ a b. not a && b) (ap₂ (λ a b. a || b) (star_like h) (star_like k)) (ap₂ (λ a b. a || b) (distinct_like h k) (front_like t u))

  counted_like : (n : ℕ) {r : RegionIn} {p : Region} → RegionLike w r p
      → fold (λ a x. a + cond (not (regions.is_star x)) 1 0) n (map noted_part r) ≡ fold (λ a x. a + cond (not (run.is_star x)) 1 0) n p
  counted_like n each_none = refl
  counted_like n (each_more {x = x} {y = p} {xs = xs} {ys = ps} h t) =
      counted_like (n + cond (not (regions.is_star (noted_part x))) 1 0) t
      ∙ ap (λ b. fold (λ a x. a + cond (not (run.is_star x)) 1 0) (n + cond (not b) 1 0) ps) (star_like h)

  number_of : {r : RegionIn} {p : Region} → RegionLike w r p → base.solid (map noted_part r) ≡ run.solid p
  number_of h = counted_like 0 h

  length_of : {r : RegionIn} {p : Region} → RegionLike w r p → length (map noted_part r) ≡ length p
  length_of each_none = refl
  length_of (each_more h t) = ap (λ n. suc n) (length_of t)

  shorter_like : {r s : RegionIn} {p q : Region} → RegionLike w r p → RegionLike w s q → base.shorter (map noted_part r) (map noted_part s) ≡ run.shorter p q
  shorter_like h k = ap₂ (λ a b. a && b) (ap₂ (λ a b. a == b) (number_of h) (length_of h)) (ap₂ (λ a b. nat_lt a b) (length_of h) (number_of k))

  reversed_like : {r : RegionIn} {p : Region} → RegionLike w r p → RegionLike w (reverse r) (reverse p)
  reversed_like each_none = each_none
  reversed_like (each_more {x = x} {y = p} {xs = xs} {ys = ps} h t) =
      subst (λ l. RegionLike w l (reverse (p ∷ ps))) (sym (reverse-append (x ∷ []) xs))
      (subst (λ l. RegionLike w (reverse xs ++ x ∷ []) l) (sym (reverse-append (p ∷ []) ps)) (each_append (reversed_like t) (each_more h each_none)))

  map_reversed : (r : RegionIn) → reverse (map noted_part r) ≡ map noted_part (reverse r)
  map_reversed [] = refl
  map_reversed (x ∷ r) =
      reverse-append (noted_part x ∷ []) (map noted_part r) ∙ ap (λ l. l ++ noted_part x ∷ []) (map_reversed r)
      ∙ sym (map-append noted_part (reverse r) (x ∷ [])) ∙ ap (map noted_part) (sym (reverse-append (x ∷ []) r))

  abbrev path_of : RegionIn → Rpl
  path_of r = record { head = Root; elems = map noted_part r }

  apart_like : {r s : RegionIn} {p q : Region} → RegionLike w r p → RegionLike w s q → base.apart [] (path_of r) (path_of s) ≡ run.apart p q
  unfolding base.apart
  apart_like {r} {s} {p} {q} h k =
      or_false _ ∙ ap₂ (λ x y. x || y) (ap₂ (λ x y. x || y) (front_like h k) (ap₂ (λ x y. x || y) (shorter_like h k) (shorter_like k h)))
      (ap₂ (λ a b. base.apart_front a b) (map_reversed r) (map_reversed s) ∙ front_like (reversed_like h) (reversed_like k))
      ∙ or_grouped (run.apart_front p q) (run.shorter p q || run.shorter q p) (run.apart_front (reverse p) (reverse q))

  abbrev EffectIn : Type 0
  EffectIn = EffectOver (ℕ × ℕ)

  interferes_like : {e f : EffectIn} {g h : RunEffect} → EffectLike w e g → EffectLike w f h → base_effects.interferes [] (noted e) (noted f) ≡ run.interferes g h
  unfolding base_effects.interferes
  interferes_like a b =
      ap₂ (λ x y. x && not y) (ap₂ (λ c d. base_effects.is_write c || base_effects.is_write d) a.access b.access) (apart_like a.region b.region)

  some_like : {e : EffectIn} {g : RunEffect} {fs : List EffectIn} {hs : List RunEffect} → EffectLike w e g → EffectsLike w fs hs
      → locks.some_interferes (noted e) (map noted fs) ≡ run.some_interferes g hs
  some_like a each_none = refl
  some_like a (each_more k t) = ap₂ (λ a b. a || b) (interferes_like a k) (some_like a t)

  -- lists of effects interfere in the machine exactly where they do in the run
  pub lists_like : {es fs : List EffectIn} {gs hs : List RunEffect} → EffectsLike w es gs → EffectsLike w fs hs
      → locks.lists_interfere (map noted es) (map noted fs) ≡ run.lists_interfere gs hs
  lists_like each_none k = refl
  lists_like (each_more h t) k = ap₂ (λ a b. a || b) (some_like h k) (lists_like t k)

-- interference is symmetric
same_truth : (a b : Bool) → (a ≡ true → b ≡ true) → (b ≡ true → a ≡ true) → a ≡ b
same_truth true b f g = sym (f refl)
same_truth false true f g = g refl
same_truth false false f g = refl

effects_swap : (e f : Effect) → base_effects.interferes [] e f ≡ base_effects.interferes [] f e
unfolding base_effects.interferes
effects_swap e f =
    ap₂ (λ x y. x && not y) (or_swapped (base_effects.is_write e.access) (base_effects.is_write f.access))
    (same_truth _ _ (λ t. apart_swap [] e.rpl f.rpl t) (λ t. apart_swap [] f.rpl e.rpl t))

with_none : (es : List Effect) → locks.lists_interfere es [] ≡ false
with_none [] = refl
with_none (e ∷ es) = with_none es

with_more : (es fs : List Effect) (f : Effect) → locks.lists_interfere es (f ∷ fs) ≡ (locks.some_interferes f es || locks.lists_interfere es fs)
with_more [] fs f = refl
with_more (e ∷ es) fs f =
    ap₂ (λ a b. (a || locks.some_interferes e fs) || b) (effects_swap e f) (with_more es fs f)
    ∙ or_crossed (base_effects.interferes [] f e) (locks.some_interferes e fs) (locks.some_interferes f es) (locks.lists_interfere es fs)

pub lists_swap : (es fs : List Effect) → locks.lists_interfere es fs ≡ locks.lists_interfere fs es
lists_swap [] fs = sym (with_none fs)
lists_swap (e ∷ es) fs = ap (λ b. locks.some_interferes e fs || b) (lists_swap es fs) ∙ sym (with_more fs es e)
