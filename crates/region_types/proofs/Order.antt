-- Subtyping is an order.
use Rattle.std.proofs.Common.{◌≡◌, ◌==◌, ℕ, zero, suc, ◌<◌, ◌≤◌, Bool, true, false, List, [], ◌∷◌, length, Option, Some, None, option_map, refl, sym, ap}
use Rattle.std.proofs.Common.{◌∙◌, subst, ⊎_elim, arith}
use Rattle.std.proofs.lemmas.Bool.{and_parts, or_cases, or_right, false≢true, eqb-true, cases_lt}
use Rattle.std.specs.Option.{option_and_then, option_map_or}
use Rattle.lang_base.specs.declared.region.Rpl.{Rpl}
use Rattle.lang_base.specs.declared.ty.Super.{Super}
use Rattle.lang_base.specs.Types.{PlainType, type_with, superclass, parent_of, ancestor, NoCycle, class_within, below_class, Subtype}
use Rattle.lang_base.specs.Types.PlainType.{int, boolean, void, null, class, array}
use Rattle.region_paths.proofs.Inclusion.{within-refl, within-trans}
use Rattle.region_types.proofs.Carried.{IsClass, class_within-refl, class_within-trans, class_of-within, parent-within}
use Rattle.region_types.proofs.Up.{below-here}

-- so many steps up, from a class type to a superclass
data Up (supers : List Super) : PlainType → ℕ → PlainType → Type 0 where
  here : {t : PlainType} → Up supers t zero t
  up : {t p b : PlainType} {n : ℕ} → parent_of supers t ≡ Some p → Up supers p n b → Up supers t (suc n) b

-- what is reached, and lies in the other type
abbrev Reached : List Super → PlainType → PlainType → Type 0
Reached supers a b = (n : ℕ) × (t : PlainType) × Up supers a n t × (class_within t b ≡ true)

chosen : (f : PlainType → Bool) (o : Option PlainType) → option_map_or f o false ≡ true → (t : PlainType) × (o ≡ Some t) × (f t ≡ true)
chosen f None h = absurd (false≢true h)
chosen f (Some t) h = (t, refl, h)

reached : (supers : List Super) (n : ℕ) (a b : PlainType) → below_class supers n a b ≡ true → Reached supers a b
reached supers zero a b h = (0, a, here, h)
reached supers (suc n) a b h =
    ⊎_elim
    (λ t. (0, a, here, t))
    (λ t. let c = chosen (λ p. below_class supers n p b) (parent_of supers a) t in
    let r = reached supers n c.0 b c.2 in
    (suc r.0, r.1, up c.1 r.2, r.3))
    (or_cases (class_within a b) _ h)

from_reached : (supers : List Super) {a t : PlainType} {k : ℕ} → Up supers a k t → (b : PlainType) → class_within t b ≡ true → (n : ℕ) → k ≤ n →
    below_class supers n a b ≡ true
from_reached supers (here {t = a}) b h n le = below-here supers n a b h
from_reached supers (up e r) b h zero le = absurd (omega arith)
from_reached supers (up {t = a} e r) b h (suc n) le =
    or_right (class_within a b) _ (ap (λ o. option_map_or (λ p. below_class supers n p b) o false) e ∙ from_reached supers r b h n (omega arith))

joined : (supers : List Super) {a b c : PlainType} {k m : ℕ} → Up supers a k b → Up supers b m c → (n : ℕ) × Up supers a n c
joined supers {m = m} here r = (m, r)
joined supers (up e q) r = let j = joined supers q r in (suc j.0, up e j.1)

first_steps : (supers : List Super) {a b : PlainType} {n : ℕ} → Up supers a n b → (m : ℕ) → m ≤ n → (t : PlainType) × Up supers a m t
first_steps supers {a = a} r zero le = (a, here)
first_steps supers here (suc m) le = absurd (omega arith)
first_steps supers (up e r) (suc m) le = let s = first_steps supers r m (omega arith) in (s.0, up e s.1)

ancestor-first : (supers : List Super) (n : ℕ) (a p : PlainType) → parent_of supers a ≡ Some p → ancestor supers (suc n) a ≡ ancestor supers n p
ancestor-first supers zero a p e = e
ancestor-first supers (suc n) a p e = ap (option_and_then (parent_of supers)) (ancestor-first supers n a p e)

ancestor-is : (supers : List Super) {a t : PlainType} {n : ℕ} → Up supers a n t → ancestor supers n a ≡ Some t
ancestor-is supers here = refl
ancestor-is supers (up {t = a} {p = p} {n = n} e r) = ancestor-first supers n a p e ∙ ancestor-is supers r

bounded : (supers : List Super) → NoCycle supers → {a t : PlainType} {n : ℕ} → Up supers a n t → n ≤ length supers
bounded supers free {a = a} {n = n} r =
    ⊎_elim
    (λ (more : length supers < n).
    let s = first_steps supers r (suc (length supers)) (omega arith) in
    let e = sym (free a) ∙ ancestor-is supers s.1 in
    absurd (none_some e))
    (λ h. h)
    (cases_lt (length supers) n)
  where
    none_some : {t : PlainType} → None ≡ Some t → ⊥
    none_some e = cc

parent_class : (supers : List Super) (a p : PlainType) → parent_of supers a ≡ Some p → IsClass a
parent_class supers (class c args) p e = (c, args, refl)
parent_class supers a p e = absurd (cc)

is_class : (supers : List Super) {a t : PlainType} {n : ℕ} → Up supers a n t → (b : PlainType) → class_within t b ≡ true → IsClass a
is_class supers (here {t = a}) b h = class_of-within a b h
is_class supers (up {t = a} {p = p} e r) b h = parent_class supers a p e

mapped : (ss : List Rpl) (o : Option PlainType) (q : PlainType) → option_map (type_with ss) o ≡ Some q → (t : PlainType) × (o ≡ Some t) × (type_with ss t ≡ q)
mapped ss None q e = absurd (cc)
mapped ss (Some t) q e = (t, refl, cc)

parent-carried : (supers : List Super) (u v q : PlainType) → parent_of supers v ≡ Some q → class_within u v ≡ true → IsClass q →
    (p : PlainType) × (parent_of supers u ≡ Some p) × (class_within p q ≡ true)
parent-carried supers (class c rs) (class d ss) q e h is =
    let w = and_parts (c == d) _ h in
    let m = mapped ss (superclass supers d) q e in (
      type_with rs m.0,
      ap (λ z. option_map (type_with rs) (superclass supers z)) (eqb-true c d w.0) ∙ ap (option_map (type_with rs)) m.1,
      subst (λ z. class_within (type_with rs m.0) z ≡ true) m.2 (parent-within rs ss w.1 m.0 (subst IsClass (sym m.2) is)),
    )
parent-carried supers u v q e h is = absurd (false≢true h)

carried : (supers : List Super) {v t : PlainType} {n : ℕ} → Up supers v n t → (u b : PlainType) → class_within u v ≡ true → class_within t b ≡ true →
    (x : PlainType) × Up supers u n x × (class_within x b ≡ true)
carried supers (here {t = v}) u b h k = (u, here, class_within-trans u v b h k)
carried supers (up {t = v} {p = q} e r) u b h k =
    let m = parent-carried supers u v q e h (is_class supers r b k) in
    let x = carried supers r m.0 b m.2 k in
    (x.0, up m.1 x.1, x.2)

below-trans : (supers : List Super) → NoCycle supers → (a b c : PlainType) → below_class supers (length supers) a b ≡ true →
    below_class supers (length supers) b c ≡ true → below_class supers (length supers) a c ≡ true
below-trans supers free a b c h k =
    let x = reached supers (length supers) a b h in
    let y = reached supers (length supers) b c k in
    let m = carried supers y.2 x.1 c x.3 y.3 in
    let j = joined supers x.2 m.1 in
    from_reached supers j.1 c m.2 (length supers) (bounded supers free j.1)

pub subtype-refl : (supers : List Super) (a : PlainType) → Subtype supers a a
subtype-refl supers int = tt
subtype-refl supers boolean = tt
subtype-refl supers void = tt
subtype-refl supers null = tt
subtype-refl supers (class c rs) = below-here supers (length supers) (class c rs) (class c rs) (class_within-refl c rs)
subtype-refl supers (array elem rpl index) = (within-refl rpl, refl)

pub subtype-trans : (supers : List Super) → NoCycle supers → (a b c : PlainType) → Subtype supers a b → Subtype supers b c → Subtype supers a c
subtype-trans supers free int int c h k = k
subtype-trans supers free boolean boolean c h k = k
subtype-trans supers free void void c h k = k
subtype-trans supers free null null c h k = k
subtype-trans supers free null (class d ss) (class e ts) h k = tt
subtype-trans supers free null (array t b j) (array u c l) h k = tt
subtype-trans supers free (class c rs) (class d ss) (class e ts) h k = below-trans supers free (class c rs) (class d ss) (class e ts) h k
subtype-trans supers free (array s a i) (array t b j) (array u c l) h k =
    (within-trans a b c h.0 k.0, h.1 ∙ k.1)
subtype-trans supers free null (class d ss) c h k = absurd k
subtype-trans supers free null (array t b j) c h k = absurd k
subtype-trans supers free (class c rs) (class d ss) t h k = absurd k
subtype-trans supers free (array s a i) (array t b j) c h k = absurd k
subtype-trans supers free a b c h k = absurd h

pub subtype-parent : (supers : List Super) (c d : ℕ) (args params : List Rpl) → parent_of supers (class c args) ≡ Some (class d params) →
    Subtype supers (class c args) (class d params)
subtype-parent [] c d args params e = absurd (cc)
subtype-parent (row ∷ rows) c d args params e =
    let supers = row ∷ rows in
    from_reached supers {a = class c args} (up e (here {t = class d params})) (class d params) (class_within-refl d params) (length supers) (omega arith)
