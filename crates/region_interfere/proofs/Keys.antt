-- Paths of different groups are apart.
use Rattle.std.proofs.Common.{◌≡◌, ◌≢◌, ℕ, ◌-◌, take, drop, ◌<◌, Bool, true, false, ◌&&◌, cond, List, [], ◌∷◌, ◌++◌, length, reverse, Option, Some, None, refl, sym, ap}
use Rattle.std.proofs.Common.{◌∙◌, subst, inl, inr, ◌⊎◌, ⊎_elim, arith}
use Rattle.std.proofs.lemmas.Bool.{and_parts, and_from, or_left, or_right, false≢true, cases_Bool}
use Rattle.std.proofs.lemmas.List.{reverse-append, take-append-drop}
use Rattle.lang_base.specs.declared.elems.Elem.{Elem}
use Rattle.lang_base.specs.declared.region.Head.{Head}
use Rattle.lang_base.specs.declared.region.Rpl.{Rpl}
use Rattle.lang_base.specs.declared.effect.Effect.{Effect}
use Rattle.lang_base.specs.declared.effect.Constraint.{Constraint}
use Rattle.lang_base.specs.Regions.{same_head}
use Rattle.lang_base.specs.Apart.{distinct, apart_front, solid, apart_as_shorter, apart}
use Rattle.lang_base.specs.Matching.{is_concrete, all_concrete}
use Rattle.lang_base.specs.Keys.{elems_eq}
use Rattle.lang_base.proofs.Equal.{elems_decides}
use Rattle.region_paths.proofs.Same.{same_head-is, same_head-refl}
use Rattle.region_paths.proofs.ConcreteElems.{concrete-no_star, same_or_distinct, distinct-front}
use Rattle.region_paths.proofs.Lists.{front-step, solid-one, shorter-from}
use Rattle.region_paths.proofs.Paths.{by_rule}
use Rattle.region_interfere.specs.declared.key.Key.{Key}
use Rattle.region_interfere.specs.declared.key.Key.TheVariants.{First, Last, Whole}
use Rattle.region_interfere.specs.Groups.{fixed_one, key_of}

cond-some : {X : Type 0} (b : Bool) (n p : X) → cond b (Some n) None ≡ Some p → (b ≡ true) × (n ≡ p)
cond-some true n p e = (refl, cc)
cond-some false n p e = absurd (cc)

cond-known : {X : Type 0} (b : Bool) (o : Option X) (p : X) → cond b o None ≡ Some p → (b ≡ true) × (o ≡ Some p)
cond-known true o p e = (refl, e)
cond-known false o p e = absurd (cc)

pub same_or_other : (p q : List Elem) → (p ≡ q) ⊎ (p ≢ q)
same_or_other p q =
    ⊎_elim
    (λ t. inl ((elems_decides p q).0 t))
    (λ f. inr (λ s. false≢true (sym f ∙ (elems_decides p q).1 s)))
    (cases_Bool (elems_eq p q))

-- a list of one element that stands for itself
abbrev One : List Elem → List Elem → Type 0
One a p = (x : Elem) × (a ≡ x ∷ []) × (is_concrete x ≡ true) × (x ∷ [] ≡ p)

fixed-is : (a p : List Elem) → fixed_one a ≡ Some p → One a p
fixed-is [] p e = absurd (cc)
fixed-is (x ∷ []) p e = let h = cond-some (is_concrete x) (x ∷ []) p e in (x, refl, h.0, h.1)
fixed-is (x ∷ y ∷ r) p e = absurd (cc)

-- lists that begin with different elements
heads-front : (x y : Elem) (a b p q : List Elem) → is_concrete x ≡ true → is_concrete y ≡ true → x ∷ [] ≡ p → y ∷ [] ≡ q → p ≢ q → apart_front (x ∷ a) (y ∷ b) ≡ true
heads-front x y a b p q c d e f ne =
    ⊎_elim
    (λ s. absurd (ne (sym e ∙ ap (λ z. z ∷ []) s ∙ f)))
    (λ apart. distinct-front x y a b c d apart)
    (same_or_distinct x y c d)

firsts-front : (a b p q : List Elem) → fixed_one (take 1 a) ≡ Some p → fixed_one (take 1 b) ≡ Some q → p ≢ q → apart_front a b ≡ true
firsts-front [] b p q e f ne = absurd (cc)
firsts-front (x ∷ a) [] p q e f ne = absurd (cc)
firsts-front (x ∷ a) (y ∷ b) p q e f ne =
    let m = cond-some (is_concrete x) (x ∷ []) p e in
    let n = cond-some (is_concrete y) (y ∷ []) q f in
    heads-front x y a b p q m.0 n.0 m.1 n.1 ne

-- the last element of a list, and what stands before it
ends : (a : List Elem) (x : Elem) (n : ℕ) → drop n a ≡ x ∷ [] → reverse a ≡ x ∷ reverse (take n a)
ends a x n e = ap reverse (sym (take-append-drop n a) ∙ ap (λ z. take n a ++ z) e) ∙ reverse-append (take n a) (x ∷ [])

lasts-front : (a b p q : List Elem) → fixed_one (drop (length a - 1) a) ≡ Some p → fixed_one (drop (length b - 1) b) ≡ Some q → p ≢ q →
    apart_front (reverse a) (reverse b) ≡ true
lasts-front a b p q e f ne =
    let m = fixed-is (drop (length a - 1) a) p e in
    let n = fixed-is (drop (length b - 1) b) q f in
    ap (λ z. apart_front z (reverse b)) (ends a m.0 (length a - 1) m.1) ∙ ap (apart_front (m.0 ∷ reverse (take (length a - 1) a))) (ends b n.0 (length b - 1) n.1)
    ∙ heads-front m.0 n.0 (reverse (take (length a - 1) a)) (reverse (take (length b - 1) b)) p q m.2 n.2 m.3 n.3 ne

solid-concrete : (a : List Elem) → all_concrete a ≡ true → solid a ≡ length a
solid-concrete [] h = refl
solid-concrete (x ∷ a) h =
    let p = and_parts (is_concrete x) _ h in
    let r = solid-concrete a p.1 in
    let s = solid-one x a (concrete-no_star x p.0) in
    omega arith

-- how two lists of elements that stand for themselves differ
abbrev Differ : List Elem → List Elem → Type 0
Differ a b = (apart_front a b ≡ true) ⊎ ((length a < length b) ⊎ (length b < length a))

same-or-differ : (a b : List Elem) → all_concrete a ≡ true → all_concrete b ≡ true → (a ≡ b) ⊎ Differ a b
same-or-differ [] [] h k = inl refl
same-or-differ [] (y ∷ b) h k = inr (inr (inl (omega arith)))
same-or-differ (x ∷ a) [] h k = inr (inr (inr (omega arith)))
same-or-differ (x ∷ a) (y ∷ b) h k =
    let p = and_parts (is_concrete x) _ h in
    let q = and_parts (is_concrete y) _ k in
    ⊎_elim
    (λ s. ⊎_elim
    (λ t. inl (ap (λ z. z ∷ a) s ∙ ap (λ z. y ∷ z) t))
    (λ d. inr (⊎_elim
    (λ front. inl (front-step x y a b (concrete-no_star x p.0) (concrete-no_star y q.0) ∙ or_right (distinct x y) _ front))
    (λ l. inr (⊎_elim (λ (lt : length a < length b). inl (omega arith)) (λ (gt : length b < length a). inr (omega arith)) l))
    d))
    (same-or-differ a b p.1 q.1))
    (λ d. inr (inl (distinct-front x y a b p.0 q.0 d)))
    (same_or_distinct x y p.0 q.0)

heads-same : (g h k : Head) → same_head g k ≡ true → same_head h k ≡ true → same_head g h ≡ true
heads-same g h k a b = subst (λ z. same_head g z ≡ true) (same_head-is g k a ∙ sym (same_head-is h k b)) (same_head-refl g)

longer-apart : (a b : Rpl) → same_head a.head b.head ≡ true → all_concrete a.elems ≡ true → all_concrete b.elems ≡ true → length a.elems < length b.elems →
    apart_as_shorter a b ≡ true
longer-apart a b s h k lt =
    let c = solid-concrete a.elems h in
    let d = solid-concrete b.elems k in
    and_from _ _ (or_left _ _ s) (shorter-from a.elems b.elems c (omega arith))

pub keys-apart : (given : List Constraint) (key : Key) (e f : Effect) (p q : List Elem) → key_of key e ≡ Some p → key_of key f ≡ Some q → p ≢ q →
    apart given e.rpl f.rpl ≡ true
keys-apart given (First h) e f p q m n ne =
    let a = cond-known (same_head e.rpl.head h) (fixed_one (take 1 e.rpl.elems)) p m in
    let b = cond-known (same_head f.rpl.head h) (fixed_one (take 1 f.rpl.elems)) q n in
    by_rule given e.rpl f.rpl (inl (and_from _ _ (heads-same e.rpl.head f.rpl.head h a.0 b.0) (firsts-front e.rpl.elems f.rpl.elems p q a.1 b.1 ne)))
keys-apart given Last e f p q m n ne = by_rule given e.rpl f.rpl (inr (inr (inl (lasts-front e.rpl.elems f.rpl.elems p q m n ne))))
keys-apart given (Whole h) e f p q m n ne =
    let a = cond-some (same_head e.rpl.head h && all_concrete e.rpl.elems) e.rpl.elems p m in
    let b = cond-some (same_head f.rpl.head h && all_concrete f.rpl.elems) f.rpl.elems q n in
    let c = and_parts (same_head e.rpl.head h) _ a.0 in
    let d = and_parts (same_head f.rpl.head h) _ b.0 in
    let s = heads-same e.rpl.head f.rpl.head h c.0 d.0 in
    let t = heads-same f.rpl.head e.rpl.head h d.0 c.0 in
    ⊎_elim
    (λ same. absurd (ne (sym a.1 ∙ same ∙ b.1)))
    (λ differ. by_rule given e.rpl f.rpl (⊎_elim
    (λ front. inl (and_from _ _ s front))
    (λ l. inr (inl (⊎_elim
    (λ lt. or_left _ _ (longer-apart e.rpl f.rpl s c.1 d.1 lt))
    (λ gt. or_right (apart_as_shorter e.rpl f.rpl) _ (longer-apart f.rpl e.rpl t d.1 c.1 gt))
    l)))
    differ))
    (same-or-differ e.rpl.elems f.rpl.elems c.1 d.1)
