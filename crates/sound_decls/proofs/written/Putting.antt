-- Paths that lie in others, or are apart from others, stay so where arguments that are fully specified are put in.
use Rattle.std.proofs.Common.{◌≡◌, ◌+◌, ℕ, Bool, true, false, not, ◌&&◌, ◌||◌, cond, eqb, List, [], ◌∷◌, ◌++◌, length, reverse, refl, sym, ap, ◌∙◌, subst, inl, inr, ⊎_elim, arith}
use Rattle.std.specs.Prelude.{All}
use Rattle.std.proofs.lemmas.Bool.{and_parts, and_from, or_cases, or_left, or_right, or_parts, false≢true, eqb-true, not-true}
use Rattle.std.proofs.lemmas.List.{reverse-append, length-append}
use Rattle.std.proofs.lemmas.List.Elements.{All-head, All-tail}
use Rattle.std.proofs.lemmas.List.Sums.{sum_by-append}
use Rattle.lang_base.specs.declared.effect.Constraint.{Constraint}
use Rattle.lang_base.specs.declared.elems.Elem.{Elem}
use Rattle.lang_base.specs.declared.elems.Elem.TheVariants.{Star, Local}
use Rattle.lang_base.specs.declared.region.Head.{Head}
use Rattle.lang_base.specs.declared.region.Head.TheVariants.{Root, Param}
use Rattle.lang_base.specs.declared.region.Rpl.{Rpl}
use Rattle.lang_base.specs.Regions.{is_star, is_local, same_head, is_root, begins_with_star, heads_within, within, argument, put_at, substituted}
use Rattle.lang_base.specs.Apart.{distinct, apart_front, solid, shorter, apart_as_shorter, apart_by, apart_by_some, apart}
use Rattle.region_paths.proofs.Inclusion.{Covers, one, skip, Covers-from, Covers-to, star_is, elem_within-refl, heads_within-same}
use Rattle.region_paths.proofs.Same.{same_head-is, same_head-refl}
use Rattle.region_paths.proofs.Envs.{apart_swap}
use Rattle.region_paths.proofs.Lists.{front-step, solid-one, shorter-parts, shorter-from}
use Rattle.region_paths.proofs.Paths.{rule_of, by_rule, apart-within}

-- neither `*` nor a local region
abbrev pub is_firm : Elem → Bool
is_firm Star = false
is_firm (Local r n) = false
is_firm x = true

abbrev pub all_firm : List Elem → Bool
all_firm [] = true
all_firm (x ∷ r) = is_firm x && all_firm r

firm-star : (x : Elem) → is_firm x ≡ true → is_star x ≡ false
firm-star Star h = absurd (false≢true h)
firm-star x h = refl

firm-local : (x : Elem) → is_firm x ≡ true → is_local x ≡ false
firm-local (Local r n) h = absurd (false≢true h)
firm-local x h = refl

-- what stands after firm elements

firm_after : (r b a : List Elem) → all_firm r ≡ true → Covers b a → Covers (r ++ b) (r ++ a)
firm_after [] b a h d = d
firm_after (x ∷ r) b a h d = let p = and_parts (is_firm x) _ h in one (elem_within-refl x) (firm-star x p.0) (firm_after r b a p.1 d)

skip_firm : (r b a : List Elem) → all_firm r ≡ true → Covers (Star ∷ b) a → Covers (Star ∷ b) (r ++ a)
skip_firm [] b a h d = d
skip_firm (x ∷ r) b a h d = let p = and_parts (is_firm x) _ h in skip (firm-local x p.0) (skip_firm r b a p.1 d)

under_star : (r b a : List Elem) → all_firm r ≡ true → begins_with_star b ≡ true → Covers b a → Covers b (r ++ a)
under_star r [] a h s d = absurd (false≢true s)
under_star r (x ∷ b) a h s d =
    let e = star_is x s in
    subst (λ z. Covers (z ∷ b) (r ++ a)) (sym e) (skip_firm r b a h (subst (λ z. Covers (z ∷ b) a) e d))

front_after : (r a b : List Elem) → all_firm r ≡ true → apart_front a b ≡ true → apart_front (r ++ a) (r ++ b) ≡ true
front_after [] a b h f = f
front_after (x ∷ r) a b h f =
    let p = and_parts (is_firm x) _ h in
    front-step x x (r ++ a) (r ++ b) (firm-star x p.0) (firm-star x p.0) ∙ or_right (distinct x x) _ (front_after r a b p.1 f)

front_before : (a b r q : List Elem) → apart_front a b ≡ true → apart_front (a ++ r) (b ++ q) ≡ true
front_before [] b r q h = absurd (false≢true h)
front_before (x ∷ a) [] r q h = absurd (false≢true h)
front_before (x ∷ a) (y ∷ b) r q h =
    let p = and_parts (not (is_star x || is_star y)) _ h in
    let s = or_parts (is_star x) (is_star y) (not-true _ p.0) in
    front-step x y (a ++ r) (b ++ q) s.0 s.1
    ∙ ⊎_elim
    (λ e. or_left _ _ e)
    (λ e. or_right (distinct x y) _ (front_before a b r q e))
    (or_cases (distinct x y) _ p.1)

solid_both : (a b : List Elem) → solid (a ++ b) ≡ solid a + solid b
solid_both a b = sum_by-append (λ y. cond (not (is_star y)) 1 0) a b

solid_firm : (r : List Elem) → all_firm r ≡ true → solid r ≡ length r
solid_firm [] h = refl
solid_firm (x ∷ r) h =
    let p = and_parts (is_firm x) _ h in
    let k = solid_firm r p.1 in
    let e = solid-one x r (firm-star x p.0) in
    omega arith

shorter_after : (r a b : List Elem) → all_firm r ≡ true → shorter a b ≡ true → shorter (r ++ a) (r ++ b) ≡ true
shorter_after r a b h s =
    let p = shorter-parts a b s in
    let p0 = p.0 in
    let p1 = p.1 in
    let k = solid_firm r h in
    let ea = solid_both r a in
    let eb = solid_both r b in
    let la = length-append r a in
    shorter-from (r ++ a) (r ++ b) (omega arith) (omega arith)

shorter_before : (r a b : List Elem) → shorter a b ≡ true → shorter a (r ++ b) ≡ true
shorter_before r a b s =
    let p = shorter-parts a b s in
    let p0 = p.0 in
    let p1 = p.1 in
    let eb = solid_both r b in
    shorter-from a (r ++ b) p0 (omega arith)

-- the head and the first elements of a path where arguments are put in
abbrev pub put_head : List Rpl → Head → Head
put_head args Root = Root
put_head args (Param p) = (argument args p).head

abbrev pub put_front : List Rpl → Head → List Elem
put_front args Root = []
put_front args (Param p) = (argument args p).elems

pub put_is : (args : List Rpl) (a : Rpl) → substituted args a ≡ record { head = put_head args a.head; elems = put_front args a.head ++ a.elems }
unfolding substituted
put_is args a = by a.head
  where
    by : (h : Head) → put_at h a.elems args ≡ record { head = put_head args h; elems = put_front args h ++ a.elems }
    by Root = refl
    by (Param p) = refl

-- no argument has a `*` or a local region
module _ (args : List Rpl) (firm : (p : ℕ) → all_firm (argument args p).elems ≡ true) where
  front_firm : (h : Head) → all_firm (put_front args h) ≡ true
  front_firm Root = refl
  front_firm (Param p) = firm p

  heads_put : (h k : Head) (b : List Elem) → heads_within h k b ≡ true → heads_within (put_head args h) (put_head args k) (put_front args k ++ b) ≡ true
  heads_put Root Root b e = refl
  heads_put Root (Param q) b e = absurd (false≢true e)
  heads_put (Param p) (Param q) b e =
      subst (λ z. heads_within (argument args z).head (argument args q).head ((argument args q).elems ++ b) ≡ true) (sym (eqb-true p q e))
      (heads_within-same (argument args q).head ((argument args q).elems ++ b))
  heads_put (Param p) Root b e = under (argument args p).head
    where
      under : (h : Head) → heads_within h Root b ≡ true
      under Root = refl
      under (Param q) = e

  lists_put : (h k : Head) (b a : List Elem) → heads_within h k b ≡ true → Covers b a → Covers (put_front args k ++ b) (put_front args h ++ a)
  lists_put Root Root b a e d = d
  lists_put Root (Param q) b a e d = absurd (false≢true e)
  lists_put (Param p) (Param q) b a e d =
      subst (λ z. Covers ((argument args q).elems ++ b) ((argument args z).elems ++ a)) (sym (eqb-true p q e)) (firm_after (argument args q).elems b a (firm q) d)
  lists_put (Param p) Root b a e d = under_star (argument args p).elems b a (firm p) e d

  within_put : (a b : Rpl) → within a b ≡ true → within (substituted args a) (substituted args b) ≡ true
  unfolding within
  within_put a b w =
      let p = and_parts (heads_within a.head b.head b.elems) _ w in
      subst (λ z. within z (substituted args b) ≡ true) (sym (put_is args a))
      (subst (λ z. within (record { head = put_head args a.head; elems = put_front args a.head ++ a.elems }) z ≡ true) (sym (put_is args b))
      (and_from _ _ (heads_put a.head b.head b.elems p.0) (Covers-to (lists_put a.head b.head b.elems a.elems p.0 (Covers-from b.elems a.elems p.1)))))

  left_put : (h k : Head) (a b : List Elem) → same_head h k ≡ true → apart_front a b ≡ true →
      (same_head (put_head args h) (put_head args k) ≡ true) × (apart_front (put_front args h ++ a) (put_front args k ++ b) ≡ true)
  left_put h k a b e f =
      subst (λ z. (same_head (put_head args h) (put_head args z) ≡ true) × (apart_front (put_front args h ++ a) (put_front args z ++ b) ≡ true)) (same_head-is h k e)
      (same_head-refl (put_head args h), front_after (put_front args h) a b (front_firm h) f)

  shorter_put : (h k : Head) (a b : List Elem) → (same_head h k || is_root h) ≡ true → shorter a b ≡ true →
      ((same_head (put_head args h) (put_head args k) || is_root (put_head args h)) ≡ true) × (shorter (put_front args h ++ a) (put_front args k ++ b) ≡ true)
  shorter_put Root k a b e s = (or_right (same_head Root (put_head args k)) true refl, shorter_before (put_front args k) a b s)
  shorter_put (Param p) Root a b e s = absurd (false≢true e)
  shorter_put (Param p) (Param q) a b e s =
      let n : eqb p q ≡ true = ⊎_elim (λ t. t) (λ t. absurd (false≢true t)) (or_cases (eqb p q) false e) in
      let h = (argument args p).head in
      subst (λ z. ((same_head h (argument args z).head || is_root h) ≡ true) × (shorter ((argument args p).elems ++ a) ((argument args z).elems ++ b) ≡ true)) (eqb-true p q n)
      (or_left _ _ (same_head-refl h), shorter_after (argument args p).elems a b (firm p) s)

  right_put : (r q a b : List Elem) → apart_front (reverse a) (reverse b) ≡ true → apart_front (reverse (r ++ a)) (reverse (q ++ b)) ≡ true
  right_put r q a b f =
      ap (λ z. apart_front z (reverse (q ++ b))) (reverse-append r a) ∙ ap (λ z. apart_front (reverse a ++ reverse r) z) (reverse-append q b)
      ∙ front_before (reverse a) (reverse b) (reverse r) (reverse q) f

  -- the constraints hold with the arguments put in
  module _ (given other : List Constraint) (hold : All (λ (k : Constraint). apart other (substituted args k.left) (substituted args k.right) ≡ true) given) where
    abbrev Kept : Constraint → Type 0
    Kept k = apart other (substituted args k.left) (substituted args k.right) ≡ true

    by_put : (k : Constraint) → Kept k → (a b : Rpl) → apart_by k a b ≡ true → apart other (substituted args a) (substituted args b) ≡ true
    by_put k kept a b h =
        ⊎_elim
        (λ e. let p = and_parts (within a k.left) _ e in
        apart-within other (substituted args a) (substituted args k.left) (substituted args b) (substituted args k.right) (within_put a k.left p.0) (within_put b k.right p.1) kept)
        (λ e. let p = and_parts (within a k.right) _ e in
        apart-within other (substituted args a) (substituted args k.right) (substituted args b) (substituted args k.left) (within_put a k.right p.0) (within_put b k.left p.1)
        (apart_swap other (substituted args k.left) (substituted args k.right) kept))
        (or_cases (within a k.left && within b k.right) _ h)

    by_some_put : (ks : List Constraint) → All Kept ks → (a b : Rpl) → apart_by_some ks a b ≡ true → apart other (substituted args a) (substituted args b) ≡ true
    by_some_put [] all a b h = absurd (false≢true h)
    by_some_put (k ∷ ks) all a b h =
        ⊎_elim
        (λ e. by_put k (All-head Kept k ks all) a b e)
        (λ e. by_some_put ks (All-tail Kept k ks all) a b e)
        (or_cases (apart_by k a b) _ h)

    plain_put : (a b : Rpl) → apart given a b ≡ true → apart other (record { head = put_head args a.head; elems = put_front args a.head ++ a.elems }) (record { head = put_head args b.head; elems = put_front args b.head ++ b.elems }) ≡ true
    plain_put a b h =
        ⊎_elim
        (λ e. let p = and_parts (same_head a.head b.head) _ e in let q = left_put a.head b.head a.elems b.elems p.0 p.1 in by_rule other _ _ (inl (and_from _ _ q.0 q.1)))
        (λ r. ⊎_elim
        (λ e. by_rule other _ _ (inr (inl (⊎_elim
        (λ t. let p = and_parts (same_head a.head b.head || is_root a.head) _ t in
        let q = shorter_put a.head b.head a.elems b.elems p.0 p.1 in or_left _ _ (and_from _ _ q.0 q.1))
        (λ t. let p = and_parts (same_head b.head a.head || is_root b.head) _ t in
        let q = shorter_put b.head a.head b.elems a.elems p.0 p.1 in or_right _ _ (and_from _ _ q.0 q.1))
        (or_cases (apart_as_shorter a b) _ e)))))
        (λ r. ⊎_elim
        (λ e. by_rule other _ _ (inr (inr (inl (right_put (put_front args a.head) (put_front args b.head) a.elems b.elems e)))))
        (λ e. subst (λ z. apart other z (record { head = put_head args b.head; elems = put_front args b.head ++ b.elems }) ≡ true) (put_is args a)
        (subst (λ z. apart other (substituted args a) z ≡ true) (put_is args b) (by_some_put given hold a b e)))
        r)
        r)
        (rule_of given a b h)

    pub apart_put : (a b : Rpl) → apart given a b ≡ true → apart other (substituted args a) (substituted args b) ≡ true
    apart_put a b h =
        subst (λ z. apart other z (substituted args b) ≡ true) (sym (put_is args a))
        (subst (λ z. apart other (record { head = put_head args a.head; elems = put_front args a.head ++ a.elems }) z ≡ true) (sym (put_is args b)) (plain_put a b h))
