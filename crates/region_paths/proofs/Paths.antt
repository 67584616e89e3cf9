-- Paths that are apart: whatever lies in them, with heads and constraints.
use Rattle.std.proofs.Common.{◌≡◌, ℕ, true, not, ◌&&◌, ◌||◌, List, [], ◌∷◌, refl, sym, ap, ◌∙◌, subst, inl, inr, ◌⊎◌, ⊎_elim, arith}
use Rattle.std.proofs.lemmas.Bool.{and_parts, and_from, or_cases, or_left, or_right, false≢true, eqb-true}
use Rattle.lang_base.specs.declared.elems.Elem.{Elem}
use Rattle.lang_base.specs.declared.region.Head.{Head}
use Rattle.lang_base.specs.declared.region.Head.TheVariants.{Root, Param}
use Rattle.lang_base.specs.declared.region.Rpl.{Rpl}
use Rattle.lang_base.specs.declared.effect.Constraint.{Constraint}
use Rattle.lang_base.specs.Regions.{is_star, same_head, is_root, begins_with_star, heads_within, within}
use Rattle.lang_base.specs.Apart.{distinct, apart_front, solid, shorter, apart_from_left, apart_as_shorter, apart_by_length, apart_from_right, apart_by}
use Rattle.lang_base.specs.Apart.{apart_by_some, apart}
use Rattle.region_paths.proofs.Inclusion.{Covers, Covers-from, star_is, within-trans}
use Rattle.region_paths.proofs.Lists.{front-within, Covers-reverse, shorter-within, shorter-parts, solid-star, solid-length}

-- how a path lies in another: with the same head, or after a parameter where the other begins with `*`
data Headed : Head → Head → List Elem → Type 0 where
  same : {h : Head} {b : List Elem} → Headed h h b
  under : {p : ℕ} {b : List Elem} → begins_with_star b ≡ true → Headed (Param p) Root b

headed : (h k : Head) (b : List Elem) → heads_within h k b ≡ true → Headed h k b
headed Root Root b e = same
headed Root (Param q) b e = absurd (false≢true e)
headed (Param p) (Param q) b e = subst (λ z. Headed (Param p) z b) (ap Param (eqb-true p q e)) same
headed (Param p) Root b e = under e

starred_front : (b d : List Elem) → begins_with_star b ≡ true → apart_front b d ≡ true → ⊥
starred_front [] d h k = false≢true h
starred_front (x ∷ b) [] h k = false≢true k
starred_front (x ∷ b) (y ∷ d) h k =
    false≢true (ap (λ z. not (z || is_star y) && (distinct x y || apart_front b d)) (sym h) ∙ k)

front_starred : (b d : List Elem) → begins_with_star d ≡ true → apart_front b d ≡ true → ⊥
front_starred [] d h k = false≢true k
front_starred (x ∷ b) [] h k = false≢true k
front_starred (x ∷ b) (y ∷ d) h k =
    false≢true (ap (λ z. not z && (distinct x y || apart_front b d)) (sym (or_right (is_star x) (is_star y) h)) ∙ k)

starred_shorter : (b d : List Elem) → begins_with_star b ≡ true → shorter b d ≡ true → ⊥
starred_shorter [] d h k = false≢true h
starred_shorter (x ∷ b) d h k =
    let p = (shorter-parts (x ∷ b) d k).0 in
    let e = ap (λ z. solid (z ∷ b)) (star_is x h) ∙ solid-star b in
    let n = solid-length b in
    omega arith

-- heads of what lies in paths that are apart from the left
left-within : (h k m n : Head) (b a d c : List Elem) → Headed h k b → Headed m n d → Covers b a → Covers d c → same_head k n ≡ true → apart_front b d ≡ true →
    (same_head h m ≡ true) × (apart_front a c ≡ true)
left-within h k m n b a d c same same r q e f = (e, front-within r q f)
left-within h k m n b a d c same (under s) r q e f = absurd (front_starred b d s f)
left-within h k m n b a d c (under s) g r q e f = absurd (starred_front b d s f)

length-within : (h k m n : Head) (b a d c : List Elem) → Headed h k b → Headed m n d → Covers b a → Covers d c → (same_head k n || is_root k) ≡ true →
    shorter b d ≡ true → ((same_head h m || is_root h) ≡ true) × (shorter a c ≡ true)
length-within h k m n b a d c same same r q e f = (e, shorter-within r q f)
length-within Root k m n b a d c same (under s) r q e f = (refl, shorter-within r q f)
length-within (Param p) k m n b a d c same (under s) r q e f = absurd (false≢true e)
length-within h k m n b a d c (under s) g r q e f = absurd (starred_shorter b d s f)

-- what lies in two paths
module _ (a b c d : Rpl) (w : within a b ≡ true) (v : within c d ≡ true) where
  covers_left : Covers b.elems a.elems
  unfolding within
  covers_left = Covers-from b.elems a.elems (and_parts (heads_within a.head b.head b.elems) _ w).1

  covers_right : Covers d.elems c.elems
  unfolding within
  covers_right = Covers-from d.elems c.elems (and_parts (heads_within c.head d.head d.elems) _ v).1

  heads_left : Headed a.head b.head b.elems
  unfolding within
  heads_left = headed a.head b.head b.elems (and_parts (heads_within a.head b.head b.elems) _ w).0

  heads_right : Headed c.head d.head d.elems
  unfolding within
  heads_right = headed c.head d.head d.elems (and_parts (heads_within c.head d.head d.elems) _ v).0

  from_left-within : apart_from_left b d ≡ true → apart_from_left a c ≡ true
  from_left-within h =
      let p = and_parts (same_head b.head d.head) _ h in
      let k = left-within a.head b.head c.head d.head b.elems a.elems d.elems c.elems heads_left heads_right covers_left covers_right p.0 p.1 in
      and_from _ _ k.0 k.1

  as_shorter-within : apart_as_shorter b d ≡ true → apart_as_shorter a c ≡ true
  as_shorter-within h =
      let p = and_parts (same_head b.head d.head || is_root b.head) _ h in
      let k = length-within a.head b.head c.head d.head b.elems a.elems d.elems c.elems heads_left heads_right covers_left covers_right p.0 p.1 in
      and_from _ _ k.0 k.1

  as_longer-within : apart_as_shorter d b ≡ true → apart_as_shorter c a ≡ true
  as_longer-within h =
      let p = and_parts (same_head d.head b.head || is_root d.head) _ h in
      let k = length-within c.head d.head a.head b.head d.elems c.elems b.elems a.elems heads_right heads_left covers_right covers_left p.0 p.1 in
      and_from _ _ k.0 k.1

  by_length-within : apart_by_length b d ≡ true → apart_by_length a c ≡ true
  by_length-within h =
      ⊎_elim
      (λ e. or_left _ _ (as_shorter-within e))
      (λ e. or_right (apart_as_shorter a c) _ (as_longer-within e))
      (or_cases (apart_as_shorter b d) _ h)

  from_right-within : apart_from_right b d ≡ true → apart_from_right a c ≡ true
  from_right-within h = front-within (Covers-reverse covers_left) (Covers-reverse covers_right) h

  by-within : (k : Constraint) → apart_by k b d ≡ true → apart_by k a c ≡ true
  by-within k h =
      ⊎_elim
      (λ e. let p = and_parts (within b k.left) _ e in or_left _ _ (and_from _ _ (within-trans a b k.left w p.0) (within-trans c d k.right v p.1)))
      (λ e. let p = and_parts (within b k.right) _ e in or_right (within a k.left && within c k.right) _ (and_from _ _ (within-trans a b k.right w p.0) (within-trans c d k.left v p.1)))
      (or_cases (within b k.left && within d k.right) _ h)

  by_some-within : (ks : List Constraint) → apart_by_some ks b d ≡ true → apart_by_some ks a c ≡ true
  by_some-within [] h = absurd (false≢true h)
  by_some-within (k ∷ ks) h =
      ⊎_elim
      (λ e. or_left _ _ (by-within k e))
      (λ e. or_right (apart_by k a c) _ (by_some-within ks e))
      (or_cases (apart_by k b d) _ h)

-- apart by one of the four rules
abbrev pub AnyRule : List Constraint → Rpl → Rpl → Type 0
AnyRule given a b = (apart_from_left a b ≡ true) ⊎ ((apart_by_length a b ≡ true) ⊎ ((apart_from_right a b ≡ true) ⊎ (apart_by_some given a b ≡ true)))

pub rule_of : (given : List Constraint) (a b : Rpl) → apart given a b ≡ true → AnyRule given a b
unfolding apart
rule_of given a b h =
    ⊎_elim
    (λ e. ⊎_elim
    (λ f. ⊎_elim (λ g. inl g) (λ g. inr (inl g)) (or_cases (apart_from_left a b) _ f))
    (λ f. inr (inr (inl f)))
    (or_cases (apart_from_left a b || apart_by_length a b) _ e))
    (λ e. inr (inr (inr e)))
    (or_cases (apart_from_left a b || apart_by_length a b || apart_from_right a b) _ h)

pub by_rule : (given : List Constraint) (a b : Rpl) → AnyRule given a b → apart given a b ≡ true
unfolding apart
by_rule given a b r =
    ⊎_elim
    (λ e. or_left _ _ (or_left _ _ (or_left _ _ e)))
    (λ r. ⊎_elim
    (λ e. or_left _ _ (or_left _ _ (or_right (apart_from_left a b) _ e)))
    (λ r. ⊎_elim
    (λ e. or_left _ _ (or_right (apart_from_left a b || apart_by_length a b) _ e))
    (λ e. or_right (apart_from_left a b || apart_by_length a b || apart_from_right a b) _ e)
    r)
    r)
    r

-- what lies in two paths that are apart is apart
pub apart-within : (given : List Constraint) (a b c d : Rpl) → within a b ≡ true → within c d ≡ true → apart given b d ≡ true → apart given a c ≡ true
apart-within given a b c d w v h =
    by_rule given a c
    (⊎_elim
    (λ e. inl (from_left-within a b c d w v e))
    (λ r. inr (⊎_elim
    (λ e. inl (by_length-within a b c d w v e))
    (λ r. inr (⊎_elim
    (λ e. inl (from_right-within a b c d w v e))
    (λ e. inr (by_some-within a b c d w v given e))
    r))
    r))
    (rule_of given b d h))
