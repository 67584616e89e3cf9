-- Inclusion of lists of elements as a derivation, and what it keeps.
use Rattle.std.proofs.Common.{◌≡◌, true, false, not, List, [], ◌∷◌, ◌++◌, refl, sym, ap, ◌∙◌, subst, inl, inr, ◌⊎◌, ⊎_elim}
use Rattle.std.proofs.lemmas.Bool.{cases_Bool, and_parts, or_cases, or_right, or_left, and_from, false≢true, not-true, cond-true, cond-false, eqb-true, eq-eqb}
use Rattle.lang_base.specs.declared.elems.Elem.{Elem}
use Rattle.lang_base.specs.declared.elems.Elem.TheVariants.{Any, Star}
use Rattle.lang_base.specs.declared.region.Head.{Head}
use Rattle.lang_base.specs.declared.region.Head.TheVariants.{Root, Param}
use Rattle.lang_base.specs.declared.region.Rpl.{Rpl}
use Rattle.lang_base.specs.Regions.{is_star, is_any, is_local, is_index, same_elem, elem_within, covers_elems, begins_with_star, heads_within, within}
use Rattle.region_paths.proofs.Same.{same_elem-is, same_elem-refl}
use Rattle.region_paths.proofs.Segments.{elem_within-local}

pub data Covers : List Elem → List Elem → Type 0 where
  none : Covers [] []
  one : {y x : Elem} {b a : List Elem} → elem_within x y ≡ true → is_star y ≡ false → Covers b a → Covers (y ∷ b) (x ∷ a)
  stop : {b a : List Elem} → Covers b a → Covers (Star ∷ b) a
  skip : {x : Elem} {b a : List Elem} → is_local x ≡ false → Covers (Star ∷ b) a → Covers (Star ∷ b) (x ∷ a)

pub star_is : (y : Elem) → is_star y ≡ true → y ≡ Star
star_is Star h = refl
star_is y h = absurd (false≢true h)

pub Covers-from : (b a : List Elem) → covers_elems b a ≡ true → Covers b a
Covers-from [] [] h = none
Covers-from [] (x ∷ a) h = absurd (false≢true h)
Covers-from (y ∷ b) [] h =
    let p = and_parts (is_star y) _ h in
    subst (λ z. Covers (z ∷ b) []) (sym (star_is y p.0)) (stop (Covers-from b [] p.1))
Covers-from (y ∷ b) (x ∷ a) h =
    ⊎_elim
    (λ s. ⊎_elim
    (λ e. subst (λ z. Covers (z ∷ b) (x ∷ a)) (sym (star_is y s)) (stop (Covers-from b (x ∷ a) e)))
    (λ e. let p = and_parts (not (is_local x)) _ e in
    let k : Covers (y ∷ b) a = Covers-from (y ∷ b) a p.1 in
    subst (λ z. Covers (z ∷ b) (x ∷ a)) (sym (star_is y s)) (skip (not-true _ p.0) (subst (λ z. Covers (z ∷ b) a) (star_is y s) k)))
    (or_cases (covers_elems b (x ∷ a)) _ (sym (cond-true (is_star y) _ _ s) ∙ h)))
    (λ s. let p = and_parts (elem_within x y) _ (sym (cond-false (is_star y) _ _ s) ∙ h) in one p.0 s (Covers-from b a p.1))
    (cases_Bool (is_star y))

star_stops : (b a : List Elem) → covers_elems b a ≡ true → covers_elems (Star ∷ b) a ≡ true
star_stops b [] h = h
star_stops b (x ∷ a) h = or_left _ _ h

pub Covers-to : {b a : List Elem} → Covers b a → covers_elems b a ≡ true
Covers-to none = refl
Covers-to (one {y = y} {x = x} e s r) = cond-false (is_star y) _ _ s ∙ and_from _ _ e (Covers-to r)
Covers-to (stop {b = b} {a = a} r) = star_stops b a (Covers-to r)
Covers-to (skip {x = x} {b = b} {a = a} l r) = or_right (covers_elems b (x ∷ a)) _ (and_from _ _ (ap not l) (Covers-to r))

-- elements

any_is : (y : Elem) → is_any y ≡ true → y ≡ Any
any_is Any h = refl
any_is y h = absurd (false≢true h)

pub elem_within-cases : (x y : Elem) → elem_within x y ≡ true → (x ≡ y) ⊎ ((y ≡ Any) × (is_index x ≡ true))
elem_within-cases x y h =
    ⊎_elim
    (λ e. inl (same_elem-is x y e))
    (λ e. let p = and_parts (is_any y) _ e in inr (any_is y p.0, p.1))
    (or_cases (same_elem x y) _ h)

pub elem_within-refl : (x : Elem) → elem_within x x ≡ true
elem_within-refl x = or_left _ _ (same_elem-refl x)

pub elem_within-same : (x y : Elem) → x ≡ y → elem_within x y ≡ true
elem_within-same x y e = subst (λ z. elem_within x z ≡ true) e (elem_within-refl x)

pub elem_within-any : (x : Elem) → is_index x ≡ true → elem_within x Any ≡ true
elem_within-any x h = or_right (same_elem x Any) _ h

elem_within-index : (x y : Elem) → is_index y ≡ true → elem_within x y ≡ true → is_index x ≡ true
elem_within-index x y h e =
    ⊎_elim (λ s. ap is_index s ∙ h) (λ p. p.1) (elem_within-cases x y e)

pub elem_within-trans : (x y z : Elem) → elem_within x y ≡ true → elem_within y z ≡ true → elem_within x z ≡ true
elem_within-trans x y z e f =
    ⊎_elim
    (λ s. subst (λ w. elem_within x w ≡ true) s e)
    (λ p. subst (λ w. elem_within x w ≡ true) (sym p.0) (elem_within-any x (elem_within-index x y p.1 e)))
    (elem_within-cases y z f)

pub elem_within-star : (x y : Elem) → elem_within x y ≡ true → is_star y ≡ false → is_star x ≡ false
elem_within-star x y e s =
    ⊎_elim (λ k. ap is_star k ∙ s) (λ p. index-no_star x p.1) (elem_within-cases x y e)
  where
    index-no_star : (x : Elem) → is_index x ≡ true → is_star x ≡ false
    index-no_star Star h = absurd (false≢true h)
    index-no_star x h = refl

star-elem_within : (y : Elem) → elem_within Star y ≡ true → is_star y ≡ false → ⊥
star-elem_within y e s = false≢true (sym (elem_within-star Star y e s))

-- lists

pub Covers-refl : (a : List Elem) → Covers a a
Covers-refl [] = none
Covers-refl (x ∷ a) =
    ⊎_elim
    (λ s. subst (λ z. Covers (z ∷ a) (z ∷ a)) (sym (star_is x s)) (skip refl (stop (Covers-refl a))))
    (λ s. one (elem_within-refl x) s (Covers-refl a))
    (cases_Bool (is_star x))

pub Covers-trans : {c b a : List Elem} → Covers c b → Covers b a → Covers c a
Covers-trans none q = q
Covers-trans (one {y = y} {x = x} e s r) (one {x = w} f t q) = one (elem_within-trans w x y f e) s (Covers-trans r q)
Covers-trans (one {y = y} e s r) (stop q) = absurd (star-elem_within y e s)
Covers-trans (one {y = y} e s r) (skip l q) = absurd (star-elem_within y e s)
Covers-trans (stop r) q = stop (Covers-trans r q)
Covers-trans (skip {x = x} l r) (one {x = w} f t q) = skip (elem_within-local w x f ∙ l) (Covers-trans r q)
Covers-trans (skip l r) (stop q) = Covers-trans r q
Covers-trans (skip l r) (skip m q) = skip m (Covers-trans (skip l r) q)

pub Covers-append : {b a d c : List Elem} → Covers b a → Covers d c → Covers (b ++ d) (a ++ c)
Covers-append none q = q
Covers-append (one e s r) q = one e s (Covers-append r q)
Covers-append (stop r) q = stop (Covers-append r q)
Covers-append (skip l r) q = skip l (Covers-append r q)

-- heads

pub heads_within-same : (h : Head) (b : List Elem) → heads_within h h b ≡ true
heads_within-same Root b = refl
heads_within-same (Param p) b = eq-eqb p p refl

pub within-refl : (a : Rpl) → within a a ≡ true
unfolding within
within-refl a = and_from _ _ (heads_within-same a.head a.elems) (Covers-to (Covers-refl a.elems))

-- a path that lies in one that begins with `*` begins with `*`, where it is to lie in a third with another head
starts-within : (b a : List Elem) → begins_with_star a ≡ true → covers_elems b a ≡ true → begins_with_star b ≡ true
starts-within b [] h k = absurd (false≢true h)
starts-within [] (x ∷ a) h k = absurd (false≢true k)
starts-within (y ∷ b) (x ∷ a) h k =
    ⊎_elim
    (λ s. s)
    (λ s. let p = and_parts (elem_within x y) _ (sym (cond-false (is_star y) _ _ s) ∙ k) in
    absurd (false≢true (sym (elem_within-star x y p.0 s) ∙ h)))
    (cases_Bool (is_star y))

heads_within-trans : (h k m : Head) (b c : List Elem) → heads_within h k b ≡ true → heads_within k m c ≡ true → covers_elems c b ≡ true →
    heads_within h m c ≡ true
heads_within-trans Root Root m b c e f w = f
heads_within-trans Root (Param q) m b c e f w = absurd (false≢true e)
heads_within-trans (Param p) (Param q) Root b c e f w = f
heads_within-trans (Param p) (Param q) (Param r) b c e f w = eq-eqb p r (eqb-true p q e ∙ eqb-true q r f)
heads_within-trans (Param p) Root Root b c e f w = starts-within c b e w
heads_within-trans (Param p) Root (Param r) b c e f w = absurd (false≢true f)

pub within-trans : (a b c : Rpl) → within a b ≡ true → within b c ≡ true → within a c ≡ true
unfolding within
within-trans a b c e f =
    let p = and_parts (heads_within a.head b.head b.elems) _ e in
    let q = and_parts (heads_within b.head c.head c.elems) _ f in
    and_from _ _ (heads_within-trans a.head b.head c.head b.elems c.elems p.0 q.0 q.1)
    (Covers-to (Covers-trans (Covers-from c.elems b.elems q.1) (Covers-from b.elems a.elems p.1)))
