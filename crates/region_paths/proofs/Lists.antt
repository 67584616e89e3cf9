-- What lies in lists that are apart is apart.
use Rattle.std.proofs.Common.{◌≡◌, ◌≤◌, ◌<◌, ◌+◌, ℕ, Bool, true, false, not, ◌&&◌, ◌||◌, cond, eqb, List, [], ◌∷◌, ◌++◌, length, reverse, refl, sym, ap, ◌∙◌}
use Rattle.std.proofs.Common.{subst, ⊎_elim, arith}
use Rattle.std.proofs.lemmas.Bool.{and_parts, and_from, or_cases, or_left, or_right, false≢true, eqb-true, eq-eqb, ltb-true, lt-ltb}
use Rattle.std.proofs.lemmas.List.{append-nil, reverse-append}
use Rattle.std.proofs.lemmas.List.Sums.{sum_by-append, count_by-le-length}
use Rattle.lang_base.specs.declared.elems.Elem.{Elem}
use Rattle.lang_base.specs.declared.elems.Elem.TheVariants.{Name, At, Any, Star, Local}
use Rattle.lang_base.specs.Regions.{is_star, is_local, is_index, elem_within}
use Rattle.lang_base.specs.Apart.{distinct, apart_front, solid, shorter}
use Rattle.region_paths.proofs.Inclusion.{Covers, none, one, stop, skip, elem_within-cases, elem_within-star, Covers-append}

-- elements

index-apart_any : (x y : Elem) → is_index x ≡ true → distinct Any y ≡ true → distinct x y ≡ true
index-apart_any (At i) (Name n) h d = refl
index-apart_any (At i) (Local a b) h d = refl
index-apart_any (At i) y h d = absurd (false≢true d)
index-apart_any Any y h d = d
index-apart_any x y h d = absurd (false≢true h)

any_apart-index : (x y : Elem) → is_index y ≡ true → distinct x Any ≡ true → distinct x y ≡ true
any_apart-index (Name n) (At i) h d = refl
any_apart-index (Name n) Any h d = refl
any_apart-index (Name n) y h d = absurd (false≢true h)
any_apart-index (Local a b) (At i) h d = refl
any_apart-index (Local a b) Any h d = refl
any_apart-index (Local a b) y h d = absurd (false≢true h)
any_apart-index x y h d = absurd (false≢true d)

distinct-left : (x y z : Elem) → elem_within x y ≡ true → distinct y z ≡ true → distinct x z ≡ true
distinct-left x y z e d =
    ⊎_elim
    (λ s. subst (λ w. distinct w z ≡ true) (sym s) d)
    (λ p. index-apart_any x z p.1 (subst (λ w. distinct w z ≡ true) p.0 d))
    (elem_within-cases x y e)

distinct-right : (x y z : Elem) → elem_within x y ≡ true → distinct z y ≡ true → distinct z x ≡ true
distinct-right x y z e d =
    ⊎_elim
    (λ s. subst (λ w. distinct z w ≡ true) (sym s) d)
    (λ p. any_apart-index z x p.1 (subst (λ w. distinct z w ≡ true) p.0 d))
    (elem_within-cases x y e)

pub distinct-within : (x y z w : Elem) → elem_within x y ≡ true → elem_within z w ≡ true → distinct y w ≡ true → distinct x z ≡ true
distinct-within x y z w e f d = distinct-right z w x f (distinct-left x y w e d)

-- the walk from the left

star_front : (a b : List Elem) → apart_front (Star ∷ a) b ≡ false
star_front a [] = refl
star_front a (y ∷ b) = refl

front_star : (x : Elem) (a b : List Elem) → is_star x ≡ false → apart_front (x ∷ a) (Star ∷ b) ≡ false
front_star x a b s = ap (λ t. not (t || true) && (distinct x Star || apart_front a b)) s

pub front-step : (x y : Elem) (a b : List Elem) → is_star x ≡ false → is_star y ≡ false → apart_front (x ∷ a) (y ∷ b) ≡ (distinct x y || apart_front a b)
front-step x y a b s t =
    ap (λ z. not (z || is_star y) && (distinct x y || apart_front a b)) s ∙ ap (λ z. not z && (distinct x y || apart_front a b)) t

pub front-within : {b a d c : List Elem} → Covers b a → Covers d c → apart_front b d ≡ true → apart_front a c ≡ true
front-within none q h = absurd (false≢true h)
front-within (one e s r) none h = absurd (false≢true h)
front-within (one {y = y} {x = x} {b = b} {a = a} e s r) (one {y = w} {x = z} {b = d} {a = c} f t q) h =
    front-step x z a c (elem_within-star x y e s) (elem_within-star z w f t)
    ∙ ⊎_elim
    (λ k. or_left _ _ (distinct-within x y z w e f k))
    (λ k. or_right (distinct x z) _ (front-within r q k))
    (or_cases (distinct y w) _ (sym (front-step y w b d s t) ∙ h))
front-within (one {y = y} {b = b} e s r) (stop {b = d} q) h = absurd (false≢true (sym (front_star y b d s) ∙ h))
front-within (one {y = y} {b = b} e s r) (skip {b = d} l q) h = absurd (false≢true (sym (front_star y b d s) ∙ h))
front-within {d = d} (stop {b = b} r) q h = absurd (false≢true (sym (star_front b d) ∙ h))
front-within {d = d} (skip {b = b} l r) q h = absurd (false≢true (sym (star_front b d) ∙ h))

-- lists turned round

pub rev-cons : (x : Elem) (a : List Elem) → reverse (x ∷ a) ≡ reverse a ++ x ∷ []
rev-cons x a = reverse-append (x ∷ []) a

abbrev ends_star : List Elem → Bool
ends_star [] = false
ends_star (x ∷ []) = is_star x
ends_star (x ∷ y ∷ a) = ends_star (y ∷ a)

ends_star-push : (a : List Elem) → ends_star (a ++ Star ∷ []) ≡ true
ends_star-push [] = refl
ends_star-push (x ∷ []) = refl
ends_star-push (x ∷ y ∷ a) = ends_star-push (y ∷ a)

ends_star-tail : (y : Elem) (b : List Elem) → is_star y ≡ false → ends_star (y ∷ b) ≡ true → ends_star b ≡ true
ends_star-tail y [] s h = absurd (false≢true (sym s ∙ h))
ends_star-tail y (x ∷ b) s h = h

-- a list that ends with `*` covers one element more, if it is no local region
Covers-push : {b a : List Elem} → Covers b a → (x : Elem) → ends_star b ≡ true → is_local x ≡ false → Covers b (a ++ x ∷ [])
Covers-push none x h l = absurd (false≢true h)
Covers-push (one {y = y} {b = b} e s r) x h l = one e s (Covers-push r x (ends_star-tail y b s h) l)
Covers-push (stop {b = []} none) x h l = skip l (stop none)
Covers-push (stop {b = y ∷ b} r) x h l = stop (Covers-push r x h l)
Covers-push (skip m r) x h l = skip m (Covers-push r x h l)

pub Covers-reverse : {b a : List Elem} → Covers b a → Covers (reverse b) (reverse a)
Covers-reverse none = none
Covers-reverse (one {y = y} {x = x} {b = b} {a = a} e s r) =
    let k = Covers-append (Covers-reverse r) (one e s none) in
    subst (λ z. Covers z (reverse (x ∷ a))) (sym (rev-cons y b)) (subst (λ z. Covers (reverse b ++ y ∷ []) z) (sym (rev-cons x a)) k)
Covers-reverse (stop {b = b} {a = a} r) =
    let k = Covers-append (Covers-reverse r) (stop none) in
    subst (λ z. Covers z (reverse a)) (sym (rev-cons Star b)) (subst (λ z. Covers (reverse b ++ Star ∷ []) z) (append-nil (reverse a)) k)
Covers-reverse (skip {x = x} {b = b} {a = a} l r) =
    let k = Covers-push (Covers-reverse r) x (ap ends_star (rev-cons Star b) ∙ ends_star-push (reverse b)) l in
    subst (λ z. Covers (reverse (Star ∷ b)) z) (sym (rev-cons x a)) k

-- counting

pub solid-cons : (x : Elem) (a : List Elem) → solid (x ∷ a) ≡ cond (not (is_star x)) 1 0 + solid a
solid-cons x a =
    sum_by-append (λ y. cond (not (is_star y)) 1 0) (x ∷ []) a
    ∙ ap (λ z. z + solid a) (let e : 0 + cond {A = ℕ} (not (is_star x)) 1 0 ≡ cond (not (is_star x)) 1 0 = omega arith in e)

pub solid-one : (x : Elem) (a : List Elem) → is_star x ≡ false → solid (x ∷ a) ≡ 1 + solid a
solid-one x a s = solid-cons x a ∙ ap (λ z. cond (not z) 1 0 + solid a) s

pub solid-star : (a : List Elem) → solid (Star ∷ a) ≡ solid a
solid-star a = solid-cons Star a ∙ (let e : 0 + solid a ≡ solid a = omega arith in e)

pub solid-le : (x : Elem) (a : List Elem) → solid a ≤ solid (x ∷ a)
solid-le x a = let e = solid-cons x a in omega (arith, e)

pub solid-length : (a : List Elem) → solid a ≤ length a
solid-length a = count_by-le-length (λ x. not (is_star x)) a

-- no more elements that aren't `*` in a list than in what lies in it
pub Covers-solid : {b a : List Elem} → Covers b a → solid b ≤ solid a
Covers-solid none = omega arith
Covers-solid (one {y = y} {x = x} {b = b} {a = a} e s r) =
    let k = Covers-solid r in
    let m = solid-one y b s in
    let n = solid-one x a (elem_within-star x y e s) in
    omega arith
Covers-solid (stop {b = b} {a = a} r) = let k = Covers-solid r in let m = solid-star b in omega arith
Covers-solid (skip {x = x} {b = b} {a = a} l r) = let k = Covers-solid r in let m = solid-le x a in omega arith

-- what lies in a list without `*` is as long, and has none
pub Covers-length : {b a : List Elem} → Covers b a → solid b ≡ length b → (solid a ≡ length a) × (length a ≡ length b)
Covers-length none h = (refl, refl)
Covers-length (one {y = y} {x = x} {b = b} {a = a} e s r) h =
    let m = solid-one y b s in
    let n = solid-one x a (elem_within-star x y e s) in
    let k = Covers-length r (omega arith) in
    let k0 = k.0 in
    let k1 = k.1 in
    (omega arith, omega arith)
Covers-length (stop {b = b} {a = a} r) h = absurd (let m = solid-star b in let n = solid-length b in omega arith)
Covers-length (skip {b = b} l r) h = absurd (let m = solid-star b in let n = solid-length b in omega arith)

pub shorter-parts : (a b : List Elem) → shorter a b ≡ true → (solid a ≡ length a) × (length a < solid b)
shorter-parts a b h =
    let p = and_parts (eqb (solid a) (length a)) _ h in
    (eqb-true (solid a) (length a) p.0, ltb-true (length a) (solid b) p.1)

pub shorter-from : (a b : List Elem) → solid a ≡ length a → length a < solid b → shorter a b ≡ true
shorter-from a b e l = and_from _ _ (eq-eqb (solid a) (length a) e) (lt-ltb (length a) (solid b) l)

pub shorter-within : {b a d c : List Elem} → Covers b a → Covers d c → shorter b d ≡ true → shorter a c ≡ true
shorter-within {b = b} {a = a} {d = d} {c = c} r q h =
    let p = shorter-parts b d h in
    let k = Covers-length r p.0 in
    let m = Covers-solid q in
    let p1 = p.1 in
    let k1 = k.1 in
    shorter-from a c k.0 (omega arith)
