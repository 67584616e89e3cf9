-- The walk along two lists, by the position that it has come to.
use Rattle.std.proofs.Common.{◌≡◌, ℕ, suc, zero, ◌+◌, ◌-◌, ◌<◌, ◌≤◌, Bool, true, false, not, ◌&&◌, ◌||◌, List, [], ◌∷◌, length, reverse, drop, get_or, min}
use Rattle.std.proofs.Common.{refl, sym, ap, ◌∙◌, arith}
use Rattle.std.proofs.lemmas.List.{get_or-reverse, length-reverse, drop_more}
use Rattle.std.proofs.lemmas.Bool.{or_right}
use Rattle.lang_base.specs.declared.elems.Elem.{Elem}
use Rattle.lang_base.specs.Regions.{is_star}
use Rattle.lang_base.specs.Apart.{distinct, apart_front}

-- what the walk answers at two elements before others
abbrev pub at_pair : Elem → Elem → Bool → Bool
at_pair x y rest = not (is_star x || is_star y) && (distinct x y || rest)

apart_front-nil : (a : List Elem) → apart_front a [] ≡ false
apart_front-nil [] = refl
apart_front-nil (x ∷ a) = refl

pub apart_front-at : (a b : List Elem) (i : ℕ) (d : Elem) → i < length a → i < length b →
    apart_front (drop i a) (drop i b) ≡ at_pair (get_or a i d) (get_or b i d) (apart_front (drop (i + 1) a) (drop (i + 1) b))
apart_front-at a b i d p q =
    let e = drop_more a i d p in
    let f = drop_more b i d q in
    rw (e, f)

pub apart_front-end : (a b : List Elem) (i : ℕ) → min (length a) (length b) ≤ i → false ≡ apart_front (drop i a) (drop i b)
apart_front-end [] b zero h = refl
apart_front-end [] b (suc i) h = refl
apart_front-end (x ∷ a) [] zero h = refl
apart_front-end (x ∷ a) [] (suc i) h = sym (apart_front-nil (drop i a))
apart_front-end (x ∷ a) (y ∷ b) zero h = absurd (omega arith)
apart_front-end (x ∷ a) (y ∷ b) (suc i) h = apart_front-end a b i (omega arith)

-- the same walk from the last elements back
pub apart_back-at : (a b : List Elem) (i : ℕ) (d : Elem) → i < length a → i < length b →
    apart_front (drop i (reverse a)) (drop i (reverse b)) ≡ at_pair (get_or a (length a - 1 - i) d) (get_or b (length b - 1 - i) d) (apart_front (drop (i + 1) (reverse a)) (drop (i + 1) (reverse b)))
apart_back-at a b i d p q =
    apart_front-at (reverse a) (reverse b) i d (omega (arith, length-reverse a)) (omega (arith, length-reverse b))
    ∙ ap (λ x. at_pair x (get_or (reverse b) i d) (apart_front (drop (i + 1) (reverse a)) (drop (i + 1) (reverse b)))) (get_or-reverse a i d p)
    ∙ ap (λ y. at_pair (get_or a (length a - 1 - i) d) y (apart_front (drop (i + 1) (reverse a)) (drop (i + 1) (reverse b)))) (get_or-reverse b i d q)

pub apart_back-end : (a b : List Elem) (i : ℕ) → min (length a) (length b) ≤ i → false ≡ apart_front (drop i (reverse a)) (drop i (reverse b))
apart_back-end a b i h = apart_front-end (reverse a) (reverse b) i (omega (arith, length-reverse a, length-reverse b))

-- what the walk answers, from what is known of the pair
pub pair-star_left : {f : Bool} (x y : Elem) (rest : Bool) → f ≡ at_pair x y rest → true ≡ is_star x → false ≡ f
pair-star_left x y rest e h = sym (e ∙ ap (λ s. not (s || is_star y) && (distinct x y || rest)) (sym h))

pub pair-star_right : {f : Bool} (x y : Elem) (rest : Bool) → f ≡ at_pair x y rest → true ≡ is_star y → false ≡ f
pair-star_right x y rest e h = sym (e ∙ ap (λ s. not s && (distinct x y || rest)) (or_right (is_star x) (is_star y) (sym h)))

pub pair-distinct : {f : Bool} (x y : Elem) (rest : Bool) → f ≡ at_pair x y rest → false ≡ is_star x → false ≡ is_star y → true ≡ distinct x y → true ≡ f
pair-distinct x y rest e h k d =
    sym (e ∙ ap (λ s. not (s || is_star y) && (distinct x y || rest)) (sym h) ∙ ap (λ s. not s && (distinct x y || rest)) (sym k) ∙ ap (λ s. s || rest) (sym d))

pub pair-on : {f : Bool} (x y : Elem) (rest : Bool) → f ≡ at_pair x y rest → false ≡ is_star x → false ≡ is_star y → false ≡ distinct x y → rest ≡ f
pair-on x y rest e h k d =
    sym (e ∙ ap (λ s. not (s || is_star y) && (distinct x y || rest)) (sym h) ∙ ap (λ s. not s && (distinct x y || rest)) (sym k) ∙ ap (λ s. s || rest) (sym d))
