-- Elements of paths that stand for themselves alone.
use Rattle.std.proofs.Common.{◌≡◌, true, false, not, List, ◌∷◌, ap, ◌∙◌, inl, inr, ◌⊎◌, ⊎_elim, refl}
use Rattle.std.proofs.lemmas.Bool.{or_left, false≢true, cases_Bool}
use Rattle.lang_base.specs.declared.elems.Elem.{Elem}
use Rattle.lang_base.specs.declared.elems.Elem.TheVariants.{Name, At, Any, Star, Local}
use Rattle.lang_base.specs.declared.elems.Index.TheVariants.{Literal, Variable, Renamed, Own}
use Rattle.lang_base.specs.Regions.{is_star, same_elem}
use Rattle.lang_base.specs.Apart.{distinct, apart_front}
use Rattle.lang_base.specs.Matching.{is_concrete}
use Rattle.region_paths.proofs.Same.{same_elem-is}
use Rattle.region_paths.proofs.Lists.{front-step}

pub concrete-no_star : (x : Elem) → is_concrete x ≡ true → is_star x ≡ false
concrete-no_star Star h = absurd (false≢true h)
concrete-no_star x h = refl

-- two elements that stand for themselves alone are the same or distinct
pub same_or_distinct : (x y : Elem) → is_concrete x ≡ true → is_concrete y ≡ true → (x ≡ y) ⊎ (distinct x y ≡ true)
same_or_distinct (At (Variable v)) y h k = absurd (false≢true h)
same_or_distinct (At (Renamed v)) y h k = absurd (false≢true h)
same_or_distinct (At (Own d)) y h k = absurd (false≢true h)
same_or_distinct Any y h k = absurd (false≢true h)
same_or_distinct Star y h k = absurd (false≢true h)
same_or_distinct (Name m) (Name n) h k =
    ⊎_elim (λ t. inl (same_elem-is (Name m) (Name n) t)) (λ f. inr (ap not f)) (cases_Bool (same_elem (Name m) (Name n)))
same_or_distinct (At (Literal m)) (At (Literal n)) h k =
    let x = At (Literal m) in
    let y = At (Literal n) in
    ⊎_elim (λ t. inl (same_elem-is x y t)) (λ f. inr (ap not f)) (cases_Bool (same_elem x y))
same_or_distinct (Local a b) (Local c d) h k =
    ⊎_elim (λ t. inl (same_elem-is (Local a b) (Local c d) t)) (λ f. inr (ap not f)) (cases_Bool (same_elem (Local a b) (Local c d)))
same_or_distinct x (At (Variable v)) h k = absurd (false≢true k)
same_or_distinct x (At (Renamed v)) h k = absurd (false≢true k)
same_or_distinct x (At (Own d)) h k = absurd (false≢true k)
same_or_distinct x Any h k = absurd (false≢true k)
same_or_distinct x Star h k = absurd (false≢true k)
same_or_distinct x y h k = inr refl

pub distinct-front : (x y : Elem) (a b : List Elem) → is_concrete x ≡ true → is_concrete y ≡ true → distinct x y ≡ true → apart_front (x ∷ a) (y ∷ b) ≡ true
distinct-front x y a b h k d = front-step x y a b (concrete-no_star x h) (concrete-no_star y k) ∙ or_left _ _ d
