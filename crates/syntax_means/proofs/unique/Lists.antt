-- Lists that are the same, element by element, and what a relation with one value for each element makes of a list.
use Rattle.std.proofs.Common.{◌≡◌, ℕ, zero, suc, ◌<◌, List, [], ◌∷◌, ◌++◌, length, Option, Some, None, option_and_then, refl, arith}
use Rattle.std.specs.List.{AllZip}
use Rattle.std.specs.Prelude.{slice_get}

pub some_same : {A : Type 0} {x y : A} → Some x ≡ Some y → x ≡ y
some_same e = cc

-- of one option
pub both_some : {A : Type 0} {o : Option A} {x y : A} → o ≡ Some x → o ≡ Some y → x ≡ y
both_some e d = cc

pub and_then_there : {A B : Type 0} (f : A → Option B) (o : Option A) (y : B) → option_and_then f o ≡ Some y → (x : A) × (o ≡ Some x) × (f x ≡ Some y)
and_then_there f None y e = cc
and_then_there f (Some x) y e = (x, refl, e)

pub there : {A : Type 0} (xs : List A) (i : ℕ) → i < length xs → (x : A) × (slice_get xs i ≡ Some x)
there [] i l = absurd (omega (arith, l))
there (x ∷ xs) zero l = (x, refl)
there (x ∷ xs) (suc i) l = there xs i (omega (arith, l))

pub zip_one : {A B : Type 0} (R S : A → B → Type 0) → ((x : A) (y z : B) → R x y → S x z → y ≡ z) → (xs : List A) (ys zs : List B) → AllZip R xs ys → AllZip S xs zs → ys ≡ zs
zip_one R S one [] [] [] r s = refl
zip_one R S one [] [] (z ∷ zs) r s = absurd s
zip_one R S one [] (y ∷ ys) zs r s = absurd r
zip_one R S one (x ∷ xs) [] zs r s = absurd r
zip_one R S one (x ∷ xs) (y ∷ ys) [] r s = absurd s
zip_one R S one (x ∷ xs) (y ∷ ys) (z ∷ zs) r s =
    let here = one x y z r.0 s.0 in
    let more = zip_one R S one xs ys zs r.1 s.1 in
    cc

-- lists of one length with the same elements
pub same_elements : {A : Type 0} (xs ys : List A) → length xs ≡ length ys → ((i : ℕ) (x y : A) → slice_get xs i ≡ Some x → slice_get ys i ≡ Some y → x ≡ y) → xs ≡ ys
same_elements [] [] long each = refl
same_elements [] (y ∷ ys) long each = absurd (omega (arith, long))
same_elements (x ∷ xs) [] long each = absurd (omega (arith, long))
same_elements (x ∷ xs) (y ∷ ys) long each =
    let here = each 0 x y refl refl in
    let more = same_elements xs ys (omega (arith, long)) (λ i. each (suc i)) in
    cc

-- where two lists are one, so are their first parts of one length
pub same_first : {A : Type 0} (xs us ys vs : List A) → length xs ≡ length us → xs ++ ys ≡ us ++ vs → xs ≡ us
same_first [] [] ys vs long e = refl
same_first [] (u ∷ us) ys vs long e = absurd (omega (arith, long))
same_first (x ∷ xs) [] ys vs long e = absurd (omega (arith, long))
same_first (x ∷ xs) (u ∷ us) ys vs long e =
    let here : x ≡ u = cc in
    let rest : xs ++ ys ≡ us ++ vs = cc in
    let more = same_first xs us ys vs (omega (arith, long)) rest in
    cc
