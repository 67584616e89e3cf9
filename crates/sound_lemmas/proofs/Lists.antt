-- Elements of lists by their places, and where an optional value comes from.
use Rattle.std.proofs.Common.{◌≡◌, ◌∙◌, ℕ, zero, suc, ◌+◌, ◌<◌, List, [], ◌∷◌, ◌++◌, length, map, Option, Some, None, option_map, option_and_then, Result, Ok, refl, ap, sym, subst, arith}
use Rattle.std.proofs.lemmas.Option.{slice_get-map, slice_get_within, slice_get-get_or}
use Rattle.std.proofs.lemmas.List.FromFn.{get_or-range_with_len, length-range_with_len}
use Rattle.std.specs.List.{range_with_len}
use Rattle.std.specs.Prelude.{slice_get}

pub some_same : {A : Type 0} {x y : A} → Some x ≡ Some y → x ≡ y
some_same e = cc

pub ok_same : {A E : Type 0} {x y : A} → (let r : Result A E = Ok x in r) ≡ Ok y → x ≡ y
ok_same e = cc

pub and_then_there : {A B : Type 0} (f : A → Option B) (o : Option A) (y : B) → option_and_then f o ≡ Some y → (x : A) × (o ≡ Some x) × (f x ≡ Some y)
and_then_there f None y e = cc
and_then_there f (Some x) y e = (x, refl, e)

pub map_there : {A B : Type 0} (f : A → B) (o : Option A) (y : B) → option_map f o ≡ Some y → (x : A) × (o ≡ Some x) × (f x ≡ y)
map_there f None y e = cc
map_there f (Some x) y e = (x, refl, some_same e)

-- an element of the first of two lists, and of the second
pub got_first : {A : Type 0} (xs ys : List A) (i : ℕ) (x : A) → slice_get xs i ≡ Some x → slice_get (xs ++ ys) i ≡ Some x
got_first [] ys i x e = cc
got_first (y ∷ xs) ys zero x e = e
got_first (y ∷ xs) ys (suc i) x e = got_first xs ys i x e

pub got_later : {A : Type 0} (xs ys : List A) (i j : ℕ) (x : A) → i ≡ length xs + j → slice_get ys j ≡ Some x → slice_get (xs ++ ys) i ≡ Some x
got_later [] ys i j x is e = let same : j ≡ i = omega (arith, is) in subst (λ k. slice_get ys k ≡ Some x) same e
got_later (y ∷ xs) ys zero j x is e = absurd (omega (arith, is))
got_later (y ∷ xs) ys (suc i) j x is e = got_later xs ys i j x (omega (arith, is)) e

-- an element of a list with one more after
pub got_last : {A : Type 0} (xs : List A) (y : A) (i : ℕ) (x : A) → (P : A → Type 0) → ((j : ℕ) (z : A) → slice_get xs j ≡ Some z → P z) → P y → slice_get (xs ++ y ∷ []) i ≡ Some x → P x
got_last [] y zero x P all p e = subst P (some_same e) p
got_last [] y (suc i) x P all p e = cc
got_last (z ∷ xs) y zero x P all p e = all zero x e
got_last (z ∷ xs) y (suc i) x P all p e = got_last xs y i x P (λ j w h. all (suc j) w h) p e

pub got_mapped : {A B : Type 0} (f : A → B) (xs : List A) (i : ℕ) (x : A) → slice_get xs i ≡ Some x → slice_get (map f xs) i ≡ Some (f x)
got_mapped f xs i x e = slice_get-map f xs i ∙ ap (option_map f) e

pub there : {A : Type 0} (xs : List A) (i : ℕ) → i < length xs → (x : A) × (slice_get xs i ≡ Some x)
there [] i l = absurd (omega (arith, l))
there (x ∷ xs) zero l = (x, refl)
there (x ∷ xs) (suc i) l = there xs i (omega (arith, l))

range_there : (n i : ℕ) → i < n → slice_get (range_with_len 0 n) i ≡ Some i
range_there n i l =
    let long : i < length (range_with_len 0 n) = subst (λ k. i < k) (sym (length-range_with_len 0 n)) l in
    let plain : 0 + i ≡ i = omega arith in
    slice_get-get_or (range_with_len 0 n) i 0 long ∙ ap Some (get_or-range_with_len 0 n i 0 l ∙ plain)

-- what is made for each number is there, and nothing else
pub made_there : {A : Type 0} (f : ℕ → A) (n i : ℕ) → i < n → slice_get (map f (range_with_len 0 n)) i ≡ Some (f i)
made_there f n i l = got_mapped f (range_with_len 0 n) i i (range_there n i l)

pub made_is : {A : Type 0} (f : ℕ → A) (n i : ℕ) (x : A) → slice_get (map f (range_with_len 0 n)) i ≡ Some x → (i < n) × (f i ≡ x)
made_is f n i x e =
    let w = map_there f (slice_get (range_with_len 0 n) i) x (sym (slice_get-map f (range_with_len 0 n) i) ∙ e) in
    let l = slice_get_within (range_with_len 0 n) i w.0 w.1 in
    let within : i < n = subst (λ k. i < k) (length-range_with_len 0 n) l in
    (within, some_same (sym (made_there f n i within) ∙ e))
