-- What is left of a list without its first items, and what is taken off a stack.
use Rattle.std.proofs.Common.{arith, ◌≡◌, ℕ, zero, suc, ◌+◌, ◌-◌, ◌<◌, ◌≤◌, List, [], ◌∷◌, ◌++◌, map, length, reverse, take, drop, refl, sym, ap, ◌∙◌, Some}
use Rattle.std.specs.Prelude.{slice_get}
use Rattle.std.proofs.lemmas.List.{map-append}
use Rattle.exec_frames.proofs.Lists.{reverse-cons}
use Rattle.exec_frames.proofs.Padding.{map_take}

drop_taken : {A : Type 0} (m : ℕ) (xs : List A) → drop m (take m xs) ≡ []
drop_taken zero xs = refl
drop_taken (suc m) [] = refl
drop_taken (suc m) (x ∷ xs) = drop_taken m xs

-- one more of the last items of a front
one_down : {A : Type 0} (k m : ℕ) (xs : List A) (v : A) → k < m → slice_get xs k ≡ Some v → drop k (take m xs) ≡ v ∷ drop (suc k) (take m xs)
one_down k zero xs v h e = absurd (omega arith)
one_down k (suc m) [] v h e = absurd (cc)
one_down zero (suc m) (x ∷ xs) v h e = let f : x ≡ v = cc in ap (λ y. y ∷ take m xs) f
one_down (suc k) (suc m) (x ∷ xs) v h e = one_down k m xs v (omega arith) e

pub none_yet : {A B : Type 0} (f : A → B) (m : ℕ) (xs : List A) → map f (reverse (drop (m - 0) (take m xs))) ≡ []
none_yet f m xs = let e : m - 0 ≡ m = omega arith in ap (λ k. map f (reverse (drop k (take m xs)))) e ∙ ap (λ l. map f (reverse l)) (drop_taken m xs)

pub one_more : {A B : Type 0} (f : A → B) (at m : ℕ) (xs : List A) (v : A) → at < m → slice_get xs (m - 1 - at) ≡ Some v
    → map f (reverse (drop (m - (at + 1)) (take m xs))) ≡ map f (reverse (drop (m - at) (take m xs))) ++ f v ∷ []
one_more f at m xs v h e =
    let i : m - (at + 1) ≡ m - 1 - at = omega arith in
    let j : suc (m - 1 - at) ≡ m - at = omega arith in
    ap (λ k. map f (reverse (drop k (take m xs)))) i
    ∙ ap (λ l. map f (reverse l)) (one_down (m - 1 - at) m xs v (omega arith) e ∙ ap (λ k. v ∷ drop k (take m xs)) j)
    ∙ ap (map f) (reverse-cons v (drop (m - at) (take m xs))) ∙ map-append f (reverse (drop (m - at) (take m xs))) (v ∷ [])

map_reverse : {A B : Type 0} (f : A → B) (xs : List A) → map f (reverse xs) ≡ reverse (map f xs)
map_reverse f [] = refl
map_reverse f (x ∷ xs) =
    ap (map f) (reverse-cons x xs) ∙ map-append f (reverse xs) (x ∷ []) ∙ ap (λ l. l ++ f x ∷ []) (map_reverse f xs) ∙ sym (reverse-cons (f x) (map f xs))

take_within : {A : Type 0} (k n : ℕ) (xs : List A) → k ≤ n → (k < n → length xs ≤ k) → take k xs ≡ take n xs
take_within zero zero xs h f = refl
take_within zero (suc n) [] h f = refl
take_within zero (suc n) (x ∷ xs) h f = absurd (omega (arith, f (omega arith)))
take_within (suc k) zero xs h f = absurd (omega arith)
take_within (suc k) (suc n) [] h f = refl
take_within (suc k) (suc n) (x ∷ xs) h f = ap (λ l. x ∷ l) (take_within k n xs (omega arith) (λ l. omega (arith, f (omega arith))))

pub all_down : {A B : Type 0} (f : A → B) (k m n at : ℕ) (xs : List A) → k ≤ n → (k < n → length xs ≤ k) → m ≡ k → at ≡ k
    → map f (reverse (drop (m - at) (take m xs))) ≡ reverse (take n (map f xs))
all_down f k m n at xs h g e i =
    let z : m - at ≡ 0 = omega arith in
    ap (λ j. map f (reverse (drop j (take m xs)))) z ∙ ap (λ j. map f (reverse (take j xs))) e ∙ ap (λ l. map f (reverse l)) (take_within k n xs h g)
    ∙ map_reverse f (take n xs) ∙ ap reverse (map_take f n xs)

pub map_drop : {A B : Type 0} (f : A → B) (n : ℕ) (xs : List A) → map f (drop n xs) ≡ drop n (map f xs)
map_drop f zero xs = refl
map_drop f (suc n) [] = refl
map_drop f (suc n) (x ∷ xs) = map_drop f n xs

pub drop_all : {A : Type 0} (n : ℕ) (xs : List A) → length xs ≤ n → drop n xs ≡ []
drop_all zero [] h = refl
drop_all zero (x ∷ xs) h = absurd (omega arith)
drop_all (suc n) [] h = refl
drop_all (suc n) (x ∷ xs) h = drop_all n xs (omega arith)
