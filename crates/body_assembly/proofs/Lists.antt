-- Lists, and what stands in them.
use Rattle.std.proofs.Common.{◌≡◌, ◌∙◌, ℕ, zero, suc, ◌+◌, ◌-◌, ◌<◌, List, [], ◌∷◌, ◌++◌, map, length, refl, sym, ap, ap₂, arith, append_assoc, Option, Some, unwrap_or, slice_get, slice_index_or, Result, Ok, Err, IfOk}
use Rattle.std.proofs.lemmas.List.{map-append}
use Rattle.std.proofs.lemmas.Option.{unwrap_or-slice_get}
use Rattle.std.proofs.lemmas.List.FromFn.{get_or-map-range_with_len}
use Rattle.std.specs.List.{range_with_len}

pub if_ok : {X E : Type 0} {P Q : X → Type 0} (r : Result X E) → ((x : X) → P x → Q x) → IfOk r P → IfOk r Q
if_ok (Ok x) f h = f x h
if_ok (Err e) f h = tt

-- what is found at a place, or nothing there
pub found_or : {A : Type 0} (xs : List A) (i : ℕ) (o : Option A) (d : A) → o ≡ slice_get xs i → slice_index_or xs i d ≡ unwrap_or o d
found_or xs i o d e = sym (unwrap_or-slice_get xs i d) ∙ ap (λ z. unwrap_or z d) (sym e)

-- what stands at a place of a range
pub each_at : {A : Type 0} (f : ℕ → A) (a n i j : ℕ) (d : A) → i < n → a + i ≡ j → slice_index_or (map f (range_with_len a n)) i d ≡ f j
each_at f a n i j d below is = get_or-map-range_with_len f a n i j d below is

first_of_range : (at end : ℕ) → at < end → range_with_len at (end - at) ≡ at ∷ range_with_len (at + 1) (end - (at + 1))
first_of_range at end below = let one : end - at ≡ suc (end - (at + 1)) = omega arith in ap (range_with_len at) one

-- one more of a range is made
pub one_made : {A B : Type 0} (view : A → B) (f : ℕ → B) (made more : List A) (x : A) (at end : ℕ) → at < end → more ≡ made ++ x ∷ [] → view x ≡ f at →
    map view more ++ map f (range_with_len (at + 1) (end - (at + 1))) ≡ map view made ++ map f (range_with_len at (end - at))
one_made view f made more x at end below pushed is =
    ap (λ xs. xs ++ map f (range_with_len (at + 1) (end - (at + 1)))) (ap (map view) pushed ∙ map-append view made (x ∷ []))
    ∙ append_assoc (map view made) (view x ∷ []) (map f (range_with_len (at + 1) (end - (at + 1))))
    ∙ ap (λ y. map view made ++ (y ∷ map f (range_with_len (at + 1) (end - (at + 1))))) is
    ∙ ap (λ xs. map view made ++ map f xs) (sym (first_of_range at end below))

pub nothing_left : {X : Type 0} (l : List X) → length l ≡ 0 → l ≡ []
nothing_left [] h = refl
nothing_left (x ∷ xs) h = absurd (omega arith)

pub same_head : {A : Type 0} (x y : A) (xs ys : List A) → x ∷ xs ≡ y ∷ ys → x ≡ y
same_head x y xs ys e = cc

pub same_tail : {A : Type 0} (x y : A) (xs ys : List A) → x ∷ xs ≡ y ∷ ys → xs ≡ ys
same_tail x y xs ys e = cc

-- what stands at a place of a list that is known entry by entry
pub found_in : {A B : Type 0} (view : A → B) (f : ℕ → B) (a n j : ℕ) (xs : List A) → map view xs ≡ map f (range_with_len a n) → j < n → (x : A) × (slice_get xs j ≡ Some x) × (view x ≡ f (a + j))
found_in view f a zero j xs e below = absurd (omega arith)
found_in view f a (suc n) j [] e below = absurd (let no : [] ≡ f a ∷ map f (range_with_len (a + 1) n) = e in cc)
found_in view f a (suc n) zero (x ∷ xs) e below =
    let here : a ≡ a + 0 = omega arith in
    (x, refl, same_head (view x) (f a) (map view xs) (map f (range_with_len (a + 1) n)) e ∙ ap f here)
found_in view f a (suc n) (suc j) (x ∷ xs) e below =
    let w = found_in view f (a + 1) n j xs (same_tail (view x) (f a) (map view xs) (map f (range_with_len (a + 1) n)) e) (omega arith) in
    let there : a + 1 + j ≡ a + suc j = omega arith in
    (w.0, w.1, w.2 ∙ ap f there)

-- another list of the same length, entry by entry
pub each_seen : {A B C : Type 0} (view : A → B) (f : ℕ → B) (seen : A → C) (g : ℕ → C) (a n : ℕ) (xs : List A) → map view xs ≡ map f (range_with_len a n) →
    ((x : A) (i : ℕ) → i < a + n → view x ≡ f i → seen x ≡ g i) → map seen xs ≡ map g (range_with_len a n)
each_seen view f seen g a zero [] e each = refl
each_seen view f seen g a zero (x ∷ xs) e each = absurd (let no : view x ∷ map view xs ≡ [] = e in cc)
each_seen view f seen g a (suc n) [] e each = absurd (let no : [] ≡ f a ∷ map f (range_with_len (a + 1) n) = e in cc)
each_seen view f seen g a (suc n) (x ∷ xs) e each =
    ap₂ (λ y ys. y ∷ ys) (each x a (omega arith) (same_head (view x) (f a) (map view xs) (map f (range_with_len (a + 1) n)) e))
    (each_seen view f seen g (a + 1) n xs (same_tail (view x) (f a) (map view xs) (map f (range_with_len (a + 1) n)) e) (λ y i l. each y i (omega (arith, l))))
