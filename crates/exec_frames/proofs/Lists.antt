-- Lists turned round, and lists with a function put over them.
use Rattle.std.proofs.Common.{◌≡◌, ℕ, zero, suc, ◌+◌, ◌-◌, ◌<◌, ◌≤◌, List, [], ◌∷◌, ◌++◌, map, length, reverse, take, drop, get_or, refl, sym, ap, ◌∙◌, arith, Some, None}
use Rattle.std.specs.Prelude.{slice_get}
use Rattle.std.proofs.Math.ListN.{set}
use Rattle.std.proofs.Math.Seq.{set-append_seam}
use Rattle.std.proofs.lemmas.List.{reverse-append, length-reverse, reverse-reverse, take-append-le, take_all, set-append_left}

pub reverse-cons : {A : Type 0} (y : A) (ys : List A) → reverse (y ∷ ys) ≡ reverse ys ++ y ∷ []
reverse-cons y ys = reverse-append (y ∷ []) ys

reverse-snoc : {A : Type 0} (y : A) (ys : List A) → reverse (ys ++ y ∷ []) ≡ y ∷ reverse ys
reverse-snoc y ys = reverse-append ys (y ∷ [])

-- what is taken off a list from its end
drop_of : {A : Type 0} (n m : ℕ) (ys : List A) → m ≡ length ys - n → reverse (take m (reverse ys)) ≡ drop n ys
drop_of zero m ys h = ap reverse (take_all m (reverse ys) (omega (arith, length-reverse ys))) ∙ reverse-reverse ys
drop_of (suc n) m [] h = let e : m ≡ 0 = omega arith in ap (λ k. reverse (take k [])) e
drop_of (suc n) m (y ∷ ys) h =
    let shorter : m ≤ length (reverse ys) = omega (arith, length-reverse ys) in
    ap (λ l. reverse (take m l)) (reverse-cons y ys) ∙ ap reverse (take-append-le m (reverse ys) (y ∷ []) shorter) ∙ drop_of n m ys (omega arith)

pub drop_reverse : {A : Type 0} (n m : ℕ) (xs : List A) → m ≡ length xs - n → reverse (take m xs) ≡ drop n (reverse xs)
drop_reverse n m xs h =
    ap (λ l. reverse (take m l)) (sym (reverse-reverse xs)) ∙ drop_of n m (reverse xs) (omega (arith, length-reverse xs))

set_of : {A : Type 0} (k m : ℕ) (v : A) (ys : List A) → m + suc k ≡ length ys → reverse (set (reverse ys) m v) ≡ set ys k v
set_of k m v [] h = absurd (omega arith)
set_of zero m v (y ∷ ys) h =
    let at : m ≡ length (reverse ys) = omega (arith, length-reverse ys) in
    ap (λ l. reverse (set l m v)) (reverse-cons y ys) ∙ ap (λ n. reverse (set (reverse ys ++ y ∷ []) n v)) at
    ∙ ap reverse (set-append_seam (reverse ys) y [] v) ∙ reverse-snoc v (reverse ys) ∙ ap (λ l. v ∷ l) (reverse-reverse ys)
set_of (suc k) m v (y ∷ ys) h =
    let within : m < length (reverse ys) = omega (arith, length-reverse ys) in
    ap (λ l. reverse (set l m v)) (reverse-cons y ys) ∙ ap reverse (set-append_left (reverse ys) (y ∷ []) m v within)
    ∙ reverse-snoc y (set (reverse ys) m v) ∙ ap (λ l. y ∷ l) (set_of k m v ys (omega arith))

pub set_reverse : {A : Type 0} (k m : ℕ) (v : A) (xs : List A) → m + suc k ≡ length xs → reverse (set xs m v) ≡ set (reverse xs) k v
set_reverse k m v xs h =
    ap (λ l. reverse (set l m v)) (sym (reverse-reverse xs)) ∙ set_of k m v (reverse xs) (omega (arith, length-reverse xs))

-- what is there of a list with a function put over it
pub none_there : {A B : Type 0} (f : A → B) (xs : List A) (k : ℕ) (d : B) → slice_get xs k ≡ None → get_or (map f xs) k d ≡ d
none_there f [] k d e = refl
none_there f (x ∷ xs) zero d e = absurd (cc)
none_there f (x ∷ xs) (suc k) d e = none_there f xs k d e

pub some_there : {A B : Type 0} (f : A → B) (xs : List A) (k : ℕ) (d : B) (x : A) → slice_get xs k ≡ Some x → get_or (map f xs) k d ≡ f x
some_there f [] k d x e = absurd (cc)
some_there f (y ∷ xs) zero d x e = let g : y ≡ x = cc in ap f g
some_there f (y ∷ xs) (suc k) d x e = some_there f xs k d x e

pub empty_of : {A : Type 0} (xs : List A) → slice_get xs 0 ≡ None → xs ≡ []
empty_of [] e = refl
empty_of (x ∷ xs) e = absurd (cc)

set_first : {A : Type 0} (v : A) (ys : List A) → 0 < length ys → set ys 0 v ≡ v ∷ drop 1 ys
set_first v [] h = absurd (omega arith)
set_first v (y ∷ ys) h = refl

pub set_last : {A : Type 0} (m : ℕ) (v : A) (xs ys : List A) → reverse xs ≡ ys → m + 1 ≡ length xs → reverse (set xs m v) ≡ v ∷ drop 1 ys
set_last m v xs ys e h =
    let k : m + suc 0 ≡ length xs = omega (arith, h) in
    set_reverse 0 m v xs k ∙ set_first v (reverse xs) (omega (arith, length-reverse xs)) ∙ ap (λ l. v ∷ drop 1 l) e

pub past_there : {A B : Type 0} (f : A → B) (xs : List A) (k : ℕ) (d : B) → length xs ≤ k → get_or (map f xs) k d ≡ d
past_there f [] k d h = refl
past_there f (x ∷ xs) zero d h = absurd (omega arith)
past_there f (x ∷ xs) (suc k) d h = past_there f xs k d (omega arith)

pub none_at : {A : Type 0} (xs : List A) (k : ℕ) (d : A) → slice_get xs k ≡ None → get_or xs k d ≡ d
none_at [] k d e = refl
none_at (x ∷ xs) zero d e = absurd (cc)
none_at (x ∷ xs) (suc k) d e = none_at xs k d e

pub some_at : {A : Type 0} (xs : List A) (k : ℕ) (d x : A) → slice_get xs k ≡ Some x → get_or xs k d ≡ x
some_at [] k d x e = absurd (cc)
some_at (y ∷ xs) zero d x e = cc
some_at (y ∷ xs) (suc k) d x e = some_at xs k d x e
