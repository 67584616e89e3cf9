-- Slots that are filled up, and local regions that aren't made.
use Rattle.std.proofs.Common.{arith, ◌≡◌, ℕ, zero, suc, List, [], ◌∷◌, ◌++◌, map, length, take, refl, ap}
use Rattle.lang_meaning.specs.Values.{Value, Null}
use Rattle.lang_meaning.specs.Counts.{padded}

pub pad_take : (n : ℕ) (vs : List (Value ℕ)) → padded n (take n vs) ≡ padded n vs
pad_take zero vs = refl
pad_take (suc n) [] = refl
pad_take (suc n) (v ∷ vs) = ap (λ l. v ∷ l) (pad_take n vs)

pub pad_null : (n : ℕ) (vs : List (Value ℕ)) → padded n (vs ++ Null ∷ []) ≡ padded n vs
pad_null zero vs = refl
pad_null (suc n) [] = refl
pad_null (suc n) (v ∷ vs) = ap (λ l. v ∷ l) (pad_null n vs)

pub pad_whole : (n : ℕ) (vs : List (Value ℕ)) → length vs ≡ n → padded n vs ≡ vs
pad_whole zero [] e = refl
pad_whole zero (v ∷ vs) e = absurd (omega arith)
pad_whole (suc n) [] e = absurd (omega arith)
pad_whole (suc n) (v ∷ vs) e = ap (λ l. v ∷ l) (pad_whole n vs (omega arith))

pub map_take : {A B : Type 0} (f : A → B) (n : ℕ) (xs : List A) → map f (take n xs) ≡ take n (map f xs)
map_take f zero xs = refl
map_take f (suc n) [] = refl
map_take f (suc n) (x ∷ xs) = ap (λ l. f x ∷ l) (map_take f n xs)
