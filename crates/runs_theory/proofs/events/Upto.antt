-- Lists up to a moment.
use Rattle.std.proofs.Common.{◌≡◌, ◌<◌, ◌≤◌, ◌⊎◌, inl, inr, List, [], ◌∷◌, ◌++◌, ap, length, refl, arith}
use Rattle.runs_theory.specs.Runs.{Upto, later, now}

pub upto_all : {A : Type 0} (xs : List A) → Upto [] xs
upto_all [] = now
upto_all (x ∷ xs) = later (upto_all xs)

pub upto_trans : {A : Type 0} {xs ys zs : List A} → Upto xs ys → Upto ys zs → Upto xs zs
upto_trans h now = h
upto_trans h (later k) = later (upto_trans h k)

pub upto_tail : {A : Type 0} {x : A} {xs ys : List A} → Upto (x ∷ xs) ys → Upto xs ys
upto_tail h = upto_trans (later now) h

pub upto_length : {A : Type 0} {xs ys : List A} → Upto xs ys → length xs ≤ length ys
upto_length {xs = xs} now = omega arith
upto_length (later h) = let l = upto_length h in omega arith

-- the same length, so the same
pub upto_same : {A : Type 0} {xs ys : List A} → Upto xs ys → length xs ≡ length ys → xs ≡ ys
upto_same now e = refl
upto_same (later h) e = let l = upto_length h in absurd (omega arith)

-- two up to a moment of one: the one is up to a moment of the other
pub upto_two : {A : Type 0} {xs ys zs : List A} → Upto xs zs → Upto ys zs → Upto xs ys ⊎ Upto ys xs
upto_two now k = inr k
upto_two (later h) now = inl (later h)
upto_two (later h) (later k) = upto_two h k

-- one more
pub upto_next : {A : Type 0} {xs ys : List A} → Upto xs ys → length xs < length ys → (y : A) × Upto (y ∷ xs) ys
upto_next now l = absurd (omega arith)
upto_next (later {y = y} now) l = (y, now)
upto_next (later {y = y} (later {y = z} h)) l =
    let k = upto_length h in
    let n = upto_next (later {y = z} h) (omega arith) in (n.0, later n.1)

-- which of two that stand in one list is the earlier one, or whether they are one
pub data Which {A : Type 0} (x : A) (xs : List A) (y : A) (ys : List A) : Type 0 where
  same_one : x ≡ y → xs ≡ ys → Which x xs y ys
  before : Upto (x ∷ xs) ys → Which x xs y ys
  after : Upto (y ∷ ys) xs → Which x xs y ys

pub which : {A : Type 0} {x y : A} {xs ys zs : List A} → Upto (x ∷ xs) zs → Upto (y ∷ ys) zs → Which x xs y ys
which now now = same_one refl refl
which now (later k) = after k
which (later h) now = before h
which (later h) (later k) = which h k

-- the first of a list, or in the rest
pub upto_split : {A : Type 0} {x y : A} {xs ys : List A} → Upto (x ∷ xs) (y ∷ ys) → ((x ≡ y) × (xs ≡ ys)) ⊎ Upto (x ∷ xs) ys
upto_split now = inl (refl, refl)
upto_split (later h) = inr h

pub upto_none : {A : Type 0} {x : A} {xs : List A} → Upto (x ∷ xs) [] → ⊥
upto_none h = let l = upto_length h in absurd (omega arith)

-- a strict part of x ∷ ys is a part of ys
pub upto_under : {A : Type 0} {y : A} {xs ys : List A} → Upto xs (y ∷ ys) → length xs ≤ length ys → Upto xs ys
upto_under now l = absurd (omega arith)
upto_under (later h) l = h

-- what has come since
pub upto_rest : {A : Type 0} {xs ys : List A} → Upto xs ys → (zs : List A) × (ys ≡ zs ++ xs)
upto_rest now = ([], refl)
upto_rest (later {y = y} h) = let r = upto_rest h in (y ∷ r.0, ap (λ l. y ∷ l) r.1)

-- not all, so in the rest
pub upto_less : {A : Type 0} {y : A} {xs ys : List A} → Upto xs (y ∷ ys) → (xs ≡ y ∷ ys → ⊥) → Upto xs ys
upto_less now n = absurd (n refl)
upto_less (later h) n = h

pub upto_since : {A : Type 0} (since : List A) (x : A) (xs : List A) → Upto (x ∷ xs) (since ++ x ∷ xs)
upto_since [] x xs = now
upto_since (y ∷ since) x xs = later (upto_since since x xs)
