-- What options and lists hold.
use Rattle.std.proofs.Common.{◌≡◌, ℕ, zero, suc, List, [], ◌∷◌, Some, None, slice_get, slice_index_or}

pub some_is : {A : Type 0} {x y : A} → Some x ≡ Some y → x ≡ y
some_is e = cc

pub none_is : {A B : Type 0} {x : A} → None ≡ Some x → B
none_is e = absurd (cc)

pub index_is : {A : Type 0} (xs : List A) (k : ℕ) (d x : A) → slice_get xs k ≡ Some x → slice_index_or xs k d ≡ x
index_is [] k d x e = absurd (cc)
index_is (y ∷ ys) zero d x e = cc
index_is (y ∷ ys) (suc k) d x e = index_is ys k d x e
