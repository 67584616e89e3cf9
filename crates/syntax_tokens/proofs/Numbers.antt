-- Numbers grow with their digits.
use Rattle.std.proofs.Common.{ℕ, suc, ◌+◌, ◌-◌, ◌*◌, ◌<◌, ◌≤◌, List, [], ◌∷◌, length, get_or, drop, drop-cons, arith}
use Rattle.std.specs.List.{fold}

fold-grows : (v : ℕ) (ds : List ℕ) → v ≤ fold (λ n b. 10 * n + (b - 48)) v ds
fold-grows v [] = omega arith
fold-grows v (d ∷ ds) = omega (arith, fold-grows (10 * v + (d - 48)) ds)

-- the next digit leaves the number within the limit of the whole
pub next-within : (v i limit : ℕ) (ds : List ℕ) → i < length ds → fold (λ n b. 10 * n + (b - 48)) v (drop i ds) ≤ limit → 10 * v + (get_or ds i 0 - 48) ≤ limit
next-within v i limit ds more within =
    let whole = rw (drop-cons ds i 0) at within in
    omega (arith, whole, fold-grows (10 * v + (get_or ds i 0 - 48)) (drop (suc i) ds))
