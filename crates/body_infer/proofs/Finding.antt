-- What a list has is found either way round.
use Rattle.std.proofs.Common.{◌≡◌, ◌∙◌, ℕ, ◌||◌, ◌==◌, List, [], ◌∷◌, refl, ap}
use Rattle.std.specs.List.{list_any}
use Rattle.std.proofs.lemmas.Cmp.{nat_eq_equiv}

pub any_swapped : (x : ℕ) (xs : List ℕ) → list_any (λ n. n == x) xs ≡ list_any (λ n. x == n) xs
any_swapped x [] = refl
any_swapped x (y ∷ ys) = ap (λ b. b || list_any (λ n. n == x) ys) (nat_eq_equiv.symm y x) ∙ ap (λ b. (x == y) || b) (any_swapped x ys)
