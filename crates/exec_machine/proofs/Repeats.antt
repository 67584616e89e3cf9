-- How many tasks there are up to the greatest of a schedule, by its repeats.
use Rattle.std.proofs.Common.{◌≡◌, ◌<◌, ◌+◌, ◌∙◌, ℕ, zero, suc, max, List, ◌++◌, replicate, ap, refl, arith}
use Rattle.std.specs.Prelude.{fold}
use Rattle.std.proofs.lemmas.List.Sums.{fold-append}

-- up to the greatest of those before and this task
abbrev further : ℕ → ℕ → ℕ
further most task = max most (task + 1)

again : (most task n : ℕ) → fold further (max most (task + 1)) (replicate n task) ≡ max most (task + 1)
again most task zero = refl
again most task (suc n) = ap (λ k. fold further k (replicate n task)) (omega arith) ∙ again most task n

-- a repeat after others
pub up_to_repeat : (most task n : ℕ) → 0 < n → fold (λ most k. max most (k + 1)) most (replicate n task) ≡ max most (task + 1)
up_to_repeat most task zero some = absurd (omega (arith, some))
up_to_repeat most task (suc n) some = again most task n

pub one_by_one : (xs ys : List ℕ) → fold (λ most k. max most (k + 1)) 0 (xs ++ ys) ≡ fold (λ most k. max most (k + 1)) (fold (λ most k. max most (k + 1)) 0 xs) ys
one_by_one xs ys = fold-append further 0 xs ys
