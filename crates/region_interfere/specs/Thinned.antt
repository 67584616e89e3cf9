-- Branches without the effects that can't interfere with an effect of another branch.
use Rattle.std.specs.Prelude.{◌≡◌, ◌≢◌, ℕ, ◌<◌, Bool, false, List, length, filter, All, slice_index_or}
use Rattle.lang_base.specs.declared.effect.Effect.{Effect}
use Rattle.lang_base.specs.declared.effect.Constraint.{Constraint}
use Rattle.lang_base.specs.Effects.{interferes}

-- each branch keeps some of its effects; one that is left out interferes with no effect of another branch
pub record Thinned (branches left : List (List Effect)) : Type 0 where
  pub keeps : ℕ → Effect → Bool
  pub lengths : length left ≡ length branches
  pub kept : (j : ℕ) (d : List Effect) → j < length branches → slice_index_or left j d ≡ filter (keeps j) (slice_index_or branches j d)
  pub quiet : (given : List Constraint) (i j : ℕ) (d : List Effect) → i ≢ j → i < length branches → j < length branches →
      All (λ e. keeps i e ≡ false → All (λ f. interferes given e f ≡ false) (slice_index_or branches j d)) (slice_index_or branches i d)
