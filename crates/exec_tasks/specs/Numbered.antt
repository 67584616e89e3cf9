-- Values by number.
use Rattle.std.specs.Prelude.{◌≡◌, ℕ, ◌<◌, IsSome, None}
use Rattle.std.specs.Ordering.{nat_cmp}
use Rattle.std.specs.FinMap.{FinMap, get}

module _ {T : Type 0} where
  -- no number below the bound has a value
  abbrev pub NoneBelow : FinMap nat_cmp T → ℕ → Type 0
  NoneBelow m bound = (q : ℕ) → q < bound → get m q ≡ None

  -- the last number below the bound that has a value
  pub record IsLastBelow (m : FinMap nat_cmp T) (bound n : ℕ) : Type 0 where
    pub below : n < bound
    pub there : IsSome (get m n)
    pub last : (q : ℕ) → n < q → q < bound → get m q ≡ None
