-- The table of rows of regions.
use Rattle.std.specs.Prelude.{◌≡◌, ℕ, List, [], ◌∷◌, ◌++◌, ◌⊎◌, slice_get, Contains, Some}
use Rattle.lang_base.specs.declared.region.Region.{Region}

-- the regions stand in the row; it was there, or it is new, and then no row had these regions
pub record Placed (old : List (List Region)) (regions : List Region) (row : ℕ) (new : List (List Region)) : Type 0 where
  pub found : slice_get new row ≡ Some regions
  pub kept : (new ≡ old) ⊎ ((Contains old regions → ⊥) × (new ≡ old ++ regions ∷ []))
