-- Pieces of a line, and the numbers that they spell.
use Rattle.std.specs.Prelude.{◌≡◌, ◌≢◌, ◌<◌, ℕ, List, ◌∷◌, ◌++◌, length, slice_index}
use Rattle.std.specs.List.{AllByRecursion}
use Rattle.std.specs.Str.Parse.{AllDigits}

-- a text up to the first byte of this kind, and after it
pub record IsCut (byte : ℕ) (text front rest : List ℕ) : Type 0 where
  pub is : text ≡ front ++ byte ∷ rest
  pub first : AllByRecursion (λ b. b ≢ byte) front

-- decimal digits without a leading zero
pub record IsNumber (text : List ℕ) : Type 0 where
  pub digits : AllDigits 10 text
  pub some : 0 < length text
  pub plain : slice_index text 0 ≡ 48 → length text ≡ 1
