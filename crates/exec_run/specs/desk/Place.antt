-- A worker's place at the desk: its number, and how many events it has made.
use Rattle.std.specs.Prelude.{ℕ, List, sum_by}

pub record Place : Type 0 where
  pub number : ℕ
  pub made : ℕ

abbrev pub made_by : List Place → ℕ
made_by = sum_by (λ p. p.made)
