-- Ends over readers and writers of the standard library.
use Rattle.std.specs.Prelude.{ℕ, refl}
use Rattle.std.specs.Coded.{Coded, code_by, coded×, coded_ℕ}

-- a reader or a writer, with how many of its calls failed
pub record Counted (X : Type 0) : Type 0 where
  pub inner : X
  pub faults : ℕ

-- it is stored as the pair of its fields
abbrev pub counted_code : {X : Type 0} → Coded X → Coded (Counted X)
counted_code {X} code =
    code_by (X × ℕ) (coded× code coded_ℕ) (λ c. (c.inner, c.faults)) (λ p. record { inner = p.0; faults = p.1 }) (λ _. refl)
