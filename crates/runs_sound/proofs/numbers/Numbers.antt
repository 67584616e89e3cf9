-- Numbers of iterations: as many as there are numbers of 32 bits differ.
use Rattle.std.proofs.Common.{◌≡◌, ◌<◌, ◌+◌, ◌^◌, ◌%◌, ℕ, ℤ, pos, sym, ap, ◌∙◌, arith}
use Rattle.std.specs.Int.{w32, int_wrapping_add, cast_unsigned, cast_signed}
use Rattle.std.proofs.lemmas.Int.{of_z-to_z}

sum_one : (a i j : ℕ) → i < 2 ^ 32 → j < 2 ^ 32 → (a + i) % 2 ^ 32 ≡ (a + j) % 2 ^ 32 → i ≡ j
sum_one a i j l m e = omega (arith, l, m, e)

pub number_one : (start : ℤ) (i j : ℕ) → i < 2 ^ 32 → j < 2 ^ 32 → int_wrapping_add w32 start (pos i) ≡ int_wrapping_add w32 start (pos j) → i ≡ j
number_one start i j l m e =
    let a = cast_unsigned w32 start in
    let k : cast_unsigned w32 (cast_signed w32 ((a + i) % 2 ^ 32)) ≡ cast_unsigned w32 (cast_signed w32 ((a + j) % 2 ^ 32)) = ap (cast_unsigned w32) e in
    sum_one a i j l m (sym (of_z-to_z w32 ((a + i) % 2 ^ 32) (omega arith)) ∙ k ∙ of_z-to_z w32 ((a + j) % 2 ^ 32) (omega arith))
