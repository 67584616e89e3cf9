-- The numbers of a spread's branches, counted on from the next one.
use Rattle.std.specs.Int.{w32, cast_signed, cast_unsigned, int_wrapping_add, int_wrapping_sub}
use Rattle.std.proofs.Common.{◌≡◌, ◌^◌, ℕ, suc, ◌+◌, ◌-◌, ◌*◌, pos, sym, ap, ◌∙◌, arith}
use Rattle.std.specs.Prelude.{◌%◌, ◌/◌}
use Rattle.std.proofs.lemmas.Int.{of_z-to_z}
use native.Mathlib.Nat.{add-mul-mod_self_right, div-add-mod', mod-lt}
use mir.Val.{bits}
use Rattle.runs_simulation.proofs.events.Forking.{FirstNumbers, NextNumbers}

mod_plus : (a b n : ℕ) → (a % n + b) % n ≡ (a + b) % n
mod_plus a b n = sym (ap (λ z. z % n) (let d = div-add-mod' a n in omega (arith, d)) ∙ add-mul-mod_self_right (a % n + b) (a / n) n)

abbrev Many : ℕ
Many = 2 ^ bits w32

bits_of : (n : ℕ) → cast_unsigned w32 (cast_signed w32 (n % Many)) ≡ n % Many
bits_of n = of_z-to_z w32 (n % Many) (mod-lt n (omega arith))

-- the bits of a sum
sum_of : (n m : ℕ) → cast_signed w32 ((cast_unsigned w32 (cast_signed w32 (n % Many)) + m) % Many) ≡ cast_signed w32 ((n + m) % Many)
sum_of n m = ap (λ z. cast_signed w32 ((z + m) % Many)) (bits_of n) ∙ ap (cast_signed w32) (mod_plus n m Many)

pub first_numbers : FirstNumbers
first_numbers start n m =
    ap (λ z. int_wrapping_add w32 (int_wrapping_sub w32 start (pos z)) (pos m)) (none n) ∙ sum_of (cast_unsigned w32 start + Many) m ∙ ap (cast_signed w32) around
  where
    none : (n : ℕ) → n - n ≡ 0
    none n = omega arith

    around : (cast_unsigned w32 start + Many + m) % Many ≡ (cast_unsigned w32 start + m) % Many
    around = ap (λ z. z % Many) (ticked) ∙ add-mul-mod_self_right (cast_unsigned w32 start + m) 1 Many
      where
        ticked : cast_unsigned w32 start + Many + m ≡ cast_unsigned w32 start + m + 1 * Many
        ticked = omega arith

pub next_numbers : NextNumbers
next_numbers next n m few =
    ap (λ z. int_wrapping_add w32 z (pos m)) (sum_of (cast_unsigned w32 next + 1) (Many - suc n)) ∙ sum_of (cast_unsigned w32 next + 1 + (Many - suc n)) m
    ∙ ap (λ z. cast_signed w32 ((z + m) % Many)) same ∙ sym (sum_of (cast_unsigned w32 next + (Many - n)) m)
  where
    same : cast_unsigned w32 next + 1 + (Many - suc n) ≡ cast_unsigned w32 next + (Many - n)
    same = omega (arith, few)
