-- Texts that are the decimal text of a number.
use Rattle.std.proofs.Common.{◌≡◌, ℕ, suc, zero, ◌+◌, ◌-◌, ◌*◌, ◌<◌, ◌≤◌, ◌^◌, min, List, length, get_or, take, sym, ap, ◌∙◌, subst, arith}
use Rattle.std.proofs.lemmas.Bool.Decides.{nat_tests}
use Rattle.std.proofs.lemmas.Fmt.{decimal_is_IsNumeral, decimal_digit, first_decimal, decimal-digits_value}
use Rattle.std.proofs.lemmas.Int.Digits.{digits_value_more, digits_more}
use Rattle.std.proofs.lemmas.Str.Parse.{IsNumeralModel, numerals_by_value, tells_digits, digit_at}
use Rattle.std.specs.Char.{digit_value}
use Rattle.std.specs.Fmt.{decimal}
use Rattle.std.specs.Str.Parse.{AllDigits, digits_value}
use Rattle.tool_trace.specs.Pieces.{IsNumber}

pub own : IsNumeralModel (AllDigits 10) (digits_value 10)
own = numerals_by_value (AllDigits 10) tells_digits

digit_is : (b : ℕ) → 48 ≤ b → b ≤ 57 → digit_value b ≡ b - 48
digit_is b low high = grind (arith, nat_tests)

module _ (w : List ℕ) (i b : ℕ) (within : i < length w) (is : b ≡ get_or w i 0) where
  -- a byte that is no digit
  pub digits-none : (48 ≤ b → b ≤ 57 → ⊥) → AllDigits 10 w → ⊥
  digits-none apart all = let r = digit_at w i all within in absurd (apart (omega (arith, r, is)) (omega (arith, r, is)))

  -- one digit more
  pub value-next : 48 ≤ b → b ≤ 57 → (number d : ℕ) → d ≡ b - 48 → number ≡ min (digits_value 10 (take i w)) 1000000000000000
      → min (number * 10 + d) 1000000000000000 ≡ min (digits_value 10 (take (i + 1) w)) 1000000000000000
  value-next low high number d e h =
      omega (arith, e, h, digits_value_more 10 w i within, ap digit_value is, digit_is b low high)

  pub digits-next : 48 ≤ b → b ≤ 57 → AllDigits 10 (take i w) → AllDigits 10 (take (i + 1) w)
  digits-next low high all = digits_more 10 w i within all (omega (arith, ap digit_value is, digit_is b low high))

plain_decimal : (n : ℕ) → n < 2 ^ 64 → get_or (decimal n) 0 0 ≡ 48 → length (decimal n) ≡ 1
plain_decimal zero small first = ap length (decimal_digit 0 (omega arith))
plain_decimal (suc n) small first = let h = first_decimal (suc n) (omega arith) small in absurd (omega (arith, h, first))

-- a number and its text
pub number-of : (w : List ℕ) (n : ℕ) → n < 1000000000000000 → w ≡ decimal n → IsNumber w × (digits_value 10 w ≡ n)
number-of w n small e =
    let model = decimal_is_IsNumeral n (omega arith) in
    let P : List ℕ → Type 0 = λ t. IsNumber t × (digits_value 10 t ≡ n) in
    subst P (sym e) (record { digits = model.0.1; some = model.0.0; plain = plain_decimal n (omega arith) }, model.1)

pub text-of : (w : List ℕ) (n : ℕ) → IsNumber w → n < 1000000000000000 → n ≡ min (digits_value 10 w) 1000000000000000 → w ≡ decimal n
text-of w n is small e = sym (ap decimal (omega (arith, e)) ∙ decimal-digits_value own w is.digits is.some is.plain (omega (arith, e)))
