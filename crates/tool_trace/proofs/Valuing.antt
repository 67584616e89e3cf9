-- Numbers that texts spell, over plain variables.
use Rattle.std.proofs.Common.{◌≡◌, ℕ, ℤ, pos, negsuc, neg_ℤ, zero, suc, ◌-◌, ◌<◌, ◌≤◌, min, List, [], ◌∷◌, length, get_or, take, drop, Option, Some, None, MatchOption, FitsSigned, refl, sym, ap, ◌∙◌, subst, arith}
use Rattle.std.proofs.lemmas.List.{take_all}
use Rattle.std.specs.Int.{w32}
use Rattle.std.specs.Fmt.{decimal, signed_decimal}
use Rattle.std.specs.Str.Parse.{AllDigits, digits_value}
use Rattle.tool_trace.specs.Pieces.{IsNumber}
use Rattle.tool_trace.proofs.Spelling.{number-of, text-of}
use Rattle.tool_trace.proofs.Cutting.{Without, decimal-without}

abbrev pub Valued : List ℕ → Option ℕ → Type 0
Valued text r = MatchOption r (IsNumber text → ⊥) (λ n. IsNumber text × (n ≡ min (digits_value 10 text) 1000000000000000))

pub empty-valued : (text : List ℕ) → length text < 1 → IsNumber text → ⊥
empty-valued text short is = let some : 0 < length text = is.some in omega (arith, short, some)

pub zero-valued : (text : List ℕ) → 2 ≤ length text → get_or text 0 0 ≡ 48 → IsNumber text → ⊥
zero-valued text long first is = let one : length text ≡ 1 = is.plain first in omega (arith, long, one)

pub digits-valued : (text : List ℕ) (r : Option ℕ) → 0 < length text → (get_or text 0 0 ≡ 48 → length text ≡ 1)
    → MatchOption r (AllDigits 10 text → ⊥) (λ n. AllDigits 10 text × (n ≡ min (digits_value 10 text) 1000000000000000)) → Valued text r
digits-valued text None some plain h = λ is. h is.digits
digits-valued text (Some n) some plain h = (record { digits = h.0; some = some; plain = plain }, h.1)

-- the decimal text of a number in a range
pub unspelled : (text : List ℕ) (least most : ℕ) → most < 1000000000000000 → (IsNumber text → ⊥) → (n : ℕ) → least ≤ n → n ≤ most → text ≡ decimal n → ⊥
unspelled text least most small none n low high e = none (number-of text n (omega (arith, small, high)) e).0

pub spelled : (text : List ℕ) (most v : ℕ) → most < 1000000000000000 → IsNumber text → v ≡ min (digits_value 10 text) 1000000000000000 → v ≤ most → text ≡ decimal v
spelled text most v small is e high = text-of text v is (omega (arith, small, high)) e

pub misspelled : (text : List ℕ) (least most v : ℕ) → most < 1000000000000000 → v ≡ min (digits_value 10 text) 1000000000000000 → (least ≤ v → v ≤ most → ⊥)
    → (n : ℕ) → least ≤ n → n ≤ most → text ≡ decimal n → ⊥
misspelled text least most v small e out n low high is =
    let value : digits_value 10 text ≡ n = (number-of text n (omega (arith, small, high)) is).1 in
    out (omega (arith, e, value, low, high, small)) (omega (arith, e, value, low, high, small))

-- a number below 0, after its sign
pub negative-none : (text digits : List ℕ) → text ≡ 45 ∷ digits → ((n : ℕ) → 1 ≤ n → n ≤ 2147483648 → digits ≡ decimal n → ⊥)
    → (z : ℤ) → FitsSigned w32 z → text ≡ signed_decimal z → ⊥
negative-none text digits is none (pos n) fits e =
    let small : n < 2147483648 = fits.sfits in
    (subst (Without 45) (sym e ∙ is) (decimal-without 45 n (omega arith) (omega (arith, small)))).0 refl
negative-none text digits is none (negsuc n) fits e =
    let small : n < 2147483648 = fits.sfits in none (suc n) (omega arith) (omega (arith, small)) (ap (drop 1) (sym is ∙ e))

pub negative-is : (text digits : List ℕ) (n : ℕ) → text ≡ 45 ∷ digits → 1 ≤ n → digits ≡ decimal n → text ≡ signed_decimal (neg_ℤ (pos n))
negative-is text digits zero is some e = absurd (omega (arith, some))
negative-is text digits (suc n) is some e = is ∙ ap (λ ds. 45 ∷ ds) e

-- and one without a sign
pub plain-none : (text : List ℕ) → (get_or text 0 0 ≡ 45 → ⊥) → ((n : ℕ) → 0 ≤ n → n ≤ 2147483647 → text ≡ decimal n → ⊥)
    → (z : ℤ) → FitsSigned w32 z → text ≡ signed_decimal z → ⊥
plain-none text first none (pos n) fits e = let small : n < 2147483648 = fits.sfits in none n (omega arith) (omega (arith, small)) e
plain-none text first none (negsuc n) fits e = first (ap (λ l. get_or l 0 0) e)

-- a text that begins with a sign
pub minus-cut : (text : List ℕ) → 1 ≤ length text → get_or text 0 0 ≡ 45 → text ≡ 45 ∷ take (length text - 1) (drop 1 text)
minus-cut [] some first = absurd (omega (arith, some))
minus-cut (b ∷ bs) some first = ap (λ c. c ∷ bs) first ∙ ap (λ t. 45 ∷ t) (sym (take_all (length (b ∷ bs) - 1) bs (omega arith)))
