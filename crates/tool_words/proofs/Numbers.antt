-- When a text is a number's decimal text.
use Rattle.std.proofs.Common.{◌≡◌, ◌≢◌, ℕ, ◌+◌, ◌<◌, ◌≤◌, ◌^◌, List, [], ◌∷◌, length, get_or, Bool, true, false, leb, ◌&&◌, Some, None, sym, ap, ◌∙◌, subst, ⊎_elim, arith, leb-true, le-leb}
use Rattle.std.specs.Str.{bytes_eq}
use Rattle.std.specs.Str.Parse.{AllDigits, IsNumeral, digits_value, without_leading_plus}
use Rattle.std.specs.Fmt.{decimal}
use Rattle.std.proofs.lemmas.Bool.{and_parts, and_from, cases_Bool, cases_lt, cond-true, cond-false}
use Rattle.std.proofs.lemmas.Slice.Eq.{bytes_eq-Decides}
use Rattle.std.proofs.lemmas.Str.Parse.{IsNumeralModel, numerals_by_value, tells_digits, without_leading_plus_none}
use Rattle.std.proofs.lemmas.Fmt.{decimal-digits_value, decimal_is_IsNumeral, decimal_digit, first_decimal}
use Rattle.tool_words.specs.Words.{number_in}

pub own : IsNumeralModel (AllDigits 10) (digits_value 10)
own = numerals_by_value (AllDigits 10) tells_digits

-- a text that writes no number of 64 bits is none in a range of such numbers
pub number_in-none : (least most : ℕ) (text : List ℕ) → most < 2 ^ 64 → (digits_value 10 text < 2 ^ 64 → decimal (digits_value 10 text) ≡ text → ⊥) → None ≡ number_in least most text
number_in-none least most text fits wrong =
    let n = digits_value 10 text in
    let test : Bool = bytes_eq (decimal n) text && (leb least n && leb n most) in
    ⊎_elim
    (λ (e : test ≡ true).
    let parts : (bytes_eq (decimal n) text ≡ true) × ((leb least n && leb n most) ≡ true) = and_parts _ _ e in
    let bounds : (leb least n ≡ true) × (leb n most ≡ true) = and_parts _ _ parts.1 in
    let below : n ≤ most = leb-true n most bounds.1 in
    absurd (wrong (omega arith) ((bytes_eq-Decides (decimal n) text).0 parts.0)))
    (λ (e : test ≡ false). sym (cond-false test (Some n) None e))
    (cases_Bool test)

-- a number in the range is that of its decimal text
pub number_in-some : (least most n : ℕ) (text : List ℕ) → n ≡ digits_value 10 text → decimal (digits_value 10 text) ≡ text → least ≤ n → n ≤ most → Some n ≡ number_in least most text
number_in-some least most n text value same low high =
    let v = digits_value 10 text in
    let low_test : leb least v ≡ true = le-leb least v (omega arith) in
    let high_test : leb v most ≡ true = le-leb v most (omega arith) in
    let test : (bytes_eq (decimal v) text && (leb least v && leb v most)) ≡ true
    = and_from _ _ ((bytes_eq-Decides (decimal v) text).1 same) (and_from _ _ low_test high_test) in
    ap Some value ∙ sym (cond-true _ (Some v) None test)

-- no decimal text begins with `+`, nor with `0` unless it is `0`
pub decimal_plain : (n : ℕ) → n < 2 ^ 64 → (get_or (decimal n) 0 0 ≢ 43) × (get_or (decimal n) 0 0 ≡ 48 → length (decimal n) ≡ 1)
decimal_plain n small = ⊎_elim
    (λ (z : n < 1).
    let zero_text : decimal n ≡ (48 + n) ∷ [] = decimal_digit n (omega arith) in
    (λ e. absurd (omega (arith, ap (λ t. get_or t 0 0) zero_text)), λ _. ap length zero_text))
    (λ (p : 1 ≤ n). let first = first_decimal n (omega arith) small in
    (λ e. absurd (omega (arith, first)), λ e. absurd (omega (arith, first))))
    (cases_lt n 1)

-- a text that isn't plain is no number
pub refused_in : (least most : ℕ) (text : List ℕ) → most < 2 ^ 64 → ((get_or text 0 0 ≢ 43) × (get_or text 0 0 ≡ 48 → length text ≡ 1) → ⊥) → None ≡ number_in least most text
refused_in least most text fits odd = number_in-none least most text fits
    (λ small e. odd (subst (λ (t : List ℕ). (get_or t 0 0 ≢ 43) × (get_or t 0 0 ≡ 48 → length t ≡ 1)) e (decimal_plain (digits_value 10 text) small)))

-- what `parse` says of an `Ok` and of an `Err`
abbrev IsRead : List ℕ → Type 0
IsRead ds = IsNumeral 10 ds × (digits_value 10 ds < 2 ^ 64)

-- what `parse` reads of a plain text is its number
pub parsed_in : (least most : ℕ) (text : List ℕ) (n : ℕ) → get_or text 0 0 ≢ 43 → (get_or text 0 0 ≡ 48 → length text ≡ 1) → IsRead (without_leading_plus text) × (n ≡ digits_value 10 (without_leading_plus text)) → least ≤ n → n ≤ most → Some n ≡ number_in least most text
parsed_in least most text n not_plus no_zero parsed low high =
    let read = subst (λ (ds : List ℕ). IsRead ds × (n ≡ digits_value 10 ds)) (without_leading_plus_none text not_plus) parsed in
    number_in-some least most n text read.1 (decimal-digits_value own text read.0.0.1 read.0.0.0 no_zero read.0.1) low high

-- a plain text that `parse` refuses is no number
pub unparsed_in : (least most : ℕ) (text : List ℕ) → most < 2 ^ 64 → get_or text 0 0 ≢ 43 → (IsRead (without_leading_plus text) → ⊥) → None ≡ number_in least most text
unparsed_in least most text fits not_plus refused = number_in-none least most text fits
    (λ small same. refused (subst IsRead (sym (without_leading_plus_none text not_plus)) (subst (IsNumeral 10) same (decimal_is_IsNumeral (digits_value 10 text) small).0, small)))
