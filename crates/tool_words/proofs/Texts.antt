-- Values of words and the texts of numbers.
use Rattle.std.proofs.Common.{◌≡◌, ◌≢◌, ℕ, suc, zero, ℤ, pos, negsuc, neg_ℤ, ◌<◌, ◌≤◌, ◌^◌, List, [], ◌∷◌, get_or, Bool, true, false, cond, eqb, leb, ◌&&◌, Option, Some, None, refl, sym, ap, ◌∙◌, subst, ⊎_elim, arith, leb-true, eqb-true, ne_eqb, FitsSigned, codes, lit<}
use Rattle.std.specs.List.{starts_with}
use Rattle.std.specs.Option.{option_map}
use Rattle.std.specs.Str.{bytes_eq}
use Rattle.std.specs.Str.Parse.{digits_value}
use Rattle.std.specs.Int.{w32}
use Rattle.std.specs.Fmt.{decimal, signed_decimal}
use Rattle.std.proofs.lemmas.Bool.{and_parts, and_left, cases_Bool, cases_lt, cond-true, cond-false}
use Rattle.std.proofs.lemmas.Slice.Eq.{bytes_eq-Decides}
use Rattle.std.proofs.lemmas.Fmt.{digits_value-decimal, first_decimal, decimal_digit}
use Rattle.tool_words.specs.Words.{number_in, arg_of}
use Rattle.tool_words.specs.Laws.{NumbersAreTheirTexts, ArgumentsAreTheirTexts}
use Rattle.tool_words.proofs.Numbers.{own, number_in-some}

-- what a choice that gives a value says of its test
chosen : {A : Type 0} (test : Bool) (x y : A) → cond test (Some x) None ≡ Some y → (test ≡ true) × (x ≡ y)
chosen true x y e = (refl, cc)
chosen false x y e = cc

-- a number that is read has the text
number_in-is : (least most n : ℕ) (text : List ℕ) → number_in least most text ≡ Some n → (decimal n ≡ text) × (least ≤ n) × (n ≤ most)
number_in-is least most n text e =
    let v = digits_value 10 text in
    let found = chosen (bytes_eq (decimal v) text && (leb least v && leb v most)) v n e in
    let parts : (bytes_eq (decimal v) text ≡ true) × ((leb least v && leb v most) ≡ true) = and_parts _ _ found.0 in
    let bounds : (leb least v ≡ true) × (leb v most ≡ true) = and_parts _ _ parts.1 in
    let same : decimal v ≡ text = (bytes_eq-Decides (decimal v) text).0 parts.0 in
    let low : least ≤ v = leb-true least v bounds.0 in
    let high : v ≤ most = leb-true v most bounds.1 in
    let value : v ≡ n = found.1 in
    (ap decimal (sym value) ∙ same, omega (arith, value, low), omega (arith, value, high))

-- the text of a number is read
number_in-read : (least most n : ℕ) (text : List ℕ) → most < 2 ^ 64 → (decimal n ≡ text) × (least ≤ n) × (n ≤ most) → number_in least most text ≡ Some n
number_in-read least most n text fits (same, low, high) =
    let value : n ≡ digits_value 10 text = sym (digits_value-decimal own n (omega arith)) ∙ ap (digits_value 10) same in
    sym (number_in-some least most n text value (ap decimal (sym value) ∙ same) low high)

pub numbers_law : NumbersAreTheirTexts
numbers_law least most n text fits = (number_in-is least most n text, number_in-read least most n text fits)

mapped : {A B : Type 0} (f : A → B) (o : Option A) (y : B) → option_map f o ≡ Some y → (x : A) × (o ≡ Some x) × (f x ≡ y)
mapped f None y e = cc
mapped f (Some x) y e = (x, refl, cc)

-- the argument of a text is a number of 32 bits that has it
abbrev IsArgument : List ℕ → ℤ → Type 0
IsArgument text z = (signed_decimal z ≡ text) × FitsSigned w32 z

below_zero : (n : ℕ) (cs : List ℕ) (z : ℤ) → decimal n ≡ cs → 1 ≤ n → n ≤ 2147483648 → neg_ℤ (pos n) ≡ z → IsArgument (45 ∷ cs) z
below_zero zero cs z same low high e = absurd (omega (arith, low))
below_zero (suc k) cs z same low high e = subst (IsArgument (45 ∷ cs)) e (ap (λ t. 45 ∷ t) same, record { sfits = omega (arith, high) })

negative_is : (cs : List ℕ) (z : ℤ) → option_map (λ n. neg_ℤ (pos n)) (number_in 1 2147483648 cs) ≡ Some z → IsArgument (45 ∷ cs) z
negative_is cs z e =
    let found = mapped (λ n. neg_ℤ (pos n)) (number_in 1 2147483648 cs) z e in
    let number = number_in-is 1 2147483648 found.0 cs found.1 in
    below_zero found.0 cs z number.0 number.1 number.2 found.2

positive_is : (text : List ℕ) (z : ℤ) → option_map pos (number_in 0 2147483647 text) ≡ Some z → IsArgument text z
positive_is text z e =
    let found = mapped pos (number_in 0 2147483647 text) z e in
    let number = number_in-is 0 2147483647 found.0 text found.1 in
    let high : found.0 ≤ 2147483647 = number.2 in
    subst (IsArgument text) found.2 (number.0, record { sfits = omega (arith, high) })

argument_is : (text : List ℕ) (z : ℤ) → arg_of text ≡ Some z → IsArgument text z
argument_is [] z e = positive_is [] z e
argument_is (c ∷ cs) z e =
    let test : Bool = starts_with eqb (c ∷ cs) (codes "-") in
    let minus : Option ℤ = option_map (λ n. neg_ℤ (pos n)) (number_in 1 2147483648 cs) in
    let plain : Option ℤ = option_map pos (number_in 0 2147483647 (c ∷ cs)) in
    ⊎_elim
    (λ (t : test ≡ true).
    let first : 45 ≡ c = eqb-true 45 c (and_parts _ _ t).0 in
    subst (λ (b : ℕ). IsArgument (b ∷ cs) z) first (negative_is cs z (sym (cond-true test minus plain t) ∙ e)))
    (λ (t : test ≡ false). positive_is (c ∷ cs) z (sym (cond-false test minus plain t) ∙ e))
    (cases_Bool test)

no_minus : (bs : List ℕ) → get_or bs 0 0 ≢ 45 → starts_with eqb bs (codes "-") ≡ false
no_minus [] h = refl
no_minus (c ∷ cs) h = and_left _ _ (ne_eqb 45 c (λ e. h (sym e)))

decimal_no_minus : (n : ℕ) → n < 2 ^ 64 → get_or (decimal n) 0 0 ≢ 45
decimal_no_minus n small e = ⊎_elim
    (λ (z : n < 1). absurd (omega (arith, e, ap (λ t. get_or t 0 0) (decimal_digit n (omega arith)))))
    (λ (p : 1 ≤ n). absurd (omega (arith, e, first_decimal n (omega arith) small)))
    (cases_lt n 1)

argument_read : (z : ℤ) → FitsSigned w32 z → arg_of (signed_decimal z) ≡ Some z
argument_read (pos n) fits =
    let small : n < 2147483648 = fits.sfits in
    cond-false _ _ _ (no_minus (decimal n) (decimal_no_minus n (omega (arith, small))))
    ∙ ap (option_map pos) (number_in-read 0 2147483647 n (decimal n) (lit< tt) (refl, omega arith, omega (arith, small)))
argument_read (negsuc k) fits =
    let small : k < 2147483648 = fits.sfits in
    ap (option_map (λ n. neg_ℤ (pos n))) (number_in-read 1 2147483648 (suc k) (decimal (suc k)) (lit< tt) (refl, omega arith, omega (arith, small)))

pub arguments_law : ArgumentsAreTheirTexts
arguments_law z text = (argument_is text z, λ h. ap arg_of (sym h.0) ∙ argument_read z h.1)
