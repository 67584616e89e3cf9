-- What the values of words are, told by the texts of numbers.
use Rattle.std.specs.Prelude.{◌≡◌, ℕ, ℤ, ◌≤◌, ◌<◌, ◌^◌, ◌↔◌, List, Some, FitsSigned}
use Rattle.std.specs.Int.{w32}
use Rattle.std.specs.Fmt.{decimal, signed_decimal}
use Rattle.tool_words.specs.Words.{number_in, arg_of}

-- a value is read as a number exactly where it is the number's decimal text, and the number is in range
abbrev pub NumbersAreTheirTexts : Type 0
NumbersAreTheirTexts = (least most n : ℕ) (text : List ℕ) → most < 2 ^ 64 → (number_in least most text ≡ Some n) ↔ ((decimal n ≡ text) × (least ≤ n) × (n ≤ most))

-- a value is read as an argument exactly where it is the decimal text of that number of 32 bits
abbrev pub ArgumentsAreTheirTexts : Type 0
ArgumentsAreTheirTexts = (z : ℤ) (text : List ℕ) → (arg_of text ≡ Some z) ↔ ((signed_decimal z ≡ text) × FitsSigned w32 z)
