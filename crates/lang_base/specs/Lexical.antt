-- The bytes of a program text, and the names and numbers that are made of them.
use Rattle.std.specs.Prelude.{◌≡◌, ◌+◌, ◌-◌, ◌*◌, ℕ, Bool, true, ◌||◌, ◌==◌, List, [], ◌∷◌, codes}
use Rattle.std.specs.Char.{is_ascii_alphabetic, is_ascii_digit}
use Rattle.std.specs.List.{AllByRecursion, Contains, fold}

-- space, tab, line feed or carriage return
unfoldable pub is_blank : ℕ → Bool
is_blank b = (b == 32) || (b == 9) || (b == 10) || (b == 13)

-- an ASCII letter or `_`
unfoldable pub is_letter : ℕ → Bool
is_letter b = is_ascii_alphabetic b || (b == 95)

unfoldable pub is_digit : ℕ → Bool
is_digit b = is_ascii_digit b

-- what a name goes on with
unfoldable pub is_name_byte : ℕ → Bool
is_name_byte b = is_letter b || is_digit b

abbrev pub keywords : List (List ℕ)
keywords =
    codes "class" ∷ codes "extends" ∷ codes "region" ∷ codes "atomic" ∷ codes "in" ∷ codes "reads" ∷ codes "writes"
    ∷ codes "pure" ∷ codes "int" ∷ codes "boolean" ∷ codes "void" ∷ codes "final" ∷ codes "if" ∷ codes "else"
    ∷ codes "while" ∷ codes "return" ∷ codes "print" ∷ codes "cobegin" ∷ codes "cobegin_nd" ∷ codes "foreach"
    ∷ codes "foreach_nd" ∷ codes "foreach_parts" ∷ codes "new" ∷ codes "this" ∷ codes "true" ∷ codes "false"
    ∷ codes "null" ∷ codes "Root" ∷ []

-- a letter, and what a name goes on with
abbrev pub IsWord : List ℕ → Type 0
IsWord [] = ⊥
IsWord (b ∷ bs) = (is_letter b ≡ true) × AllByRecursion (λ c. is_name_byte c ≡ true) bs

-- a word that is no keyword
abbrev pub IsName : List ℕ → Type 0
IsName text = IsWord text × ¬ (Contains keywords text)

-- the number that decimal digits spell
abbrev pub decimal_value : List ℕ → ℕ
decimal_value digits = fold (λ n b. 10 * n + (b - 48)) 0 digits
