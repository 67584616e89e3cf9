-- What a text is made of: blanks, comments and tokens, each with the bytes after it.
use Rattle.std.specs.Prelude.{◌≡◌, ◌<◌, ◌≤◌, ◌+◌, ◌⊎◌, ◌==◌, ◌||◌, ℕ, Bool, true, false, not, List, [], ◌∷◌, ◌++◌, length, nat_eq, slice_index, Option, Some, None, IsUtf8}
use Rattle.std.specs.List.{AllByRecursion, starts_with}
use Rattle.lang_base.specs.Lexical.{is_blank, is_digit, is_name_byte, IsName, decimal_value}
use Rattle.syntax_tokens.specs.declared.token.TokenKind.{TokenKind}
use Rattle.syntax_tokens.specs.declared.token.TokenKind.TheVariants as kind
use Rattle.syntax_tokens.specs.declared.token.Symbol.{Symbol}
use Rattle.syntax_tokens.specs.Spelling.{symbol_text, keyword_text}

-- no byte of this kind comes next
abbrev pub StopsAt : (ℕ → Bool) → List ℕ → Type 0
StopsAt is [] = Unit {0}
StopsAt is (b ∷ bs) = is b ≡ false

-- the longest run of bytes of one kind
abbrev pub IsRun : (ℕ → Bool) → List ℕ → List ℕ → Type 0
IsRun is text rest = AllByRecursion (λ b. is b ≡ true) text × StopsAt is rest

-- what a `//` comment goes on with
abbrev pub is_no_line_feed : ℕ → Bool
is_no_line_feed b = not (b == 10)

-- `//` up to the line feed or the end
abbrev pub IsLineComment : List ℕ → List ℕ → Type 0
IsLineComment text rest = (body : List ℕ) × (text ≡ 47 ∷ 47 ∷ body) × IsRun is_no_line_feed body rest

-- `*/` stands after this many bytes
abbrev pub ClosesAt : List ℕ → ℕ → Type 0
ClosesAt bytes at = (slice_index bytes at ≡ 42) × (slice_index bytes (at + 1) ≡ 47)

-- `/*` up to the next `*/`
abbrev pub IsBlockComment : List ℕ → Type 0
IsBlockComment text = (body : List ℕ) × (text ≡ 47 ∷ 42 ∷ (body ++ 42 ∷ 47 ∷ [])) × ((at : ℕ) → at < length body → ¬ (ClosesAt (body ++ 42 ∷ 47 ∷ []) at))

-- a comment of either kind, and the bytes after it
abbrev pub IsComment : List ℕ → List ℕ → Type 0
IsComment text rest = IsLineComment text rest ⊎ IsBlockComment text

-- `//` or `/*`
abbrev pub BeginsComment : List ℕ → Type 0
BeginsComment [] = ⊥
BeginsComment (b ∷ []) = ⊥
BeginsComment (b ∷ c ∷ bs) = (b ≡ 47) × ((c ≡ 47) ⊎ (c ≡ 42))

-- a letter that makes an escape after a `\`: n, t, `"` or `\`
unfoldable pub is_escape : ℕ → Bool
is_escape b = (b == 110) || (b == 116) || (b == 34) || (b == 92)

-- a byte that stands for itself in a text: none of `"`, `\` and line feed
unfoldable pub is_plain : ℕ → Bool
is_plain b = not ((b == 34) || (b == 92) || (b == 10))

-- what stands between the quotes of a text: plain bytes and escapes
pub data IsInside : List ℕ → Type 0 where
  nothing : IsInside []
  plain : (b : ℕ) (bs : List ℕ) → is_plain b ≡ true → IsInside bs → IsInside (b ∷ bs)
  escape : (b : ℕ) (bs : List ℕ) → is_escape b ≡ true → IsInside bs → IsInside (92 ∷ b ∷ bs)

-- a text that is closed, in UTF-8
abbrev pub IsText : List ℕ → Type 0
IsText text = (inside : List ℕ) × (text ≡ 34 ∷ (inside ++ 34 ∷ [])) × IsInside inside × IsUtf8 inside

-- some digits, and no other digit after them
abbrev pub AreDigits : List ℕ → List ℕ → Type 0
AreDigits text rest = (0 < length text) × IsRun is_digit text rest

-- a zero before other digits
abbrev pub HasLeadingZero : List ℕ → Type 0
HasLeadingZero text = (1 < length text) × (slice_index text 0 ≡ 48)

-- no longer symbol begins the bytes
abbrev pub IsLongestSymbol : Symbol → List ℕ → Type 0
IsLongestSymbol s bytes = (other : Symbol) → starts_with nat_eq bytes (symbol_text other) ≡ true → length (symbol_text other) ≤ length (symbol_text s)

-- the bytes of a token, and those after it
abbrev pub IsToken : TokenKind → List ℕ → List ℕ → Type 0
IsToken kind.Name text rest = IsName text × StopsAt is_name_byte rest
IsToken (kind.Keyword k) text rest = (text ≡ keyword_text k) × StopsAt is_name_byte rest
IsToken kind.Int text rest = AreDigits text rest × ¬ (HasLeadingZero text) × (decimal_value text ≤ 2147483647)
IsToken kind.Text text rest = IsText text
IsToken (kind.Symbol s) text rest = (text ≡ symbol_text s) × IsLongestSymbol s (text ++ rest) × ¬ (BeginsComment (text ++ rest))

-- a token of this kind, or, where there is none, a blank or a comment
abbrev pub IsPiece : Option TokenKind → List ℕ → List ℕ → Type 0
IsPiece (Some kind) text rest = IsToken kind text rest
IsPiece None text rest = ((b : ℕ) × (text ≡ b ∷ []) × (is_blank b ≡ true)) ⊎ (IsComment text rest × IsUtf8 text)
