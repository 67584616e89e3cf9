-- Where no piece stands: the causes, and their places.
use Rattle.std.specs.Prelude.{◌≡◌, ◌≢◌, ◌<◌, ◌+◌, ◌⊎◌, ℕ, false, List, [], ◌∷◌, ◌++◌, length, nat_eq, IsUtf8}
use Rattle.std.specs.List.{starts_with}
use Rattle.std.specs.Str.Lossy.{utf8_valid_len}
use Rattle.lang_base.specs.Lexical.{is_blank, is_letter, is_digit, decimal_value}
use Rattle.lang_base.specs.declared.refusal.Kind.{Kind}
use Rattle.lang_base.specs.declared.refusal.Kind.TheVariants as kind
use Rattle.syntax_tokens.specs.declared.token.Symbol.{Symbol}
use Rattle.syntax_tokens.specs.Spelling.{symbol_text}
use Rattle.syntax_tokens.specs.Piece.{StopsAt, ClosesAt, IsComment, IsInside, is_escape, AreDigits, HasLeadingZero}

-- a byte that begins no piece
abbrev pub BeginsNothing : List ℕ → Type 0
BeginsNothing [] = ⊥
BeginsNothing (b ∷ bs) = (is_blank b ≡ false) × (is_letter b ≡ false) × (is_digit b ≡ false) × (b ≢ 34) × ((s : Symbol) → starts_with nat_eq (b ∷ bs) (symbol_text s) ≡ false)

-- a line feed, or a `\` with no escape
abbrev pub IsBadInText : List ℕ → Type 0
IsBadInText [] = ⊥
IsBadInText (b ∷ bs) = (b ≡ 10) ⊎ ((b ≡ 92) × StopsAt is_escape bs)

-- the inside of a text goes no further: the end, a quote, or what may not stand there
abbrev pub EndsInside : List ℕ → Type 0
EndsInside [] = Unit {0}
EndsInside (b ∷ bs) = (b ≡ 34) ⊎ IsBadInText (b ∷ bs)

-- why no piece stands there
pub data Cause : Type 0 where
  no_piece : Cause
  bad_int : Cause
  open_comment : Cause
  byte_in_comment : Cause
  byte_in_text : Cause
  bad_in_text : Cause
  open_text : Cause

-- the refusal that a cause is reported as
abbrev pub kind_of : Cause → Kind
kind_of bad_int = kind.Number
kind_of no_piece = kind.Syntax
kind_of open_comment = kind.Syntax
kind_of byte_in_comment = kind.Syntax
kind_of byte_in_text = kind.Syntax
kind_of bad_in_text = kind.Syntax
kind_of open_text = kind.Syntax

-- the bytes begin with this fault, whose place is after so many of them
abbrev pub IsCause : Cause → List ℕ → ℕ → Type 0
IsCause no_piece bytes at = BeginsNothing bytes × (at ≡ 0)
-- digits with a leading zero, or of too great a number
IsCause bad_int bytes at = (text : List ℕ) × (rest : List ℕ) × (bytes ≡ text ++ rest) × AreDigits text rest × (HasLeadingZero text ⊎ (2147483647 < decimal_value text)) × (at ≡ 0)
-- a `/*` with no `*/` after it
IsCause open_comment bytes at = (rest : List ℕ) × (bytes ≡ 47 ∷ 42 ∷ rest) × ((k : ℕ) → ¬ (ClosesAt rest k)) × (at ≡ 0)
-- a byte that isn't UTF-8, in a comment
IsCause byte_in_comment bytes at = (text : List ℕ) × (rest : List ℕ) × (bytes ≡ text ++ rest) × IsComment text rest × ¬ (IsUtf8 text) × (at ≡ utf8_valid_len text)
-- a byte that isn't UTF-8, in a text
IsCause byte_in_text bytes at = (inside : List ℕ) × (rest : List ℕ) × (bytes ≡ 34 ∷ (inside ++ rest)) × IsInside inside × EndsInside rest × ¬ (IsUtf8 inside) × (at ≡ 1 + utf8_valid_len inside)
-- a line feed or a bad escape, in a text
IsCause bad_in_text bytes at = (inside : List ℕ) × (rest : List ℕ) × (bytes ≡ 34 ∷ (inside ++ rest)) × IsInside inside × IsBadInText rest × IsUtf8 inside × (at ≡ 1 + length inside)
-- a text with none of these faults that isn't closed
IsCause open_text bytes at = (inside : List ℕ) × (bytes ≡ 34 ∷ inside) × IsInside inside × IsUtf8 inside × (at ≡ 0)

-- a refusal of this kind, after so many bytes
abbrev pub IsFault : Kind → List ℕ → ℕ → Type 0
IsFault kind bytes at = (cause : Cause) × (kind ≡ kind_of cause) × IsCause cause bytes at
