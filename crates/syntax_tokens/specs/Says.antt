-- What a token says.
use Rattle.std.specs.Prelude.{ℕ, ◌≡◌, ◌-◌, ◌≤◌, ◌==◌, if◌then◌else◌, List, [], ◌∷◌, ◌++◌, pos, length, slice_get, slice_range, cond, Some}
use Rattle.std.specs.List.{list_any}
use Rattle.std.specs.Str.{bytes_eq}
use Rattle.lang_base.specs.Lexical.{decimal_value}
use Rattle.syntax_tokens.specs.declared.token.Token.{Token}
use Rattle.syntax_tokens.specs.declared.token.TokenKind.{TokenKind}
use Rattle.syntax_tokens.specs.declared.token.TokenKind.TheVariants as kind
use Rattle.syntax_tokens.specs.declared.terminal.Terminal.{Terminal}
use Rattle.syntax_tokens.specs.declared.terminal.Terminal.TheVariants as terminal
use Rattle.syntax_tokens.specs.declared.terminal.Placed.{Placed}

-- the byte that `\` and a letter stand for
abbrev pub escaped_byte : ℕ → ℕ
escaped_byte b = if b == 110 then 10 else (if b == 116 then 9 else b)

-- the bytes between the quotes of a text, each escape replaced by the byte that it stands for
abbrev pub unescaped_bytes : List ℕ → List ℕ
unescaped_bytes [] = []
unescaped_bytes (b ∷ []) = b ∷ []
unescaped_bytes (b ∷ c ∷ bs) = if b == 92 then escaped_byte c ∷ unescaped_bytes bs else b ∷ unescaped_bytes (c ∷ bs)

-- what stands between the quotes of a text
abbrev pub inside_of : List ℕ → List ℕ
inside_of text = slice_range text 1 (length text - 1)

-- what a token of a kind is known to be, as far as its meaning asks for it
abbrev pub CanSay : TokenKind → List ℕ → Type 0
CanSay kind.Int text = decimal_value text ≤ 2147483647
CanSay kind.Text text = 2 ≤ length text
CanSay kind.Name text = Unit {0}
CanSay (kind.Symbol symbol) text = Unit {0}
CanSay (kind.Keyword keyword) text = Unit {0}

-- the bytes of a token
abbrev pub token_text : List ℕ → Token → List ℕ
token_text bytes token = slice_range bytes token.from token.to

-- a name goes last where it is new
abbrev pub with_name : List (List ℕ) → List ℕ → List (List ℕ)
with_name names name = cond (list_any (bytes_eq name) names) names (names ++ name ∷ [])

-- the names with that of a token, where the token is one
abbrev pub with_token : TokenKind → List (List ℕ) → List ℕ → List (List ℕ)
with_token kind.Name names text = with_name names text
with_token kind.Int names text = names
with_token kind.Text names text = names
with_token (kind.Symbol symbol) names text = names
with_token (kind.Keyword keyword) names text = names

-- the names with those of further tokens, each new one last
abbrev pub names_with : List ℕ → List (List ℕ) → List Token → List (List ℕ)
names_with bytes names [] = names
names_with bytes names (token ∷ tokens) = names_with bytes (with_token token.kind names (token_text bytes token)) tokens

-- the distinct names of a text, in the order of their first occurrences
abbrev pub distinct_names : List ℕ → List Token → List (List ℕ)
distinct_names bytes tokens = names_with bytes [] tokens

-- what a token of a kind and a text says, where the text has these names: a name its position among them
abbrev pub Means : List (List ℕ) → TokenKind → List ℕ → Terminal → Type 0
Means names kind.Name text (terminal.Name number) = slice_get names number ≡ Some text
Means names kind.Int text (terminal.Int number) = number ≡ pos (decimal_value text)
Means names kind.Text text (terminal.Text inside) = inside ≡ unescaped_bytes (inside_of text)
Means names (kind.Symbol symbol) text (terminal.Symbol said) = said ≡ symbol
Means names (kind.Keyword keyword) text (terminal.Keyword said) = said ≡ keyword
Means names kind text other = ⊥

-- each terminal is what its token says, at its token's place
abbrev pub MeanAll : List (List ℕ) → List ℕ → List Token → List Placed → Type 0
MeanAll names bytes [] [] = Unit {0}
MeanAll names bytes [] (said ∷ list) = ⊥
MeanAll names bytes (token ∷ tokens) [] = ⊥
MeanAll names bytes (token ∷ tokens) (said ∷ list) = (said.place ≡ token.place) × Means names token.kind (token_text bytes token) said.terminal × MeanAll names bytes tokens list
