-- A whole text, cut into its tokens, or its first fault.
use Rattle.std.specs.Prelude.{◌≡◌, ◌<◌, ◌≤◌, ◌+◌, ℕ, List, [], ◌∷◌, ◌++◌, length, take, drop, slice_range, Option, Some, None}
use Rattle.lang_base.specs.declared.place.Place.{Place}
use Rattle.lang_base.specs.declared.refusal.Refusal.{Refusal}
use Rattle.syntax_tokens.specs.declared.token.Token.{Token}
use Rattle.syntax_tokens.specs.declared.token.TokenKind.{TokenKind}
use Rattle.syntax_tokens.specs.Fault.{IsFault}
use Rattle.syntax_tokens.specs.Piece.{IsToken, IsPiece}
use Rattle.syntax_tokens.specs.Place.{place_after}

-- pieces in a row, each with its bytes
abbrev pub Pieces : Type 0
Pieces = List (Option TokenKind × List ℕ)

-- the bytes of all of them
abbrev pub text_of : Pieces → List ℕ
text_of [] = []
text_of ((kind, text) ∷ pieces) = text ++ text_of pieces

-- each stands in front of the pieces after it and of what is left
abbrev pub StandBefore : List ℕ → Pieces → Type 0
StandBefore left [] = Unit {0}
StandBefore left ((kind, text) ∷ pieces) = IsPiece kind text (text_of pieces ++ left) × StandBefore left pieces

-- the token of a piece that begins at an offset and a place, with its length
abbrev pub token_at : ℕ → ℕ → Place → Option TokenKind → List Token
token_at from len place None = []
token_at from len place (Some kind) = record { kind = kind; from = from; to = from + len; place = place } ∷ []

-- the tokens among pieces that stand after these bytes
abbrev pub tokens_of : List ℕ → Pieces → List Token
tokens_of front [] = []
tokens_of front ((kind, text) ∷ pieces) = token_at (length front) (length text) (place_after front) kind ++ tokens_of (front ++ text) pieces

-- the text is pieces in a row, these are the tokens among them, and this is where it ends
pub record Cuts (bytes : List ℕ) (tokens : List Token) (end : Place) : Type 0 where
  pub pieces : Pieces
  pub whole : bytes ≡ text_of pieces
  pub each : StandBefore [] pieces
  pub reported : tokens ≡ tokens_of [] pieces
  pub ends : end ≡ place_after bytes

-- the text is pieces in a row and then a fault
pub record FaultsAt (bytes : List ℕ) (refusal : Refusal) : Type 0 where
  pub pieces : Pieces
  pub left : List ℕ
  pub at : ℕ
  pub whole : bytes ≡ text_of pieces ++ left
  pub each : StandBefore left pieces
  pub fault : IsFault refusal.kind left at
  pub placed : refusal.place ≡ place_after (text_of pieces ++ take at left)

-- a text is cut in one way, or has one fault, and never both
pub record OneCutting : Type 0 where
  pub tokens : (bytes : List ℕ) (some others : List Token) (end other : Place) → Cuts bytes some end → Cuts bytes others other → (some ≡ others) × (end ≡ other)
  pub faults : (bytes : List ℕ) (one other : Refusal) → FaultsAt bytes one → FaultsAt bytes other → one ≡ other
  pub either : (bytes : List ℕ) (tokens : List Token) (end : Place) (refusal : Refusal) → Cuts bytes tokens end → FaultsAt bytes refusal → ⊥

-- the token is what stands at its span
pub record Stands (bytes : List ℕ) (token : Token) : Type 0 where
  pub some : token.from < token.to
  pub within : token.to ≤ length bytes
  pub is : IsToken token.kind (slice_range bytes token.from token.to) (drop token.to bytes)
  pub placed : token.place ≡ place_after (take token.from bytes)

-- each stands in the text, from an offset on, and none before the end of the one in front of it
abbrev pub StandInOrder : List ℕ → ℕ → List Token → Type 0
StandInOrder bytes from [] = Unit {0}
StandInOrder bytes from (token ∷ tokens) = (from ≤ token.from) × Stands bytes token × StandInOrder bytes token.to tokens
