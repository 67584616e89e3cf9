-- Tokens in order.
use Rattle.std.proofs.Common.{◌<◌, ◌≤◌, ◌+◌, ℕ, suc, zero, List, [], ◌∷◌, length, get_or, ap, length-append, arith}
use Rattle.syntax_tokens.specs.declared.token.Token.{Token}
use Rattle.syntax_tokens.specs.declared.token.TokenKind.{TokenKind}
use Rattle.syntax_tokens.specs.declared.token.TokenKind.TheVariants as kind
use Rattle.syntax_tokens.specs.Cutting.{Stands, StandInOrder}
use Rattle.syntax_tokens.specs.Piece.{IsToken}
use Rattle.syntax_tokens.specs.Says.{CanSay}

pub order-count : (bytes : List ℕ) (from : ℕ) (tokens : List Token) → from ≤ length bytes → StandInOrder bytes from tokens → from + length tokens ≤ length bytes
order-count bytes from [] within order = omega arith
order-count bytes from (token ∷ tokens) within order =
    omega (arith, order.0, order.1.some, order-count bytes token.to tokens order.1.within order.2)

-- each of them stands in the text
pub order-stands : (bytes : List ℕ) (from : ℕ) (tokens : List Token) (i : ℕ) (d : Token) → i < length tokens → StandInOrder bytes from tokens → Stands bytes (get_or tokens i d)
order-stands bytes from [] i d within order = absurd (omega (arith, within))
order-stands bytes from (token ∷ tokens) zero d within order = order.1
order-stands bytes from (token ∷ tokens) (suc i) d within order = order-stands bytes token.to tokens i d (omega (arith, within)) order.2

pub can_say : (kind : TokenKind) (text rest : List ℕ) → IsToken kind text rest → CanSay kind text
can_say kind.Name text rest is = tt
can_say (kind.Keyword k) text rest is = tt
can_say kind.Int text rest is = is.2
can_say kind.Text text rest (inside, spelled, _, _) = omega (arith, ap length spelled, length-append inside (34 ∷ []))
can_say (kind.Symbol s) text rest is = tt
