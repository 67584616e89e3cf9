-- The tokens of a text stand in it in order.
use Rattle.std.proofs.Common.{◌≡◌, ◌<◌, ◌≤◌, ◌+◌, ◌-◌, ℕ, List, [], ◌∷◌, ◌++◌, length, take, drop, Some, None, sym, subst, refl, ap, ◌∙◌, arith, append_assoc, lit<}
use Rattle.std.specs.List.{slice_range}
use Rattle.std.proofs.lemmas.List.{append-nil, length-append, take_at, drop_at}
use Rattle.lang_base.specs.declared.place.Place.{Place}
use Rattle.syntax_tokens.specs.declared.token.Token.{Token}
use Rattle.syntax_tokens.specs.declared.token.TokenKind.{TokenKind}
use Rattle.syntax_tokens.specs.declared.token.TokenKind.TheVariants as kind
use Rattle.syntax_tokens.specs.declared.token.Keyword.{Keyword}
use Rattle.syntax_tokens.specs.declared.token.Keyword.TheVariants as keyword
use Rattle.syntax_tokens.specs.Cutting.{Pieces, text_of, StandBefore, tokens_of, Cuts, Stands, StandInOrder}
use Rattle.syntax_tokens.specs.Piece.{IsToken}
use Rattle.syntax_tokens.specs.Place.{place_after}
use Rattle.syntax_tokens.specs.Spelling.{keyword_text}
use Rattle.syntax_tokens.proofs.Tables.{symbol-some}

keyword-some : (k : Keyword) → 0 < length (keyword_text k)
keyword-some k = elim k as (λ k. 0 < length (keyword_text k)) [ keyword.Class ↦ lit< tt | _ ↦ lit< tt ]

-- no token is empty
token-some : (kind : TokenKind) (text rest : List ℕ) → IsToken kind text rest → 0 < length text
token-some kind.Name [] rest is = absurd is.0.0
token-some kind.Name (b ∷ bs) rest is = omega arith
token-some (kind.Keyword k) text rest is = subst (λ t. 0 < length t) (sym is.0) (keyword-some k)
token-some kind.Int text rest is = is.0.0
token-some kind.Text text rest (inside, spelled, _, _) = subst (λ t. 0 < length t) (sym spelled) (omega arith)
token-some (kind.Symbol s) text rest is = subst (λ t. 0 < length t) (sym is.0) (symbol-some s)

-- they stand after any offset that isn't after the first
order-weaken : (bytes : List ℕ) (low high : ℕ) (tokens : List Token) → low ≤ high → StandInOrder bytes high tokens → StandInOrder bytes low tokens
order-weaken bytes low high [] le order = tt
order-weaken bytes low high (token ∷ tokens) le order = (omega (arith, order.0), order.1, order.2)

token-stands : (bytes front text rest : List ℕ) (kind : TokenKind) → bytes ≡ front ++ (text ++ rest) → IsToken kind text rest → Stands bytes (record { kind = kind; from = length front; to = length front + length text; place = place_after front })
token-stands bytes front text rest kind whole is =
    let n = length front in
    let m = length text in
    let together : bytes ≡ (front ++ text) ++ rest = whole ∙ sym (append_assoc front text rest) in
    let size : length (front ++ text) ≡ n + m = length-append front text in
    let following : drop (n + m) bytes ≡ rest = ap (drop (n + m)) together ∙ drop_at (front ++ text) rest (n + m) size in
    let from : drop n bytes ≡ text ++ rest = ap (drop n) whole ∙ drop_at front (text ++ rest) n refl in
    let slice : slice_range bytes n (n + m) ≡ text = ap (take (n + m - n)) from ∙ take_at text rest (n + m - n) (omega arith) in
    let before : take n bytes ≡ front = ap (take n) whole ∙ take_at front (text ++ rest) n refl in
    let P : List ℕ → Type 0 = λ t. IsToken kind t (drop (n + m) bytes) in
    let Q : List ℕ → Type 0 = λ t. IsToken kind text t in
    let some = token-some kind text rest is in
    record {
      some = omega arith;
      within = omega (arith, ap length together, length-append (front ++ text) rest);
      is = subst P (sym slice) (subst Q (sym following) is);
      placed = ap place_after (sym before);
    }

pieces-stand : (bytes front left : List ℕ) (pieces : Pieces) → bytes ≡ front ++ (text_of pieces ++ left) → StandBefore left pieces → StandInOrder bytes (length front) (tokens_of front pieces)
pieces-stand bytes front left [] whole each = tt
pieces-stand bytes front left ((None, text) ∷ pieces) whole each =
    let longer : bytes ≡ (front ++ text) ++ (text_of pieces ++ left) = whole ∙ ap (λ bs. front ++ bs) (append_assoc text (text_of pieces) left) ∙ sym (append_assoc front text (text_of pieces ++ left)) in
    order-weaken bytes (length front) (length (front ++ text)) (tokens_of (front ++ text) pieces) (omega (arith, length-append front text)) (pieces-stand bytes (front ++ text) left pieces longer each.1)
pieces-stand bytes front left ((Some kind, text) ∷ pieces) whole each =
    let regrouped : bytes ≡ front ++ (text ++ (text_of pieces ++ left)) = whole ∙ ap (λ bs. front ++ bs) (append_assoc text (text_of pieces) left) in
    let longer : bytes ≡ (front ++ text) ++ (text_of pieces ++ left) = regrouped ∙ sym (append_assoc front text (text_of pieces ++ left)) in
    let P : ℕ → Type 0 = λ n. StandInOrder bytes n (tokens_of (front ++ text) pieces) in
    (omega arith, token-stands bytes front text (text_of pieces ++ left) kind regrouped each.0, subst P (length-append front text) (pieces-stand bytes (front ++ text) left pieces longer each.1))

pub cuts-stand : (bytes : List ℕ) (tokens : List Token) (end : Place) → Cuts bytes tokens end → StandInOrder bytes 0 tokens
cuts-stand bytes tokens end cut = subst (λ ts. StandInOrder bytes 0 ts) (sym cut.reported) (pieces-stand bytes [] [] cut.pieces (cut.whole ∙ sym (append-nil (text_of cut.pieces))) cut.each)
