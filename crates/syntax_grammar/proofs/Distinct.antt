-- The names of a text are distinct.
use Rattle.std.proofs.Common.{◌≡◌, ◌||◌, ℕ, Bool, true, false, cond, List, [], ◌∷◌, ◌++◌, refl, sym}
use Rattle.std.specs.List.{AllByRecursion, IsDistinct, list_any}
use Rattle.std.specs.Str.{bytes_eq}
use Rattle.std.proofs.lemmas.Slice.Eq.{bytes_eq-Decides}
use Rattle.syntax_tokens.specs.declared.token.Token.{Token}
use Rattle.syntax_tokens.specs.declared.token.TokenKind.{TokenKind}
use Rattle.syntax_tokens.specs.declared.token.TokenKind.TheVariants as kind
use Rattle.syntax_tokens.specs.Says.{token_text, with_token, names_with, distinct_names}

abbrev Differ : List ℕ → List (List ℕ) → Type 0
Differ name names = AllByRecursion (λ other. bytes_eq name other ≡ false) names

-- two tests of the same names agree
turned : (x y : List ℕ) (b : Bool) → bytes_eq y x ≡ b → bytes_eq x y ≡ false → bytes_eq y x ≡ false
turned x y false e h = e
turned x y true e h =
    let same : y ≡ x = (bytes_eq-Decides y x).0 e in
    let t : bytes_eq x y ≡ true = (bytes_eq-Decides x y).1 (sym same) in
    cc

differ_more : (one name : List ℕ) (names : List (List ℕ)) → Differ one names → bytes_eq one name ≡ false → Differ one (names ++ name ∷ [])
differ_more one name [] all new = (new, tt)
differ_more one name (other ∷ names) all new = (all.0, differ_more one name names all.1 new)

first_differs : (first rest : Bool) → (first || rest) ≡ false → first ≡ false
first_differs false rest e = refl
first_differs true rest e = cc

rest_differs : (first rest : Bool) → (first || rest) ≡ false → rest ≡ false
rest_differs false rest e = e
rest_differs true rest e = cc

distinct_more : (name : List ℕ) (names : List (List ℕ)) → IsDistinct bytes_eq names → list_any (bytes_eq name) names ≡ false → IsDistinct bytes_eq (names ++ name ∷ [])
unfolding IsDistinct
distinct_more name [] distinct new = (tt, tt)
distinct_more name (one ∷ names) distinct new = (
  differ_more one name names distinct.0 (turned name one (bytes_eq one name) refl (first_differs (bytes_eq name one) (list_any (bytes_eq name) names) new)),
  distinct_more name names distinct.1 (rest_differs (bytes_eq name one) (list_any (bytes_eq name) names) new),
)

distinct_chosen : (known : Bool) (name : List ℕ) (names : List (List ℕ)) → list_any (bytes_eq name) names ≡ known → IsDistinct bytes_eq names → IsDistinct bytes_eq (cond known names (names ++ name ∷ []))
distinct_chosen true name names e distinct = distinct
distinct_chosen false name names e distinct = distinct_more name names distinct e

distinct_with : (kind : TokenKind) (names : List (List ℕ)) (text : List ℕ) → IsDistinct bytes_eq names → IsDistinct bytes_eq (with_token kind names text)
distinct_with kind.Name names text distinct = distinct_chosen (list_any (bytes_eq text) names) text names refl distinct
distinct_with kind.Int names text distinct = distinct
distinct_with kind.Text names text distinct = distinct
distinct_with (kind.Symbol symbol) names text distinct = distinct
distinct_with (kind.Keyword keyword) names text distinct = distinct

distinct_further : (bytes : List ℕ) (names : List (List ℕ)) (tokens : List Token) → IsDistinct bytes_eq names → IsDistinct bytes_eq (names_with bytes names tokens)
distinct_further bytes names [] distinct = distinct
distinct_further bytes names (token ∷ tokens) distinct =
    distinct_further bytes (with_token token.kind names (token_text bytes token)) tokens (distinct_with token.kind names (token_text bytes token) distinct)

none_distinct : IsDistinct bytes_eq []
unfolding IsDistinct
none_distinct = tt

pub all_distinct : (bytes : List ℕ) (tokens : List Token) → IsDistinct bytes_eq (distinct_names bytes tokens)
all_distinct bytes tokens = distinct_further bytes [] tokens none_distinct
