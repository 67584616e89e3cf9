-- Any tokens say a list of terminals.
use Rattle.std.proofs.Common.{◌≡◌, ◌≤◌, ◌+◌, ◌||◌, ℕ, zero, suc, Bool, true, false, cond, List, [], ◌∷◌, ◌++◌, length, take, drop, get_or, slice_get, Some, inl, inr, refl, ap, sym, subst, ◌∙◌, arith}
use Rattle.std.specs.List.{list_any}
use Rattle.std.specs.Prelude.{pos}
use Rattle.std.specs.Str.{bytes_eq}
use Rattle.std.proofs.lemmas.Bool.{cases_Bool, cases_lt, false≢true}
use Rattle.std.proofs.lemmas.List.{take_all, drop_all}
use Rattle.std.proofs.lemmas.Slice.Eq.{bytes_eq-Decides}
use Rattle.lang_base.specs.Lexical.{decimal_value}
use Rattle.syntax_tokens.specs.declared.token.Token.{Token}
use Rattle.syntax_tokens.specs.declared.token.TokenKind.{TokenKind}
use Rattle.syntax_tokens.specs.declared.token.TokenKind.TheVariants as kind
use Rattle.syntax_tokens.specs.Place.{first_place}
use Rattle.syntax_tokens.specs.declared.terminal.Placed.{Placed}
use Rattle.syntax_tokens.specs.declared.terminal.Terminal.{Terminal}
use Rattle.syntax_tokens.specs.declared.terminal.Terminal.TheVariants as terminal
use Rattle.syntax_tokens.specs.Says.{unescaped_bytes, inside_of, token_text, with_name, with_token, names_with, distinct_names, Means, MeanAll}
use Rattle.syntax_tokens.proofs.Meaning.{turn-said, turn-noted}

-- a name that is there has a position
name_there : (names : List (List ℕ)) (text : List ℕ) → list_any (bytes_eq text) names ≡ true → (at : ℕ) × (slice_get names at ≡ Some text)
name_there [] text found = absurd (false≢true found)
name_there (name ∷ names) text found = elim (cases_Bool (bytes_eq text name)) [
  | inl here ↦ (0, ap (λ one. Some one) (sym ((bytes_eq-Decides text name).0 here)))
  | inr other ↦
      let following = name_there names text (ap (λ b. b || list_any (bytes_eq text) names) (sym other) ∙ found) in
      (suc following.0, following.1)
]

-- and so has one that goes last
name_last : (names : List (List ℕ)) (text : List ℕ) → slice_get (names ++ text ∷ []) (length names) ≡ Some text
name_last [] text = refl
name_last (name ∷ names) text = name_last names text

named_by : (names : List (List ℕ)) (text : List ℕ) (known : Bool) → list_any (bytes_eq text) names ≡ known → (at : ℕ) × (slice_get (cond known names (names ++ text ∷ [])) at ≡ Some text)
named_by names text true is = name_there names text is
named_by names text false is = (length names, name_last names text)

named : (names : List (List ℕ)) (text : List ℕ) → (at : ℕ) × (slice_get (with_name names text) at ≡ Some text)
named names text = named_by names text (list_any (bytes_eq text) names) refl

-- what one token says
one_said : (form : TokenKind) (names : List (List ℕ)) (text : List ℕ) → (said : Terminal) × Means (with_token form names text) form text said
one_said kind.Name names text = let at = named names text in (terminal.Name at.0, at.1)
one_said kind.Int names text = (terminal.Int (pos (decimal_value text)), refl)
one_said kind.Text names text = (terminal.Text (unescaped_bytes (inside_of text)), refl)
one_said (kind.Symbol symbol) names text = (terminal.Symbol symbol, refl)
one_said (kind.Keyword keyword) names text = (terminal.Keyword keyword, refl)

any_token : Token
any_token = record { kind = kind.Name; from = 0; to = 0; place = first_place }

-- what the tokens of a text say
pub record Said (bytes : List ℕ) (tokens : List Token) : Type 0 where
  pub list : List Placed
  pub means : MeanAll (distinct_names bytes tokens) bytes tokens list

all_read : (bytes : List ℕ) (tokens : List Token) (at : ℕ) (names : List (List ℕ)) (list : List Placed) → length tokens ≤ at
    → names_with bytes names (drop at tokens) ≡ distinct_names bytes tokens → MeanAll names bytes (take at tokens) list → Said bytes tokens
all_read bytes tokens at names list all noted said =
    let known : names ≡ distinct_names bytes tokens = ap (names_with bytes names) (sym (drop_all at tokens all)) ∙ noted in
    record {
      list = list;
      means = subst (λ ns. MeanAll ns bytes tokens list) known (subst (λ read. MeanAll names bytes read list) (take_all at tokens all) said);
    }

-- so many tokens are left at most
said_on : (n : ℕ) (bytes : List ℕ) (tokens : List Token) (at : ℕ) (names : List (List ℕ)) (list : List Placed) → length tokens ≤ at + n
    → names_with bytes names (drop at tokens) ≡ distinct_names bytes tokens → MeanAll names bytes (take at tokens) list → Said bytes tokens
said_on zero bytes tokens at names list enough noted said = all_read bytes tokens at names list (omega arith) noted said
said_on (suc n) bytes tokens at names list enough noted said = elim (cases_lt at (length tokens)) [
  | inr all ↦ all_read bytes tokens at names list all noted said
  | inl more ↦
      let token = get_or tokens at any_token in
      let text = token_text bytes token in
      let next = one_said token.kind names text in
      let placed : Placed = record { terminal = next.0; place = token.place } in
      let known = with_token token.kind names text in
      said_on n bytes tokens (at + 1) known (list ++ placed ∷ []) (omega arith)
      (turn-noted names known bytes text tokens at any_token (distinct_names bytes tokens) more refl refl noted)
      (turn-said names known bytes text tokens list (list ++ placed ∷ []) at any_token placed more refl refl next.1 refl refl said)
]

pub said_in : (bytes : List ℕ) (tokens : List Token) → Said bytes tokens
said_in bytes tokens = said_on (length tokens) bytes tokens 0 [] [] (omega arith) refl tt
