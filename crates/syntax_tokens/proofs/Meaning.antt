-- What terminals say stays so while names are added.
use Rattle.std.proofs.Common.{◌≡◌, ◌∙◌, ◌+◌, ◌<◌, ◌++◌, ℕ, suc, zero, Bool, true, false, cond, List, [], ◌∷◌, length, take, drop, get_or, slice_get, Some, refl, ap, sym, subst, arith}
use Rattle.std.specs.List.{list_any}
use Rattle.std.specs.Str.{bytes_eq}
use Rattle.syntax_tokens.specs.declared.token.Token.{Token}
use Rattle.syntax_tokens.specs.declared.token.TokenKind.{TokenKind}
use Rattle.syntax_tokens.specs.declared.token.TokenKind.TheVariants as kind
use Rattle.syntax_tokens.specs.declared.terminal.Terminal.{Terminal}
use Rattle.syntax_tokens.specs.declared.terminal.Terminal.TheVariants as terminal
use Rattle.syntax_tokens.specs.declared.terminal.Placed.{Placed}
use Rattle.syntax_tokens.specs.Says.{token_text, with_token, names_with, Means, MeanAll}

get-kept : (names more : List (List ℕ)) (at : ℕ) (name : List ℕ) → slice_get names at ≡ Some name → slice_get (names ++ more) at ≡ Some name
get-kept [] more at name is = cc
get-kept (x ∷ names) more zero name is = is
get-kept (x ∷ names) more (suc at) name is = get-kept names more at name is

chosen-kept : (new : Bool) (names : List (List ℕ)) (added : List ℕ) (at : ℕ) (name : List ℕ) → slice_get names at ≡ Some name → slice_get (cond new names (names ++ added ∷ [])) at ≡ Some name
chosen-kept true names added at name is = is
chosen-kept false names added at name is = get-kept names (added ∷ []) at name is

place-kept : (kind : TokenKind) (names : List (List ℕ)) (text : List ℕ) (at : ℕ) (name : List ℕ) → slice_get names at ≡ Some name → slice_get (with_token kind names text) at ≡ Some name
place-kept kind.Name names text at name is = chosen-kept (list_any (bytes_eq text) names) names text at name is
place-kept kind.Int names text at name is = is
place-kept kind.Text names text at name is = is
place-kept (kind.Symbol s) names text at name is = is
place-kept (kind.Keyword k) names text at name is = is

means-kept : (added kind : TokenKind) (names : List (List ℕ)) (new text : List ℕ) (said : Terminal) → Means names kind text said → Means (with_token added names new) kind text said
means-kept added kind.Name names new text (terminal.Name number) is = place-kept added names new number text is
means-kept added kind.Name names new text (terminal.Int n) is = absurd is
means-kept added kind.Name names new text (terminal.Text n) is = absurd is
means-kept added kind.Name names new text (terminal.Symbol n) is = absurd is
means-kept added kind.Name names new text (terminal.Keyword n) is = absurd is
means-kept added kind.Int names new text (terminal.Int n) is = is
means-kept added kind.Int names new text (terminal.Name n) is = absurd is
means-kept added kind.Int names new text (terminal.Text n) is = absurd is
means-kept added kind.Int names new text (terminal.Symbol n) is = absurd is
means-kept added kind.Int names new text (terminal.Keyword n) is = absurd is
means-kept added kind.Text names new text (terminal.Text n) is = is
means-kept added kind.Text names new text (terminal.Name n) is = absurd is
means-kept added kind.Text names new text (terminal.Int n) is = absurd is
means-kept added kind.Text names new text (terminal.Symbol n) is = absurd is
means-kept added kind.Text names new text (terminal.Keyword n) is = absurd is
means-kept added (kind.Symbol s) names new text (terminal.Symbol n) is = is
means-kept added (kind.Symbol s) names new text (terminal.Name n) is = absurd is
means-kept added (kind.Symbol s) names new text (terminal.Int n) is = absurd is
means-kept added (kind.Symbol s) names new text (terminal.Text n) is = absurd is
means-kept added (kind.Symbol s) names new text (terminal.Keyword n) is = absurd is
means-kept added (kind.Keyword k) names new text (terminal.Keyword n) is = is
means-kept added (kind.Keyword k) names new text (terminal.Name n) is = absurd is
means-kept added (kind.Keyword k) names new text (terminal.Int n) is = absurd is
means-kept added (kind.Keyword k) names new text (terminal.Text n) is = absurd is
means-kept added (kind.Keyword k) names new text (terminal.Symbol n) is = absurd is

all-kept : (added : TokenKind) (names : List (List ℕ)) (new bytes : List ℕ) (tokens : List Token) (list : List Placed) → MeanAll names bytes tokens list → MeanAll (with_token added names new) bytes tokens list
all-kept added names new bytes [] [] all = tt
all-kept added names new bytes [] (said ∷ list) all = absurd all
all-kept added names new bytes (token ∷ tokens) [] all = absurd all
all-kept added names new bytes (token ∷ tokens) (said ∷ list) (place, means, all) =
    (place, means-kept added token.kind names new _ said.terminal means, all-kept added names new bytes tokens list all)

all-following : (names : List (List ℕ)) (bytes : List ℕ) (tokens : List Token) (list : List Placed) (token : Token) (said : Placed)
    → MeanAll names bytes tokens list → said.place ≡ token.place → Means names token.kind (token_text bytes token) said.terminal
    → MeanAll names bytes (tokens ++ token ∷ []) (list ++ said ∷ [])
all-following names bytes [] [] token said all place means = (place, means, tt)
all-following names bytes [] (other ∷ list) token said all place means = absurd all
all-following names bytes (other ∷ tokens) [] token said all place means = absurd all
all-following names bytes (other ∷ tokens) (first ∷ list) token said (at, is, all) place means =
    (at, is, all-following names bytes tokens list token said all place means)

take-next : (tokens : List Token) (i : ℕ) (d : Token) → i < length tokens → take (suc i) tokens ≡ take i tokens ++ get_or tokens i d ∷ []
take-next [] i d within = absurd (omega (arith, within))
take-next (token ∷ tokens) zero d within = refl
take-next (token ∷ tokens) (suc i) d within = ap (λ rest. token ∷ rest) (take-next tokens i d (omega (arith, within)))

-- one token more, with what it says
pub all-next : (names : List (List ℕ)) (bytes : List ℕ) (tokens : List Token) (list : List Placed) (i : ℕ) (d : Token) (said : Placed) → i < length tokens
    → MeanAll names bytes (take i tokens) list
    → said.place ≡ (get_or tokens i d).place
    → Means (with_token (get_or tokens i d).kind names (token_text bytes (get_or tokens i d))) (get_or tokens i d).kind (token_text bytes (get_or tokens i d)) said.terminal
    → MeanAll (with_token (get_or tokens i d).kind names (token_text bytes (get_or tokens i d))) bytes (take (suc i) tokens) (list ++ said ∷ [])
all-next names bytes tokens list i d said within all place means =
    let Q : List Token → Type 0 = λ read. MeanAll (with_token (get_or tokens i d).kind names (token_text bytes (get_or tokens i d))) bytes read (list ++ said ∷ []) in
    subst Q (sym (take-next tokens i d within))
    (all-following _ bytes (take i tokens) list (get_or tokens i d) said (all-kept _ names _ bytes (take i tokens) list all) place means)

-- the names with those of the tokens from here on are those with this token's and with the next ones'
pub names-next : (names : List (List ℕ)) (bytes : List ℕ) (tokens : List Token) (i : ℕ) (d : Token) → i < length tokens
    → names_with bytes names (drop i tokens) ≡ names_with bytes (with_token (get_or tokens i d).kind names (token_text bytes (get_or tokens i d))) (drop (suc i) tokens)
names-next names bytes [] i d within = absurd (omega (arith, within))
names-next names bytes (token ∷ tokens) zero d within = refl
names-next names bytes (token ∷ tokens) (suc i) d within = names-next names bytes tokens i d (omega (arith, within))

-- one turn of the reading of tokens
pub turn-said : (names names' : List (List ℕ)) (bytes text : List ℕ) (tokens : List Token) (list list' : List Placed) (i : ℕ) (d : Token) (said : Placed) → i < length tokens
    → text ≡ token_text bytes (get_or tokens i d)
    → names' ≡ with_token (get_or tokens i d).kind names text
    → Means names' (get_or tokens i d).kind text said.terminal
    → said.place ≡ (get_or tokens i d).place
    → list' ≡ list ++ said ∷ []
    → MeanAll names bytes (take i tokens) list
    → MeanAll names' bytes (take (i + 1) tokens) list'
turn-said names names' bytes text tokens list list' i d said within is_text noted means place pushed all =
    let kind : TokenKind = (get_or tokens i d).kind in
    let own : List ℕ = token_text bytes (get_or tokens i d) in
    let now : names' ≡ with_token kind names own = noted ∙ ap (with_token kind names) is_text in
    let Says : List ℕ → Type 0 = λ text. Means names' kind text said.terminal in
    let SaysIn : List (List ℕ) → Type 0 = λ known. Means known kind own said.terminal in
    let one : i + 1 ≡ suc i = omega arith in
    let In : List (List ℕ) → Type 0 = λ known. MeanAll known bytes (take (i + 1) tokens) list' in
    let For : List Placed → Type 0 = λ read. MeanAll (with_token kind names own) bytes (take (i + 1) tokens) read in
    let UpTo : ℕ → Type 0 = λ n. MeanAll (with_token kind names own) bytes (take n tokens) (list ++ said ∷ []) in
    subst In (sym now) (subst For (sym pushed) (subst UpTo (sym one) (all-next names bytes tokens list i d said within all place (subst SaysIn now (subst Says is_text means)))))

pub turn-noted : (names names' : List (List ℕ)) (bytes text : List ℕ) (tokens : List Token) (i : ℕ) (d : Token) (whole : List (List ℕ)) → i < length tokens
    → text ≡ token_text bytes (get_or tokens i d)
    → names' ≡ with_token (get_or tokens i d).kind names text
    → names_with bytes names (drop i tokens) ≡ whole
    → names_with bytes names' (drop (i + 1) tokens) ≡ whole
turn-noted names names' bytes text tokens i d whole within is_text noted before =
    let kind : TokenKind = (get_or tokens i d).kind in
    let now : names' ≡ with_token kind names (token_text bytes (get_or tokens i d)) = noted ∙ ap (with_token kind names) is_text in
    let one : i + 1 ≡ suc i = omega arith in
    ap (λ known. names_with bytes known (drop (i + 1) tokens)) now ∙ ap (λ n. names_with bytes (with_token kind names (token_text bytes (get_or tokens i d))) (drop n tokens)) one ∙ sym (names-next names bytes tokens i d within) ∙ before
