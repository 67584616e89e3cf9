-- Tokens say one list of terminals, since the names of a text are distinct.
use Rattle.std.proofs.Common.{◌≡◌, ◌∙◌, ℕ, zero, suc, List, [], ◌∷◌, ◌++◌, length, ◌⊎◌, inl, inr, Bool, true, false, cond, Some, slice_get, pos, refl, sym, ap, subst}
use Rattle.std.specs.List.{list_any}
use Rattle.std.specs.Str.{bytes_eq}
use Rattle.std.proofs.lemmas.Slice.Eq.{bytes_eq-Decides}
use Rattle.lang_base.specs.declared.place.Place.{Place}
use Rattle.lang_base.specs.Lexical.{decimal_value}
use Rattle.syntax_tokens.specs.declared.token.Symbol.{Symbol}
use Rattle.syntax_tokens.specs.declared.token.Keyword.{Keyword}
use Rattle.syntax_tokens.specs.declared.token.Token.{Token}
use Rattle.syntax_tokens.specs.declared.token.TokenKind.{TokenKind}
use Rattle.syntax_tokens.specs.declared.token.TokenKind.TheVariants as kind
use Rattle.syntax_tokens.specs.declared.terminal.Placed.{Placed}
use Rattle.syntax_tokens.specs.declared.terminal.Terminal.{Terminal}
use Rattle.syntax_tokens.specs.declared.terminal.Terminal.TheVariants as terminal
use Rattle.syntax_tokens.specs.Says.{with_token, names_with, distinct_names, token_text, unescaped_bytes, inside_of, Means, MeanAll}
use Rattle.syntax_tree.specs.declared.class.Class.{Class}
use Rattle.syntax_tree.specs.declared.class.Program.{Program}
use Rattle.syntax_grammar.specs.Classes.{DerivesProgram}
use Rattle.syntax_grammar.specs.Program.{IsProgram}
use Rattle.syntax_grammar.proofs.once.OnceReader.{or_left, or_right}
use Rattle.syntax_grammar.proofs.once.OnceClasses.{one_program}

-- each name has one position
record Distinct (names : List (List ℕ)) : Type 0 where
  once : (i j : ℕ) (text : List ℕ) → slice_get names i ≡ Some text → slice_get names j ≡ Some text → i ≡ j

last_or_before : (names : List (List ℕ)) (name text : List ℕ) (i : ℕ) → slice_get (names ++ name ∷ []) i ≡ Some text → (slice_get names i ≡ Some text) ⊎ ((i ≡ length names) × (text ≡ name))
last_or_before [] name text zero e = inr (refl, cc)
last_or_before [] name text (suc i) e = absurd cc
last_or_before (x ∷ names) name text zero e = inl e
last_or_before (x ∷ names) name text (suc i) e = elim (last_or_before names name text i e) [ inl h ↦ inl h | inr h ↦ inr (ap suc h.0, h.1) ]

absent : (names : List (List ℕ)) (name : List ℕ) (i : ℕ) → list_any (bytes_eq name) names ≡ false → slice_get names i ≡ Some name → ⊥
absent [] name i none e = cc
absent (x ∷ names) name zero none e =
    let same : x ≡ name = cc in
    let found = (bytes_eq-Decides name x).1 (sym same) in
    let not_found = or_left (bytes_eq name x) (list_any (bytes_eq name) names) none in
    cc
absent (x ∷ names) name (suc i) none e = absent names name i (or_right (bytes_eq name x) (list_any (bytes_eq name) names) none) e

both : (names : List (List ℕ)) (name : List ℕ) → list_any (bytes_eq name) names ≡ false → Distinct names → (i j : ℕ) (text : List ℕ) →
    (slice_get names i ≡ Some text) ⊎ ((i ≡ length names) × (text ≡ name)) → (slice_get names j ≡ Some text) ⊎ ((j ≡ length names) × (text ≡ name)) → i ≡ j
both names name none d i j text (inl a) (inl b) = d.once i j text a b
both names name none d i j text (inl a) (inr b) = absurd (absent names name i none (a ∙ ap (λ (x : List ℕ). Some x) b.1))
both names name none d i j text (inr a) (inl b) = absurd (absent names name j none (b ∙ ap (λ (x : List ℕ). Some x) a.1))
both names name none d i j text (inr a) (inr b) = a.0 ∙ sym b.0

chosen_distinct : (found : Bool) (names : List (List ℕ)) (name : List ℕ) → list_any (bytes_eq name) names ≡ found → Distinct names → Distinct (cond found names (names ++ name ∷ []))
chosen_distinct true names name e d = d
chosen_distinct false names name e d = record { once = λ i j text a b. both names name e d i j text (last_or_before names name text i a) (last_or_before names name text j b) }

token_distinct : (of : TokenKind) (names : List (List ℕ)) (text : List ℕ) → Distinct names → Distinct (with_token of names text)
token_distinct kind.Name names text d = chosen_distinct (list_any (bytes_eq text) names) names text refl d
token_distinct kind.Int names text d = d
token_distinct kind.Text names text d = d
token_distinct (kind.Symbol symbol) names text d = d
token_distinct (kind.Keyword keyword) names text d = d

all_distinct : (bytes : List ℕ) (names : List (List ℕ)) (tokens : List Token) → Distinct names → Distinct (names_with bytes names tokens)
all_distinct bytes names [] d = d
all_distinct bytes names (token ∷ tokens) d = all_distinct bytes (with_token token.kind names (token_text bytes token)) tokens (token_distinct token.kind names (token_text bytes token) d)

-- a token means one terminal
name_said : (names : List (List ℕ)) (text : List ℕ) (t : Terminal) → Means names kind.Name text t → (n : ℕ) × (t ≡ terminal.Name n) × (slice_get names n ≡ Some text)
name_said names text (terminal.Name n) m = (n, refl, m)
name_said names text _ m = absurd m

int_said : (names : List (List ℕ)) (text : List ℕ) (t : Terminal) → Means names kind.Int text t → t ≡ terminal.Int (pos (decimal_value text))
int_said names text (terminal.Int n) m = cc
int_said names text _ m = absurd m

text_said : (names : List (List ℕ)) (text : List ℕ) (t : Terminal) → Means names kind.Text text t → t ≡ terminal.Text (unescaped_bytes (inside_of text))
text_said names text (terminal.Text inside) m = ap (λ (x : List ℕ). terminal.Text x) m
text_said names text _ m = absurd m

symbol_said : (names : List (List ℕ)) (text : List ℕ) (symbol : Symbol) (t : Terminal) → Means names (kind.Symbol symbol) text t → t ≡ terminal.Symbol symbol
symbol_said names text symbol (terminal.Symbol said) m = ap (λ (x : Symbol). terminal.Symbol x) m
symbol_said names text symbol _ m = absurd m

keyword_said : (names : List (List ℕ)) (text : List ℕ) (keyword : Keyword) (t : Terminal) → Means names (kind.Keyword keyword) text t → t ≡ terminal.Keyword keyword
keyword_said names text keyword (terminal.Keyword said) m = ap (λ (x : Keyword). terminal.Keyword x) m
keyword_said names text keyword _ m = absurd m

means_once : (names : List (List ℕ)) → Distinct names → (of : TokenKind) (text : List ℕ) (left right : Terminal) → Means names of text left → Means names of text right → left ≡ right
means_once names d kind.Name text left right l r =
    let p = name_said names text left l in
    let q = name_said names text right r in
    p.1 ∙ ap (λ (n : ℕ). terminal.Name n) (d.once p.0 q.0 text p.2 q.2) ∙ sym q.1
means_once names d kind.Int text left right l r = int_said names text left l ∙ sym (int_said names text right r)
means_once names d kind.Text text left right l r = text_said names text left l ∙ sym (text_said names text right r)
means_once names d (kind.Symbol symbol) text left right l r = symbol_said names text symbol left l ∙ sym (symbol_said names text symbol right r)
means_once names d (kind.Keyword keyword) text left right l r = keyword_said names text keyword left l ∙ sym (keyword_said names text keyword right r)

same_first : (a b : Placed) (left right : List Placed) → a.terminal ≡ b.terminal → a.place ≡ b.place → left ≡ right → a ∷ left ≡ b ∷ right
same_first a b left right t p e =
    ap (λ (x : Terminal). record { terminal = x; place = a.place } ∷ left) t ∙ ap (λ (x : Place). record { terminal = b.terminal; place = x } ∷ left) p ∙ ap (λ (x : List Placed). b ∷ x) e

mean_all_once : (names : List (List ℕ)) → Distinct names → (bytes : List ℕ) (tokens : List Token) (left right : List Placed) → MeanAll names bytes tokens left → MeanAll names bytes tokens right → left ≡ right
mean_all_once names d bytes [] [] [] l r = refl
mean_all_once names d bytes [] [] (b ∷ right) l r = absurd r
mean_all_once names d bytes [] (a ∷ left) right l r = absurd l
mean_all_once names d bytes (token ∷ tokens) [] right l r = absurd l
mean_all_once names d bytes (token ∷ tokens) (a ∷ left) [] l r = absurd r
mean_all_once names d bytes (token ∷ tokens) (a ∷ left) (b ∷ right) l r =
    same_first a b left right (means_once names d token.kind (token_text bytes token) a.terminal b.terminal l.1 r.1) (l.0 ∙ sym r.0) (mean_all_once names d bytes tokens left right l.2 r.2)

-- the tokens of a text say one list of terminals at most
pub terminals_once : (bytes : List ℕ) (tokens : List Token) (left right : List Placed) → MeanAll (distinct_names bytes tokens) bytes tokens left →
    MeanAll (distinct_names bytes tokens) bytes tokens right → left ≡ right
terminals_once bytes tokens left right l r =
    mean_all_once (distinct_names bytes tokens) (all_distinct bytes [] tokens (record { once = λ i j text a b. absurd cc })) bytes tokens left right l r

pub text_once : (bytes : List ℕ) (tokens : List Token) (left right : Program) → IsProgram bytes tokens left → IsProgram bytes tokens right →
    left ≡ right
text_once bytes tokens left right l r =
    let said = subst (λ (n : List (List ℕ)). MeanAll n bytes tokens l.list) l.names l.said in
    let said_too = subst (λ (n : List (List ℕ)). MeanAll n bytes tokens r.list) r.names r.said in
    let same = terminals_once bytes tokens l.list r.list said said_too in
    let names_same : left.names ≡ right.names = l.names ∙ sym r.names in
    let classes_same : left.classes ≡ right.classes = one_program r.list left.classes right.classes (subst (λ (list : List Placed). DerivesProgram list left.classes) same l.derived) r.derived in
    ap (λ (n : List (List ℕ)). record { classes = left.classes; names = n }) names_same ∙ ap (λ (c : List Class). record { classes = c; names = right.names }) classes_same
