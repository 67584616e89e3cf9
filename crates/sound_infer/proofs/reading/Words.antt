-- Each kind of word by itself: a name, a keyword, a sign of one byte, a number.
use Rattle.std.proofs.Common.{◌≡◌, ◌∙◌, ◌+◌, ◌-◌, ◌*◌, ◌≤◌, ◌≢◌, ℕ, zero, suc, Bool, true, false, List, [], ◌∷◌, length, nat_eq, slice_get, Some, refl, ap, sym, subst, arith, rules}
use Rattle.std.specs.Prelude.{◌&&◌, ◌||◌, pos}
use Rattle.std.specs.Fmt.{decimal}
use Rattle.std.specs.List.{AllByRecursion, fold, starts_with}
use Rattle.std.proofs.lemmas.Bool.{false≢true}
use Rattle.std.proofs.lemmas.Fmt.{decimal_digit, decimal_nonempty, digits_decimal, digits_value-decimal, first_decimal}
use Rattle.std.proofs.lemmas.Str.Parse.{IsNumeralModel, numerals_by_fold}
use Rattle.lang_base.specs.Lexical.{IsName, decimal_value, is_digit, is_letter, is_name_byte}
use Rattle.lang_base.specs.declared.place.Place.{Place}
use Rattle.syntax_tokens.specs.declared.token.Keyword.{Keyword}
use Rattle.syntax_tokens.specs.declared.token.Symbol.{Symbol}
use Rattle.syntax_tokens.specs.declared.token.Symbol.TheVariants as symbol
use Rattle.syntax_tokens.specs.declared.token.TokenKind.TheVariants as kind
use Rattle.syntax_tokens.specs.declared.terminal.Placed.{Placed}
use Rattle.syntax_tokens.specs.declared.terminal.Terminal.{Terminal}
use Rattle.syntax_tokens.specs.declared.terminal.Terminal.TheVariants as terminal
use Rattle.syntax_tokens.specs.Piece.{BeginsComment, HasLeadingZero, StopsAt}
use Rattle.syntax_tokens.specs.Spelling.{keyword_text, symbol_text}
use Rattle.sound_infer.proofs.reading.Parts.{Anything, EndsWord, Reads, a_word}

-- the terminal comes first
abbrev pub Comes : Terminal → List Placed → List Placed → Place → Type 0
Comes said before after place = before ≡ record { terminal = said; place = place } ∷ after

pub a_name : (names : List (List ℕ)) (number : ℕ) (text : List ℕ) → slice_get names number ≡ Some text → IsName text → Reads names EndsWord (Comes (terminal.Name number)) text
a_name names number text e is = a_word names EndsWord kind.Name text (terminal.Name number) (λ left ends. (is, ends)) e

pub a_keyword : (names : List (List ℕ)) (k : Keyword) → Reads names EndsWord (Comes (terminal.Keyword k)) (keyword_text k)
a_keyword names k = a_word names EndsWord (kind.Keyword k) (keyword_text k) (terminal.Keyword k) (λ left ends. (refl, ends)) refl

-- a byte that begins no longer symbol, and no comment
pub record Alone (b : ℕ) : Type 0 where
  pub less : nat_eq 60 b ≡ false
  pub greater : nat_eq 62 b ≡ false
  pub equal : nat_eq 61 b ≡ false
  pub not : nat_eq 33 b ≡ false
  pub and : nat_eq 38 b ≡ false
  pub or : nat_eq 124 b ≡ false
  pub slash : b ≢ 47

both_no : (a b : Bool) → a ≡ false → (a && b) ≡ true → ⊥
both_no a b e h = false≢true (sym (ap (λ t. t && b) e) ∙ h)

longest : (b : ℕ) (rest : List ℕ) → Alone b → (other : Symbol) → starts_with nat_eq (b ∷ rest) (symbol_text other) ≡ true → length (symbol_text other) ≤ 1
longest b rest alone other = elim other as (λ other. starts_with nat_eq (b ∷ rest) (symbol_text other) ≡ true → length (symbol_text other) ≤ 1) [
  | symbol.AtMost ↦ λ h. absurd (both_no _ _ alone.less h)
  | symbol.AtLeast ↦ λ h. absurd (both_no _ _ alone.greater h)
  | symbol.Equal ↦ λ h. absurd (both_no _ _ alone.equal h)
  | symbol.NotEqual ↦ λ h. absurd (both_no _ _ alone.not h)
  | symbol.And ↦ λ h. absurd (both_no _ _ alone.and h)
  | symbol.Or ↦ λ h. absurd (both_no _ _ alone.or h)
  | _ ↦ λ h. omega arith
]

no_comment : (b : ℕ) (rest : List ℕ) → b ≢ 47 → ¬ (BeginsComment (b ∷ rest))
no_comment b [] other begins = begins
no_comment b (c ∷ rest) other begins = other begins.0

-- a symbol of such a byte stands before anything
pub a_sign : (names : List (List ℕ)) (s : Symbol) (b : ℕ) → symbol_text s ≡ b ∷ [] → Alone b → Reads names Anything (Comes (terminal.Symbol s)) (b ∷ [])
a_sign names s b e alone =
    a_word names Anything (kind.Symbol s) (b ∷ []) (terminal.Symbol s)
    (λ left ends. (sym e, λ other h. subst (λ t. length (symbol_text other) ≤ length t) (sym e) (longest b left alone other h), no_comment b left alone.slash)) refl

differ_47 : (b : ℕ) → nat_eq b 47 ≡ false → b ≢ 47
differ_47 b e same = false≢true (sym e ∙ ap (λ n. nat_eq n 47) same)

-- the signs of region paths and of lists
pub a_comma : (names : List (List ℕ)) → Reads names Anything (Comes (terminal.Symbol symbol.Comma)) (44 ∷ [])
a_comma names = a_sign names symbol.Comma 44 refl (record { less = refl; greater = refl; equal = refl; not = refl; and = refl; or = refl; slash = differ_47 44 refl })

pub a_dot : (names : List (List ℕ)) → Reads names Anything (Comes (terminal.Symbol symbol.Dot)) (46 ∷ [])
a_dot names = a_sign names symbol.Dot 46 refl (record { less = refl; greater = refl; equal = refl; not = refl; and = refl; or = refl; slash = differ_47 46 refl })

pub a_colon : (names : List (List ℕ)) → Reads names Anything (Comes (terminal.Symbol symbol.Colon)) (58 ∷ [])
a_colon names = a_sign names symbol.Colon 58 refl (record { less = refl; greater = refl; equal = refl; not = refl; and = refl; or = refl; slash = differ_47 58 refl })

pub a_star : (names : List (List ℕ)) → Reads names Anything (Comes (terminal.Symbol symbol.Star)) (42 ∷ [])
a_star names = a_sign names symbol.Star 42 refl (record { less = refl; greater = refl; equal = refl; not = refl; and = refl; or = refl; slash = differ_47 42 refl })

pub a_question : (names : List (List ℕ)) → Reads names Anything (Comes (terminal.Symbol symbol.Question)) (63 ∷ [])
a_question names = a_sign names symbol.Question 63 refl (record { less = refl; greater = refl; equal = refl; not = refl; and = refl; or = refl; slash = differ_47 63 refl })

pub an_open_bracket : (names : List (List ℕ)) → Reads names Anything (Comes (terminal.Symbol symbol.OpenBracket)) (91 ∷ [])
an_open_bracket names = a_sign names symbol.OpenBracket 91 refl (record { less = refl; greater = refl; equal = refl; not = refl; and = refl; or = refl; slash = differ_47 91 refl })

pub a_close_bracket : (names : List (List ℕ)) → Reads names Anything (Comes (terminal.Symbol symbol.CloseBracket)) (93 ∷ [])
a_close_bracket names = a_sign names symbol.CloseBracket 93 refl (record { less = refl; greater = refl; equal = refl; not = refl; and = refl; or = refl; slash = differ_47 93 refl })

-- none of these, and no space, goes on with a name
pub ends_at : (b : ℕ) (rest : List ℕ) → is_name_byte b ≡ false → EndsWord (b ∷ rest)
ends_at b rest e = e

pub at_space : is_name_byte 32 ≡ false
unfolding is_name_byte is_letter is_digit
at_space = refl

pub at_comma : is_name_byte 44 ≡ false
unfolding is_name_byte is_letter is_digit
at_comma = refl

pub at_dot : is_name_byte 46 ≡ false
unfolding is_name_byte is_letter is_digit
at_dot = refl

pub at_colon : is_name_byte 58 ≡ false
unfolding is_name_byte is_letter is_digit
at_colon = refl

pub at_close_bracket : is_name_byte 93 ≡ false
unfolding is_name_byte is_letter is_digit
at_close_bracket = refl

-- a number

or_no : (a b : Bool) → (a || b) ≡ false → b ≡ false
or_no true b e = absurd (false≢true (sym e))
or_no false b e = e

no_digit : (left : List ℕ) → EndsWord left → StopsAt is_digit left
unfolding is_name_byte
no_digit [] ends = tt
no_digit (b ∷ left) ends = or_no (is_letter b) (is_digit b) ends

own : IsNumeralModel (λ ds. AllByRecursion (λ b. is_digit b ≡ true) ds) (fold (λ n b. 10 * n + (b - 48)) 0)
unfolding is_digit
own = numerals_by_fold _ (search rules) (fold (λ n b. 10 * n + (b - 48))) (search rules)

are_digits : (n : ℕ) → n ≤ 2147483647 → AllByRecursion (λ b. is_digit b ≡ true) (decimal n)
are_digits n small = digits_decimal own n (omega arith)

value : (n : ℕ) → n ≤ 2147483647 → decimal_value (decimal n) ≡ n
value n small = digits_value-decimal own n (omega arith)

first : (n : ℕ) → n ≤ 2147483647 → ¬ (HasLeadingZero (decimal n))
first zero small h = omega (arith, h.0, ap length (decimal_digit 0 (omega arith)))
first (suc n) small h = omega (arith, h.1, first_decimal (suc n) (omega arith) (omega arith))

pub a_number : (names : List (List ℕ)) (n : ℕ) → n ≤ 2147483647 → Reads names EndsWord (Comes (terminal.Int (pos n))) (decimal n)
a_number names n small =
    a_word names EndsWord kind.Int (decimal n) (terminal.Int (pos n))
    (λ left ends. ((decimal_nonempty n (omega arith), (are_digits n small, no_digit left ends)), first n small, subst (λ v. v ≤ 2147483647) (sym (value n small)) small))
    (ap pos (sym (value n small)))
