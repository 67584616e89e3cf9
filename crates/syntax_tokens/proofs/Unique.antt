-- What the bytes begin with is one thing alone.
use Rattle.std.proofs.Common.{◌≡◌, ◌<◌, ◌≤◌, ◌+◌, ◌⊎◌, ◌==◌, ℕ, Bool, true, false, cond, nat_eq, List, [], ◌∷◌, ◌++◌, length, take, drop, Option, Some, None, IsUtf8, sym, subst, refl, ap, ◌∙◌, arith, inl, inr, lit<}
use Rattle.std.specs.List.{Contains, starts_with, find}
use Rattle.std.specs.Option.{unwrap_or}
use Rattle.std.specs.Str.{bytes_eq}
use Rattle.std.specs.Str.Lossy.{utf8_valid_len}
use Rattle.std.proofs.lemmas.Bool.{cases_lt, false≢true}
use Rattle.std.proofs.lemmas.Bool.Decides.{Decides-eqb}
use Rattle.std.proofs.lemmas.Slice.Eq.{starts_is}
use Rattle.std.proofs.lemmas.List.{take_at, append_cancel_left}
use Rattle.lang_base.specs.Lexical.{is_blank, is_letter, is_digit, is_name_byte, keywords, decimal_value}
use Rattle.lang_base.specs.declared.refusal.Kind.{Kind}
use Rattle.lang_base.specs.declared.refusal.Kind.TheVariants as kinds
use Rattle.syntax_tokens.specs.declared.token.TokenKind.{TokenKind}
use Rattle.syntax_tokens.specs.declared.token.TokenKind.TheVariants as tokens
use Rattle.syntax_tokens.specs.declared.token.Symbol.{Symbol}
use Rattle.syntax_tokens.specs.declared.token.Symbol.TheVariants as symbol
use Rattle.syntax_tokens.specs.declared.token.Keyword.{Keyword}
use Rattle.syntax_tokens.specs.declared.token.Keyword.TheVariants as keyword
use Rattle.syntax_tokens.specs.Spelling.{symbol_text, keyword_text}
use Rattle.syntax_tokens.specs.Piece.{StopsAt, IsRun, is_no_line_feed, ClosesAt, is_escape, is_plain, IsInside, nothing, plain, escape, HasLeadingZero, IsLongestSymbol}
use Rattle.syntax_tokens.specs.Fault.{IsBadInText, EndsInside}

-- what the first two bytes decide
pub data Class : Type 0 where
  at_end : Class
  at_blank : Class
  at_word : Class
  at_digits : Class
  at_text : Class
  at_line : Class
  at_block : Class
  at_mark : Class

abbrev pub class_after_slash : List ℕ → Class
class_after_slash [] = at_mark
class_after_slash (b ∷ bs) = cond (b == 47) at_line (cond (b == 42) at_block at_mark)

abbrev pub class_of : List ℕ → Class
class_of [] = at_end
class_of (b ∷ bs) = cond (is_letter b) at_word (cond (is_digit b) at_digits (cond (is_blank b) at_blank (cond (b == 34) at_text (cond (b == 47) (class_after_slash bs) at_mark))))

-- a piece and its length, or a fault and how many bytes stand before its place
pub data Answer : Type 0 where
  piece : Option TokenKind → ℕ → Answer
  fault : Kind → ℕ → Answer

abbrev pub WordAnswer : List ℕ → Answer → Type 0
WordAnswer text r = (¬ (Contains keywords text) × (r ≡ piece (Some tokens.Name) (length text))) ⊎ ((k : Keyword) × (text ≡ keyword_text k) × (r ≡ piece (Some (tokens.Keyword k)) (length text)))

abbrev pub DigitsAnswer : List ℕ → Answer → Type 0
DigitsAnswer text r = (¬ (HasLeadingZero text) × (decimal_value text ≤ 2147483647) × (r ≡ piece (Some tokens.Int) (length text))) ⊎ ((HasLeadingZero text ⊎ (2147483647 < decimal_value text)) × (r ≡ fault kinds.Number 0))

abbrev pub CommentAnswer : List ℕ → Answer → Type 0
CommentAnswer text r = (IsUtf8 text × (r ≡ piece None (length text))) ⊎ (¬ (IsUtf8 text) × (r ≡ fault kinds.Syntax (utf8_valid_len text)))

abbrev pub StopAnswer : List ℕ → List ℕ → Answer → Type 0
StopAnswer inside [] r = r ≡ fault kinds.Syntax 0
StopAnswer inside (b ∷ bs) r = ((b ≡ 34) × (r ≡ piece (Some tokens.Text) (length inside + 2))) ⊎ (IsBadInText (b ∷ bs) × (r ≡ fault kinds.Syntax (1 + length inside)))

abbrev pub TextAnswer : List ℕ → List ℕ → Answer → Type 0
TextAnswer inside stop r = (¬ (IsUtf8 inside) × (r ≡ fault kinds.Syntax (1 + utf8_valid_len inside))) ⊎ (IsUtf8 inside × StopAnswer inside stop r)

-- `*/` stands there first
abbrev pub ClosesFirst : List ℕ → ℕ → Type 0
ClosesFirst bytes at = ClosesAt bytes at × ((k : ℕ) → k < at → ¬ (ClosesAt bytes k))

abbrev pub BlockAnswer : List ℕ → Answer → Type 0
BlockAnswer following r = ((at : ℕ) × ClosesFirst following at × CommentAnswer (47 ∷ 42 ∷ take (at + 2) following) r) ⊎ (((k : ℕ) → ¬ (ClosesAt following k)) × (r ≡ fault kinds.Syntax 0))

abbrev pub MarkAnswer : List ℕ → Answer → Type 0
MarkAnswer bytes r = ((s : Symbol) × (starts_with nat_eq bytes (symbol_text s) ≡ true) × IsLongestSymbol s bytes × (r ≡ piece (Some (tokens.Symbol s)) (length (symbol_text s)))) ⊎ (((s : Symbol) → starts_with nat_eq bytes (symbol_text s) ≡ false) × (r ≡ fault kinds.Syntax 0))

-- the answer for bytes of a class
abbrev pub Body : Class → List ℕ → Answer → Type 0
Body at_end bytes r = ⊥
Body at_blank bytes r = r ≡ piece None 1
Body at_word bytes r = (text : List ℕ) × (rest : List ℕ) × (bytes ≡ text ++ rest) × IsRun is_name_byte text rest × WordAnswer text r
Body at_digits bytes r = (text : List ℕ) × (rest : List ℕ) × (bytes ≡ text ++ rest) × IsRun is_digit text rest × DigitsAnswer text r
Body at_text bytes r = (inside : List ℕ) × (stop : List ℕ) × (bytes ≡ 34 ∷ (inside ++ stop)) × IsInside inside × EndsInside stop × TextAnswer inside stop r
Body at_line bytes r = (body : List ℕ) × (rest : List ℕ) × (bytes ≡ 47 ∷ 47 ∷ (body ++ rest)) × IsRun is_no_line_feed body rest × CommentAnswer (47 ∷ 47 ∷ body) r
Body at_block bytes r = (following : List ℕ) × (bytes ≡ 47 ∷ 42 ∷ following) × BlockAnswer following r
Body at_mark bytes r = MarkAnswer bytes r

-- two runs at the front of the same bytes
pub run-unique : (is : ℕ → Bool) (text rest other left : List ℕ) → IsRun is text rest → IsRun is other left → text ++ rest ≡ other ++ left → text ≡ other
run-unique is [] rest [] left a b e = refl
run-unique is [] rest (c ∷ other) left a b e =
    let P : List ℕ → Type 0 = λ bs. StopsAt is bs in
    let stops : is c ≡ false = subst P e a.1 in
    absurd (false≢true (sym stops ∙ b.0.0))
run-unique is (c ∷ text) rest [] left a b e =
    let P : List ℕ → Type 0 = λ bs. StopsAt is bs in
    let stops : is c ≡ false = subst P (sym e) b.1 in
    absurd (false≢true (sym stops ∙ a.0.0))
run-unique is (c ∷ text) rest (d ∷ other) left a b e =
    let following : text ++ rest ≡ other ++ left = cc in
    let same : text ≡ other = run-unique is text rest other left (a.0.1, a.1) (b.0.1, b.1) following in
    let first : c ≡ d = cc in
    cc

-- a plain byte and an escape end no inside
plain-goes_on : (b : ℕ) (bs : List ℕ) → is_plain b ≡ true → EndsInside (b ∷ bs) → ⊥
unfolding is_plain
plain-goes_on b bs e (inl quote) = false≢true (sym (ap is_plain quote) ∙ e)
plain-goes_on b bs e (inr (inl feed)) = false≢true (sym (ap is_plain feed) ∙ e)
plain-goes_on b bs e (inr (inr (slash, _))) = false≢true (sym (ap is_plain slash) ∙ e)

escape-goes_on : (b : ℕ) (bs : List ℕ) → is_escape b ≡ true → EndsInside (92 ∷ b ∷ bs) → ⊥
escape-goes_on b bs e (inl quote) = omega arith
escape-goes_on b bs e (inr (inl feed)) = omega arith
escape-goes_on b bs e (inr (inr (_, stops))) = false≢true (sym stops ∙ e)

plain-no_slash : (b : ℕ) → is_plain b ≡ true → b ≡ 92 → ⊥
unfolding is_plain
plain-no_slash b e slash = false≢true (sym (ap is_plain slash) ∙ e)

-- two insides at the front of the same bytes
pub inside-unique : {inside other : List ℕ} → IsInside inside → IsInside other → (stop left : List ℕ) → EndsInside stop → EndsInside left → inside ++ stop ≡ other ++ left → inside ≡ other
inside-unique nothing nothing stop left a b e = refl
inside-unique nothing (plain c cs p h) stop left a b e = absurd (plain-goes_on c (cs ++ left) p (subst EndsInside e a))
inside-unique nothing (escape c cs p h) stop left a b e = absurd (escape-goes_on c (cs ++ left) p (subst EndsInside e a))
inside-unique (plain c cs p h) nothing stop left a b e = absurd (plain-goes_on c (cs ++ stop) p (subst EndsInside (sym e) b))
inside-unique (plain c cs p h) (plain d ds q g) stop left a b e =
    let following : cs ++ stop ≡ ds ++ left = cc in
    let same : cs ≡ ds = inside-unique h g stop left a b following in
    let first : c ≡ d = cc in
    cc
inside-unique (plain c cs p h) (escape d ds q g) stop left a b e =
    let first : c ≡ 92 = cc in
    absurd (plain-no_slash c p first)
inside-unique (escape c cs p h) nothing stop left a b e = absurd (escape-goes_on c (cs ++ stop) p (subst EndsInside (sym e) b))
inside-unique (escape c cs p h) (plain d ds q g) stop left a b e =
    let first : d ≡ 92 = cc in
    absurd (plain-no_slash d q first)
inside-unique (escape c cs p h) (escape d ds q g) stop left a b e =
    let following : cs ++ stop ≡ ds ++ left = cc in
    let same : cs ≡ ds = inside-unique h g stop left a b following in
    let second : c ≡ d = cc in
    cc

-- one first `*/`
pub closes-unique : (bytes : List ℕ) (i j : ℕ) → ClosesFirst bytes i → ClosesFirst bytes j → i ≡ j
closes-unique bytes i j a b = elim (cases_lt i j) [
  | inl below ↦ absurd (b.1 i below a.0)
  | inr above ↦ elim (cases_lt j i) [ inl below ↦ absurd (a.1 j below b.0) | inr under ↦ omega arith ]
]

-- each symbol and keyword by its spelling
abbrev pub every_symbol : List Symbol
every_symbol =
    symbol.AtMost ∷ symbol.AtLeast ∷ symbol.Equal ∷ symbol.NotEqual ∷ symbol.And ∷ symbol.Or ∷ symbol.OpenBrace ∷ symbol.CloseBrace
    ∷ symbol.OpenParen ∷ symbol.CloseParen ∷ symbol.OpenBracket ∷ symbol.CloseBracket ∷ symbol.Less ∷ symbol.Greater ∷ symbol.Assign
    ∷ symbol.Plus ∷ symbol.Minus ∷ symbol.Star ∷ symbol.Slash ∷ symbol.Percent ∷ symbol.Not ∷ symbol.Semicolon ∷ symbol.Comma
    ∷ symbol.Dot ∷ symbol.Colon ∷ symbol.Hash ∷ symbol.Bar ∷ symbol.Question ∷ []

abbrev pub symbol_spelled : List ℕ → Symbol
symbol_spelled text = unwrap_or (find (λ s. bytes_eq (symbol_text s) text) every_symbol) symbol.AtMost

symbol-back : (s : Symbol) → symbol_spelled (symbol_text s) ≡ s
symbol-back s = elim s as (λ s. symbol_spelled (symbol_text s) ≡ s) [ symbol.AtMost ↦ refl | _ ↦ refl ]

abbrev pub every_keyword : List Keyword
every_keyword =
    keyword.Class ∷ keyword.Extends ∷ keyword.Region ∷ keyword.Atomic ∷ keyword.In ∷ keyword.Reads ∷ keyword.Writes ∷ keyword.Pure
    ∷ keyword.Int ∷ keyword.Boolean ∷ keyword.Void ∷ keyword.Final ∷ keyword.If ∷ keyword.Else ∷ keyword.While ∷ keyword.Return
    ∷ keyword.Print ∷ keyword.Cobegin ∷ keyword.CobeginNd ∷ keyword.Foreach ∷ keyword.ForeachNd ∷ keyword.ForeachParts ∷ keyword.New
    ∷ keyword.This ∷ keyword.True ∷ keyword.False ∷ keyword.Null ∷ keyword.Root ∷ []

abbrev pub keyword_spelled : List ℕ → Keyword
keyword_spelled text = unwrap_or (find (λ k. bytes_eq (keyword_text k) text) every_keyword) keyword.Class

keyword-back : (k : Keyword) → keyword_spelled (keyword_text k) ≡ k
keyword-back k = elim k as (λ k. keyword_spelled (keyword_text k) ≡ k) [ keyword.Class ↦ refl | _ ↦ refl ]

pub keyword-injective : (j k : Keyword) → keyword_text j ≡ keyword_text k → j ≡ k
keyword-injective j k e = sym (keyword-back j) ∙ ap keyword_spelled e ∙ keyword-back k

keyword-listed : (k : Keyword) → Contains keywords (keyword_text k)
keyword-listed k = elim k as (λ k. Contains keywords (keyword_text k)) [
  | keyword.Class ↦ (0, lit< tt, refl)
  | keyword.Extends ↦ (1, lit< tt, refl)
  | keyword.Region ↦ (2, lit< tt, refl)
  | keyword.Atomic ↦ (3, lit< tt, refl)
  | keyword.In ↦ (4, lit< tt, refl)
  | keyword.Reads ↦ (5, lit< tt, refl)
  | keyword.Writes ↦ (6, lit< tt, refl)
  | keyword.Pure ↦ (7, lit< tt, refl)
  | keyword.Int ↦ (8, lit< tt, refl)
  | keyword.Boolean ↦ (9, lit< tt, refl)
  | keyword.Void ↦ (10, lit< tt, refl)
  | keyword.Final ↦ (11, lit< tt, refl)
  | keyword.If ↦ (12, lit< tt, refl)
  | keyword.Else ↦ (13, lit< tt, refl)
  | keyword.While ↦ (14, lit< tt, refl)
  | keyword.Return ↦ (15, lit< tt, refl)
  | keyword.Print ↦ (16, lit< tt, refl)
  | keyword.Cobegin ↦ (17, lit< tt, refl)
  | keyword.CobeginNd ↦ (18, lit< tt, refl)
  | keyword.Foreach ↦ (19, lit< tt, refl)
  | keyword.ForeachNd ↦ (20, lit< tt, refl)
  | keyword.ForeachParts ↦ (21, lit< tt, refl)
  | keyword.New ↦ (22, lit< tt, refl)
  | keyword.This ↦ (23, lit< tt, refl)
  | keyword.True ↦ (24, lit< tt, refl)
  | keyword.False ↦ (25, lit< tt, refl)
  | keyword.Null ↦ (26, lit< tt, refl)
  | keyword.Root ↦ (27, lit< tt, refl)
]

-- what begins the bytes is their front
symbol-front : (bytes : List ℕ) (s : Symbol) → starts_with nat_eq bytes (symbol_text s) ≡ true → take (length (symbol_text s)) bytes ≡ symbol_text s
symbol-front bytes s e =
    let whole : bytes ≡ symbol_text s ++ drop (length (symbol_text s)) bytes = (starts_is Decides-eqb bytes (symbol_text s) true (sym e)).0 refl in
    ap (take (length (symbol_text s))) whole ∙ take_at (symbol_text s) (drop (length (symbol_text s)) bytes) (length (symbol_text s)) refl

pub symbol-unique : (bytes : List ℕ) (s t : Symbol) → starts_with nat_eq bytes (symbol_text s) ≡ true → IsLongestSymbol s bytes → starts_with nat_eq bytes (symbol_text t) ≡ true → IsLongestSymbol t bytes → s ≡ t
symbol-unique bytes s t begins longest other longer =
    let same : length (symbol_text s) ≡ length (symbol_text t) = omega (arith, longest t other, longer s begins) in
    sym (symbol-back s) ∙ ap symbol_spelled (sym (symbol-front bytes s begins) ∙ ap (λ n. take n bytes) same ∙ symbol-front bytes t other) ∙ symbol-back t

-- a quote may stand after an inside
bad-quote : (b : ℕ) (bs : List ℕ) → b ≡ 34 → IsBadInText (b ∷ bs) → ⊥
bad-quote b bs quote (inl feed) = omega arith
bad-quote b bs quote (inr (slash, _)) = omega arith

word-answer : (text : List ℕ) (r s : Answer) → WordAnswer text r → WordAnswer text s → r ≡ s
word-answer text r s (inl (free, e)) (inl (_, f)) = cc
word-answer text r s (inl (free, e)) (inr (k, spelled, f)) = absurd (free (subst (λ t. Contains keywords t) (sym spelled) (keyword-listed k)))
word-answer text r s (inr (k, spelled, e)) (inl (free, f)) = absurd (free (subst (λ t. Contains keywords t) (sym spelled) (keyword-listed k)))
word-answer text r s (inr (j, one, e)) (inr (k, other, f)) =
    let same : j ≡ k = keyword-injective j k (sym one ∙ other) in
    cc

digits-answer : (text : List ℕ) (r s : Answer) → DigitsAnswer text r → DigitsAnswer text s → r ≡ s
digits-answer text r s (inl (plain_digits, small, e)) (inl (_, _, f)) = cc
digits-answer text r s (inl (plain_digits, small, e)) (inr (inl zero_first, f)) = absurd (plain_digits zero_first)
digits-answer text r s (inl (plain_digits, small, e)) (inr (inr over, f)) = absurd (omega arith)
digits-answer text r s (inr (inl zero_first, e)) (inl (plain_digits, small, f)) = absurd (plain_digits zero_first)
digits-answer text r s (inr (inr over, e)) (inl (plain_digits, small, f)) = absurd (omega arith)
digits-answer text r s (inr (_, e)) (inr (_, f)) = cc

comment-answer : (text : List ℕ) (r s : Answer) → CommentAnswer text r → CommentAnswer text s → r ≡ s
comment-answer text r s (inl (utf8, e)) (inl (_, f)) = cc
comment-answer text r s (inl (utf8, e)) (inr (bad, f)) = absurd (bad utf8)
comment-answer text r s (inr (bad, e)) (inl (utf8, f)) = absurd (bad utf8)
comment-answer text r s (inr (bad, e)) (inr (_, f)) = cc

stop-answer : (inside stop : List ℕ) (r s : Answer) → StopAnswer inside stop r → StopAnswer inside stop s → r ≡ s
stop-answer inside [] r s e f = cc
stop-answer inside (b ∷ bs) r s (inl (quote, e)) (inl (_, f)) = cc
stop-answer inside (b ∷ bs) r s (inl (quote, e)) (inr (bad, f)) = absurd (bad-quote b bs quote bad)
stop-answer inside (b ∷ bs) r s (inr (bad, e)) (inl (quote, f)) = absurd (bad-quote b bs quote bad)
stop-answer inside (b ∷ bs) r s (inr (bad, e)) (inr (_, f)) = cc

text-answer : (inside stop : List ℕ) (r s : Answer) → TextAnswer inside stop r → TextAnswer inside stop s → r ≡ s
text-answer inside stop r s (inl (bad, e)) (inl (_, f)) = cc
text-answer inside stop r s (inl (bad, e)) (inr (utf8, f)) = absurd (bad utf8)
text-answer inside stop r s (inr (utf8, e)) (inl (bad, f)) = absurd (bad utf8)
text-answer inside stop r s (inr (utf8, e)) (inr (_, f)) = stop-answer inside stop r s e f

block-answer : (following : List ℕ) (r s : Answer) → BlockAnswer following r → BlockAnswer following s → r ≡ s
block-answer following r s (inl (i, first, e)) (inl (j, other, f)) =
    let P : ℕ → Type 0 = λ n. CommentAnswer (47 ∷ 42 ∷ take (n + 2) following) s in
    comment-answer (47 ∷ 42 ∷ take (i + 2) following) r s e (subst P (sym (closes-unique following i j first other)) f)
block-answer following r s (inl (i, first, e)) (inr (never, f)) = absurd (never i first.0)
block-answer following r s (inr (never, e)) (inl (j, other, f)) = absurd (never j other.0)
block-answer following r s (inr (never, e)) (inr (_, f)) = cc

mark-answer : (bytes : List ℕ) (r s : Answer) → MarkAnswer bytes r → MarkAnswer bytes s → r ≡ s
mark-answer bytes r s (inl (t, begins, longest, e)) (inl (u, other, longer, f)) =
    let same : t ≡ u = symbol-unique bytes t u begins longest other longer in
    e ∙ ap (λ t. piece (Some (tokens.Symbol t)) (length (symbol_text t))) same ∙ sym f
mark-answer bytes r s (inl (t, begins, longest, e)) (inr (none, f)) = absurd (false≢true (sym (none t) ∙ begins))
mark-answer bytes r s (inr (none, e)) (inl (t, begins, longest, f)) = absurd (false≢true (sym (none t) ∙ begins))
mark-answer bytes r s (inr (none, e)) (inr (_, f)) = cc

-- one answer for bytes of a class
pub body-unique : (c : Class) (bytes : List ℕ) (r s : Answer) → Body c bytes r → Body c bytes s → r ≡ s
body-unique at_end bytes r s x y = absurd x
body-unique at_blank bytes r s x y = cc
body-unique at_word bytes r s (text, rest, whole, run, x) (other, left, all, same, y) =
    let one : text ≡ other = run-unique is_name_byte text rest other left run same (sym whole ∙ all) in
    word-answer text r s x (subst (λ t. WordAnswer t s) (sym one) y)
body-unique at_digits bytes r s (text, rest, whole, run, x) (other, left, all, same, y) =
    let one : text ≡ other = run-unique is_digit text rest other left run same (sym whole ∙ all) in
    digits-answer text r s x (subst (λ t. DigitsAnswer t s) (sym one) y)
body-unique at_text bytes r s (inside, stop, whole, in_text, ends, x) (other, left, all, in_other, stops, y) =
    let following : inside ++ stop ≡ other ++ left = cc in
    let one : inside ≡ other = inside-unique in_text in_other stop left ends stops following in
    let rest : stop ≡ left = append_cancel_left inside stop left (following ∙ ap (λ bs. bs ++ left) (sym one)) in
    text-answer inside stop r s x (subst (λ t. TextAnswer inside t s) (sym rest) (subst (λ t. TextAnswer t left s) (sym one) y))
body-unique at_line bytes r s (body, rest, whole, run, x) (other, left, all, same, y) =
    let following : body ++ rest ≡ other ++ left = cc in
    let one : body ≡ other = run-unique is_no_line_feed body rest other left run same following in
    comment-answer (47 ∷ 47 ∷ body) r s x (subst (λ t. CommentAnswer (47 ∷ 47 ∷ t) s) (sym one) y)
body-unique at_block bytes r s (following, whole, x) (other, all, y) =
    let one : following ≡ other = cc in
    block-answer following r s x (subst (λ t. BlockAnswer t s) (sym one) y)
body-unique at_mark bytes r s x y = mark-answer bytes r s x y

-- what the bytes begin with
abbrev pub Front : List ℕ → Answer → Type 0
Front bytes r = (c : Class) × (class_of bytes ≡ c) × Body c bytes r

pub front-unique : (bytes : List ℕ) (r s : Answer) → Front bytes r → Front bytes s → r ≡ s
front-unique bytes r s (c, e, x) (d, f, y) = body-unique c bytes r s x (subst (λ k. Body k bytes s) (sym f ∙ e) y)
