-- What the bytes begin with, by what they begin with at first sight.
use Rattle.std.proofs.Common.{◌≡◌, ◌∙◌, ◌⊎◌, ◌<◌, ◌≤◌, ◌+◌, ℕ, zero, suc, Bool, true, false, nat_eq, List, [], ◌∷◌, ◌++◌, length, take, drop, get_or, None, Some, IsUtf8, Result, Ok, Err, inl, inr, refl, ap, sym, subst, arith}
use Rattle.std.specs.List.{starts_with, prefix_len}
use Rattle.std.specs.Str.{bytes_eq, is_utf8}
use Rattle.std.specs.Str.Lossy.{utf8_valid_len}
use Rattle.std.proofs.lemmas.Bool.{false≢true, cases_Bool, cases_eq, cases_lt}
use Rattle.std.proofs.lemmas.Bool.Decides.{Decides-eqb}
use Rattle.std.proofs.lemmas.List.{take-append-drop, take_at, get_or_past, append-nil, length-append}
use Rattle.std.proofs.lemmas.List.Sums.{prefix_len-le-length}
use Rattle.std.proofs.lemmas.Slice.Eq.{bytes_eq-Decides, starts_is}
use Rattle.std.proofs.lemmas.Str.{IsUtf8-from_is_utf8, is_utf8-from_IsUtf8}
use Rattle.lang_base.specs.Lexical.{is_blank, is_letter, is_digit, is_name_byte, decimal_value}
use Rattle.lang_base.specs.declared.refusal.Kind.TheVariants as reason
use Rattle.syntax_tokens.specs.declared.piece.Found.{Found}
use Rattle.syntax_tokens.specs.declared.piece.Fault.{Fault}
use Rattle.syntax_tokens.specs.declared.token.TokenKind.TheVariants as kind
use Rattle.syntax_tokens.specs.declared.token.Symbol.{Symbol}
use Rattle.syntax_tokens.specs.declared.token.Symbol.TheVariants as symbol
use Rattle.syntax_tokens.specs.declared.token.Keyword.{Keyword}
use Rattle.syntax_tokens.specs.declared.token.Keyword.TheVariants as keyword
use Rattle.syntax_tokens.specs.Fault.{EndsInside}
use Rattle.syntax_tokens.specs.Piece.{ClosesAt, IsComment, IsInside, nothing, plain, escape, HasLeadingZero, IsLongestSymbol, BeginsComment, is_plain, is_escape, is_no_line_feed}
use Rattle.syntax_tokens.specs.Reading.{IsFound, Reads, BeginsOtherwise}
use Rattle.syntax_tokens.specs.Spelling.{symbol_text, keyword_text}
use Rattle.syntax_tokens.proofs.Comments.{comment-block, comment-line}
use Rattle.syntax_tokens.proofs.Faults.{fault-comment, fault-open_comment, fault-byte_in_text, fault-bad_in_text, fault-open_text, fault-bad_int, fault-no_piece, digits-prefix_len}
use Rattle.syntax_tokens.proofs.Found.{found-name, found-keyword, found-int, found-text}
use Rattle.syntax_tokens.proofs.Tables.{symbol-some}
use Rattle.syntax_tokens.proofs.Texts.{ends-otherwise, bad-no_quote}
use Rattle.syntax_grammar.proofs.written.Lists.{first_passing, all_keywords, no_keyword, all_symbols, begins, no_symbol, longest}

-- what is read of the bytes: a piece, or why there is none
pub record Answers (bytes : List ℕ) : Type 0 where
  pub answer : Result Found Fault
  pub reads : Reads bytes answer

finds : (bytes : List ℕ) (found : Found) → IsFound bytes found → Answers bytes
finds bytes found is = record { answer = Ok found; reads = is }

-- bytes are UTF-8 or not
utf8_or_not : (bytes : List ℕ) → IsUtf8 bytes ⊎ ¬ (IsUtf8 bytes)
utf8_or_not bytes = elim (cases_Bool (is_utf8 bytes)) [
  | inl holds ↦ inl (IsUtf8-from_is_utf8 bytes holds)
  | inr fails ↦ inr (λ is. false≢true (sym fails ∙ is_utf8-from_IsUtf8 bytes is))
]

-- a comment of so many bytes
comment : (bytes : List ℕ) (len : ℕ) → 0 < len → len ≤ length bytes → IsComment (take len bytes) (drop len bytes) → Answers bytes
comment bytes len some within is = elim (utf8_or_not (take len bytes)) [
  | inl utf8 ↦ finds bytes (record { token = None; len = len }) (record { some = some; within = within; is = inr (is, utf8) })
  | inr bad ↦
      let at = utf8_valid_len (take len bytes) in
      record { answer = Err (record { kind = reason.Syntax; at = at }); reads = fault-comment reason.Syntax bytes len at refl refl is bad }
]

pub line_comment : (following : List ℕ) → Answers (47 ∷ 47 ∷ following)
line_comment following =
    let bytes : List ℕ = 47 ∷ 47 ∷ following in
    let len = 2 + prefix_len is_no_line_feed following in
    comment bytes len (omega arith) (omega (arith, prefix_len-le-length is_no_line_feed following)) (comment-line bytes following len refl refl)

-- where the first `*/` stands
record Closing (bytes : List ℕ) : Type 0 where
  at : ℕ
  within : at + 2 ≤ length bytes
  closes : ClosesAt bytes at
  first : (k : ℕ) → k < at → ¬ (ClosesAt bytes k)

zero_slash : ◌≡◌ {A = ℕ} 0 47 → ⊥
zero_slash e = omega (arith, e)

zero_star : ◌≡◌ {A = ℕ} 0 42 → ⊥
zero_star e = omega (arith, e)

closes_within : (bytes : List ℕ) (at : ℕ) → ClosesAt bytes at → at + 2 ≤ length bytes
closes_within bytes at closes = elim (cases_lt (at + 1) (length bytes)) [
  | inl below ↦ omega arith
  | inr past ↦ absurd (zero_slash (sym (get_or_past bytes (at + 1) 0 past) ∙ closes.1))
]

closes_here : (bytes : List ℕ) → ClosesAt bytes 0 ⊎ ¬ (ClosesAt bytes 0)
closes_here bytes = elim (cases_eq (get_or bytes 0 0) 42) [
  | inl star ↦ elim (cases_eq (get_or bytes 1 0) 47) [ inl slash ↦ inl (star, slash) | inr fails ↦ inr (λ c. fails c.1) ]
  | inr fails ↦ inr (λ c. fails c.0)
]

-- the same after one byte more
closes_on : (b : ℕ) (bs : List ℕ) (k : ℕ) → ClosesAt bs k → ClosesAt (b ∷ bs) (suc k)
closes_on b bs k closes =
    let e : suc k + 1 ≡ suc (k + 1) = omega arith in
    (closes.0, ap (λ n. get_or (b ∷ bs) n 0) e ∙ closes.1)

closes_back : (b : ℕ) (bs : List ℕ) (k : ℕ) → ClosesAt (b ∷ bs) (suc k) → ClosesAt bs k
closes_back b bs k closes =
    let e : suc (k + 1) ≡ suc k + 1 = omega arith in
    (closes.0, ap (λ n. get_or (b ∷ bs) n 0) e ∙ closes.1)

never_before : (b : ℕ) (bs : List ℕ) (at : ℕ) → ¬ (ClosesAt (b ∷ bs) 0) → ((k : ℕ) → k < at → ¬ (ClosesAt bs k)) → (k : ℕ) → k < suc at → ¬ (ClosesAt (b ∷ bs) k)
never_before b bs at here following zero below closes = here closes
never_before b bs at here following (suc k) below closes = following k (omega arith) (closes_back b bs k closes)

never_at_all : (b : ℕ) (bs : List ℕ) → ¬ (ClosesAt (b ∷ bs) 0) → ((k : ℕ) → ¬ (ClosesAt bs k)) → (k : ℕ) → ¬ (ClosesAt (b ∷ bs) k)
never_at_all b bs here following zero closes = here closes
never_at_all b bs here following (suc k) closes = following k (closes_back b bs k closes)

closing : (bytes : List ℕ) → Closing bytes ⊎ ((k : ℕ) → ¬ (ClosesAt bytes k))
closing [] = inr (λ k closes. zero_star closes.0)
closing (b ∷ bs) = elim (closes_here (b ∷ bs)) [
  | inl here ↦ inl (record { at = 0; within = closes_within (b ∷ bs) 0 here; closes = here; first = λ k below. absurd (omega arith) })
  | inr not_here ↦ elim (closing bs) [
    | inl following ↦
        let closes = closes_on b bs following.at following.closes in
        inl (record { at = suc following.at; within = closes_within (b ∷ bs) (suc following.at) closes; closes = closes; first = never_before b bs following.at not_here following.first })
    | inr never ↦ inr (never_at_all b bs not_here never)
  ]
]

pub block_comment : (following : List ℕ) → Answers (47 ∷ 42 ∷ following)
block_comment following =
    let bytes : List ℕ = 47 ∷ 42 ∷ following in
    elim (closing following) [
      | inl c ↦ comment bytes (c.at + 4) (omega arith) (omega (arith, c.within)) (comment-block bytes following c.at refl (c.within, c.closes, c.first))
      | inr never ↦ record { answer = Err (record { kind = reason.Syntax; at = 0 }); reads = fault-open_comment reason.Syntax bytes following 0 refl refl refl never }
    ]

-- the inside of a text, up to where it goes no further
record Split (bytes : List ℕ) : Type 0 where
  inside : List ℕ
  rest : List ℕ
  whole : bytes ≡ inside ++ rest
  is_inside : IsInside inside
  ends : EndsInside rest

-- it ends at once
at_end : (bytes : List ℕ) → EndsInside bytes → Split bytes
at_end bytes ends = record { inside = []; rest = bytes; whole = refl; is_inside = nothing; ends = ends }

after_plain : (b : ℕ) (bs : List ℕ) → is_plain b ≡ true → Split bs → Split (b ∷ bs)
after_plain b bs is more = record {
  inside = b ∷ more.inside;
  rest = more.rest;
  whole = ap (λ all. b ∷ all) more.whole;
  is_inside = plain b more.inside is more.is_inside;
  ends = more.ends;
}

after_escape : (c : ℕ) (bs : List ℕ) → is_escape c ≡ true → Split bs → Split (92 ∷ c ∷ bs)
after_escape c bs is more = record {
  inside = 92 ∷ c ∷ more.inside;
  rest = more.rest;
  whole = ap (λ all. 92 ∷ c ∷ all) more.whole;
  is_inside = escape c more.inside is more.is_inside;
  ends = more.ends;
}

no_escape : is_escape 0 ≡ false
unfolding is_escape
no_escape = refl

-- what is no plain byte: an escape goes on, all else ends the inside
split_other : (b c : ℕ) (bs : List ℕ) → is_plain b ≡ false → Split bs → Split (b ∷ c ∷ bs)
split_other b c bs other more = elim (cases_eq b 92) [
  | inl e ↦ elim (cases_Bool (is_escape c)) [
    | inl holds ↦ subst (λ n. Split (n ∷ c ∷ bs)) (sym e) (after_escape c bs holds more)
    | inr fails ↦ at_end (b ∷ c ∷ bs) (ends-otherwise (b ∷ c ∷ bs) other (λ _. fails))
  ]
  | inr differ ↦ at_end (b ∷ c ∷ bs) (ends-otherwise (b ∷ c ∷ bs) other (λ e. absurd (differ e)))
]

split : (bytes : List ℕ) → Split bytes
split [] = at_end [] tt
split (b ∷ []) = elim (cases_Bool (is_plain b)) [
  | inl holds ↦ after_plain b [] holds (at_end [] tt)
  | inr fails ↦ at_end (b ∷ []) (ends-otherwise (b ∷ []) fails (λ _. no_escape))
]
split (b ∷ c ∷ bs) = elim (cases_Bool (is_plain b)) [
  | inl holds ↦ after_plain b (c ∷ bs) holds (split (c ∷ bs))
  | inr fails ↦ split_other b c bs fails (split bs)
]

-- what stops a text after its inside
text_stops : (following inside rest : List ℕ) → following ≡ inside ++ rest → IsInside inside → EndsInside rest → IsUtf8 inside → Answers (34 ∷ following)
text_stops following inside [] whole is ends utf8 = record {
  answer = Err (record { kind = reason.Syntax; at = 0 });
  reads = fault-open_text reason.Syntax following inside 0 refl refl (whole ∙ append-nil inside) is utf8;
}
text_stops following inside (b ∷ rest) whole is ends utf8 = elim (cases_eq b 34) [
  | inl quote ↦ finds (34 ∷ following) (record { token = Some kind.Text; len = length inside + 2 }) (found-text following inside (b ∷ rest) b whole refl quote is utf8)
  | inr other ↦ record {
    answer = Err (record { kind = reason.Syntax; at = 1 + length inside });
    reads = fault-bad_in_text reason.Syntax following inside (b ∷ rest) (1 + length inside) refl refl whole is (bad-no_quote (b ∷ rest) b ends refl other) utf8;
  }
]

pub text : (following : List ℕ) → Answers (34 ∷ following)
text following =
    let s = split following in
    elim (utf8_or_not s.inside) [
      | inl utf8 ↦ text_stops following s.inside s.rest s.whole s.is_inside s.ends utf8
      | inr bad ↦
          let at = 1 + utf8_valid_len s.inside in
          record { answer = Err (record { kind = reason.Syntax; at = at }); reads = fault-byte_in_text reason.Syntax following s.inside s.rest at refl refl s.whole s.is_inside s.ends bad }
    ]

pub blank : (b : ℕ) (bs : List ℕ) → is_blank b ≡ true → Answers (b ∷ bs)
blank b bs is = finds (b ∷ bs) (record { token = None; len = 1 }) (record { some = omega arith; within = omega arith; is = inl (b, refl, is) })

abbrev is_spelled : List ℕ → Keyword → Bool
is_spelled word k = bytes_eq (keyword_text k) word

pub word : (bytes : List ℕ) → is_letter (get_or bytes 0 0) ≡ true → Answers bytes
word bytes is =
    let len = prefix_len is_name_byte bytes in
    let text = take len bytes in
    elim (first_passing (is_spelled text) all_keywords keyword.Class 28) [
      | inl first ↦
          let k = get_or all_keywords first.at keyword.Class in
          finds bytes (record { token = Some (kind.Keyword k); len = len }) (found-keyword bytes len k is refl (sym ((bytes_eq-Decides (keyword_text k) text).0 first.passes)))
      | inr none ↦ finds bytes (record { token = Some kind.Name; len = len })
          (found-name bytes len is refl (no_keyword text (λ i below e. false≢true (sym (none i below) ∙ (bytes_eq-Decides (keyword_text (get_or all_keywords i keyword.Class)) text).1 e))))
    ]

-- a zero stands before other digits or not
leading_zero_or_not : (digits : List ℕ) → HasLeadingZero digits ⊎ ¬ (HasLeadingZero digits)
leading_zero_or_not digits = elim (cases_lt 1 (length digits)) [
  | inl more ↦ elim (cases_eq (get_or digits 0 0) 48) [ inl zero_first ↦ inl (more, zero_first) | inr other ↦ inr (λ z. other z.1) ]
  | inr few ↦ inr (λ z. omega (arith, z.0))
]

bad_int : (bytes : List ℕ) → is_digit (get_or bytes 0 0) ≡ true → (HasLeadingZero (take (prefix_len is_digit bytes) bytes) ⊎ (2147483647 < decimal_value (take (prefix_len is_digit bytes) bytes))) → Answers bytes
bad_int bytes is why =
    let len = prefix_len is_digit bytes in
    record { answer = Err (record { kind = reason.Number; at = 0 }); reads = fault-bad_int reason.Number bytes len refl (digits-prefix_len bytes len is refl) why }

pub int : (bytes : List ℕ) → is_digit (get_or bytes 0 0) ≡ true → Answers bytes
int bytes is =
    let len = prefix_len is_digit bytes in
    elim (leading_zero_or_not (take len bytes)) [
      | inl zero_first ↦ bad_int bytes is (inl zero_first)
      | inr plain_digits ↦ elim (cases_lt 2147483647 (decimal_value (take len bytes))) [
        | inl over ↦ bad_int bytes is (inr over)
        | inr fits ↦ finds bytes (record { token = Some kind.Int; len = len }) (found-int bytes len is refl plain_digits (λ over. omega (arith, over, fits)))
      ]
    ]

no_comment : (bytes : List ℕ) → BeginsOtherwise bytes → ¬ (BeginsComment bytes)
no_comment [] other = absurd other
no_comment (b ∷ bs) other = other.4

-- the symbol stands in front
found-symbol : (bytes : List ℕ) (s : Symbol) → BeginsOtherwise bytes → starts_with nat_eq bytes (symbol_text s) ≡ true → IsLongestSymbol s bytes → IsFound bytes (record { token = Some (kind.Symbol s); len = length (symbol_text s) })
found-symbol bytes s other begins longest =
    let len = length (symbol_text s) in
    let whole : bytes ≡ symbol_text s ++ drop len bytes = (starts_is Decides-eqb bytes (symbol_text s) true (sym begins)).0 refl in
    let again : bytes ≡ take len bytes ++ drop len bytes = sym (take-append-drop len bytes) in
    record {
      some = symbol-some s;
      within = omega (arith, ap length whole, length-append (symbol_text s) (drop len bytes));
      is = (
        ap (take len) whole ∙ take_at (symbol_text s) (drop len bytes) len refl,
        subst (IsLongestSymbol s) again longest,
        subst (λ bs. ¬ (BeginsComment bs)) again (no_comment bytes other),
      );
    }

pub mark : (bytes : List ℕ) → BeginsOtherwise bytes → Answers bytes
mark bytes other = elim (first_passing (begins bytes) all_symbols symbol.AtMost 28) [
  | inl first ↦
      let s = get_or all_symbols first.at symbol.AtMost in
      finds bytes (record { token = Some (kind.Symbol s); len = length (symbol_text s) }) (found-symbol bytes s other first.passes (longest bytes first.at first.below first.none))
  | inr none ↦ record {
    answer = Err (record { kind = reason.Syntax; at = 0 });
    reads = fault-no_piece reason.Syntax bytes 0 refl refl other (no_symbol bytes none);
  }
]
