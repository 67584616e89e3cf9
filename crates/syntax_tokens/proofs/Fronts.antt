-- Each piece and each fault is the answer for its bytes.
use Rattle.std.proofs.Common.{◌≡◌, ◌<◌, ◌+◌, ◌⊎◌, ◌==◌, ◌||◌, ◌&&◌, ℕ, Bool, true, false, nat_eq, List, [], ◌∷◌, ◌++◌, length, take, get_or, Option, Some, None, IsUtf8, sym, subst, refl, ap, ◌∙◌, arith, inl, inr, append_assoc}
use Rattle.std.specs.List.{AllByRecursion, starts_with, list_all}
use Rattle.std.proofs.lemmas.Bool.{false≢true, eqb-true, ne_eqb}
use Rattle.std.proofs.lemmas.Bool.Decides.{nat_tests, Decides-eqb}
use Rattle.std.proofs.lemmas.Slice.Eq.{starts_is}
use Rattle.std.proofs.lemmas.List.{length-append, get_or_append_left, get_or_at, get_or-append-add, take_at, append-nil}
use Rattle.lang_base.specs.Lexical.{is_blank, is_letter, is_digit, is_name_byte}
use Rattle.syntax_tokens.specs.declared.token.TokenKind.{TokenKind}
use Rattle.syntax_tokens.specs.declared.token.TokenKind.TheVariants as tokens
use Rattle.syntax_tokens.specs.declared.token.Symbol.{Symbol}
use Rattle.syntax_tokens.specs.declared.token.Symbol.TheVariants as symbol
use Rattle.syntax_tokens.specs.declared.token.Keyword.{Keyword}
use Rattle.syntax_tokens.specs.declared.token.Keyword.TheVariants as keyword
use Rattle.syntax_tokens.specs.Spelling.{symbol_text, keyword_text}
use Rattle.syntax_tokens.specs.Piece.{IsRun, ClosesAt, IsComment, BeginsComment, IsLongestSymbol, IsPiece}
use Rattle.syntax_tokens.specs.Fault.{BeginsNothing, Cause, no_piece, bad_int, open_comment, byte_in_comment, byte_in_text, bad_in_text, open_text, kind_of, IsCause}
use Rattle.syntax_tokens.proofs.Unique.{at_blank, at_word, at_digits, at_text, at_line, at_block, at_mark, class_of, class_after_slash, Answer, piece, fault, CommentAnswer, Front}

digit-no_letter : (b : ℕ) → is_digit b ≡ true → is_letter b ≡ false
unfolding is_letter is_digit
digit-no_letter b e = grind (arith, nat_tests)

class-word : (b : ℕ) (bs : List ℕ) → is_letter b ≡ true → class_of (b ∷ bs) ≡ at_word
class-word b bs e = rw e refl

class-digits : (b : ℕ) (bs : List ℕ) → is_digit b ≡ true → class_of (b ∷ bs) ≡ at_digits
class-digits b bs e = rw (digit-no_letter b e, e) refl

one-of-four : (w x y z : Bool) → w || x || y || z ≡ true → (w ≡ true) ⊎ (x ≡ true) ⊎ (y ≡ true) ⊎ (z ≡ true)
one-of-four true x y z e = inl refl
one-of-four false true y z e = inr (inl refl)
one-of-four false false true z e = inr (inr (inl refl))
one-of-four false false false true e = inr (inr (inr refl))
one-of-four false false false false e = absurd cc

class-blank : (b : ℕ) (bs : List ℕ) → is_blank b ≡ true → class_of (b ∷ bs) ≡ at_blank
unfolding is_blank is_letter is_digit
class-blank b bs e =
    let P : ℕ → Type 0 = λ n. class_of (n ∷ bs) ≡ at_blank in
    elim (one-of-four (b == 32) (b == 9) (b == 10) (b == 13) e) [
      | inl h ↦ subst P (sym (eqb-true b 32 h)) refl
      | inr h ↦ elim h [
        | inl g ↦ subst P (sym (eqb-true b 9 g)) refl
        | inr g ↦ elim g [ inl f ↦ subst P (sym (eqb-true b 10 f)) refl | inr f ↦ subst P (sym (eqb-true b 13 f)) refl ]
      ]
    ]

class-text : (bs : List ℕ) → class_of (34 ∷ bs) ≡ at_text
unfolding is_blank is_letter is_digit
class-text bs = refl

class-line : (bs : List ℕ) → class_of (47 ∷ 47 ∷ bs) ≡ at_line
unfolding is_blank is_letter is_digit
class-line bs = refl

class-block : (bs : List ℕ) → class_of (47 ∷ 42 ∷ bs) ≡ at_block
unfolding is_blank is_letter is_digit
class-block bs = refl

class-keyword : (k : Keyword) (rest : List ℕ) → class_of (keyword_text k ++ rest) ≡ at_word
unfolding is_letter
class-keyword k rest = elim k as (λ k. class_of (keyword_text k ++ rest) ≡ at_word) [ keyword.Class ↦ refl | _ ↦ refl ]

both : (x y : Bool) → x && y ≡ true → (x ≡ true) × (y ≡ true)
both true y e = (refl, e)
both false y e = absurd (false≢true e)

all-from_test : (is : ℕ → Bool) (bs : List ℕ) → list_all is bs ≡ true → AllByRecursion (λ b. is b ≡ true) bs
all-from_test is [] e = tt
all-from_test is (b ∷ bs) e = let parts = both (is b) (list_all is bs) e in (parts.0, all-from_test is bs parts.1)

keyword-bytes : (k : Keyword) → list_all is_name_byte (keyword_text k) ≡ true
unfolding is_letter is_digit is_name_byte
keyword-bytes k = elim k as (λ k. list_all is_name_byte (keyword_text k) ≡ true) [ keyword.Class ↦ refl | _ ↦ refl ]

letter-goes_on : (b : ℕ) → is_letter b ≡ true → is_name_byte b ≡ true
unfolding is_name_byte
letter-goes_on b e = rw e refl

after_slash : (rest : List ℕ) → ¬ (BeginsComment (47 ∷ rest)) → class_after_slash rest ≡ at_mark
after_slash [] none = refl
after_slash (b ∷ bs) none =
    let line : (b == 47) ≡ false = ne_eqb b 47 (λ e. none (refl, inl e)) in
    let block : (b == 42) ≡ false = ne_eqb b 42 (λ e. none (refl, inr e)) in
    rw (line, block) refl

-- a symbol stands where no comment begins
class-symbol : (s : Symbol) (rest : List ℕ) → ¬ (BeginsComment (symbol_text s ++ rest)) → class_of (symbol_text s ++ rest) ≡ at_mark
unfolding is_blank is_letter is_digit
class-symbol s rest no_comment = elim s as (λ s. ¬ (BeginsComment (symbol_text s ++ rest)) → class_of (symbol_text s ++ rest) ≡ at_mark) [
  | symbol.Slash ↦ λ no_comment. after_slash rest no_comment
  | _ ↦ λ _. refl
] no_comment

starts-front : (front rest : List ℕ) → starts_with nat_eq (front ++ rest) front ≡ true
starts-front front rest = (starts_is Decides-eqb (front ++ rest) front (starts_with nat_eq (front ++ rest) front) refl).1 rest refl

comment-answered : (text : List ℕ) → IsUtf8 text → CommentAnswer text (piece None (length text))
comment-answered text utf8 = inl (utf8, refl)

-- a comment of either kind, with the answer for its text
comment-front : (text rest : List ℕ) (r : Answer) → IsComment text rest → CommentAnswer text r → Front (text ++ rest) r
comment-front text rest r (inl (body, spelled, run)) x =
    let P : List ℕ → Type 0 = λ t. CommentAnswer t r → Front (t ++ rest) r in
    subst P (sym spelled) (λ y. (at_line, class-line (body ++ rest), (body, rest, refl, run, y))) x
comment-front text rest r (inr (body, spelled, first)) x =
    let P : List ℕ → Type 0 = λ t. CommentAnswer t r → Front (t ++ rest) r in
    let n = length body in
    let ends = body ++ 42 ∷ 47 ∷ [] in
    let following = ends ++ rest in
    let Q : List ℕ → Type 0 = λ t. CommentAnswer (47 ∷ 42 ∷ t) r in
    let long : length ends ≡ n + 2 = length-append body (42 ∷ 47 ∷ []) in
    let within : (k : ℕ) → k < n + 2 → get_or following k 0 ≡ get_or ends k 0 = λ k lt. get_or_append_left ends rest 0 k (omega arith) in
    let star : get_or ends n 0 ≡ 42 = get_or_at body 42 (47 ∷ []) 0 n refl in
    let slash : get_or ends (n + 1) 0 ≡ 47 = get_or-append-add body (42 ∷ 47 ∷ []) 1 0 in
    let closes : ClosesAt following n = (within n (omega arith) ∙ star, within (n + 1) (omega arith) ∙ slash) in
    let never : (k : ℕ) → k < n → ¬ (ClosesAt following k) = λ k lt h. first k lt (sym (within k (omega arith)) ∙ h.0, sym (within (k + 1) (omega arith)) ∙ h.1) in
    let front : take (n + 2) following ≡ ends = take_at ends rest (n + 2) long in
    subst P (sym spelled) (λ y. (at_block, class-block following, (following, refl, inl (n, (closes, never), subst Q (sym front) y)))) x

pub piece-front : (kind : Option TokenKind) (text rest : List ℕ) → IsPiece kind text rest → Front (text ++ rest) (piece kind (length text))
piece-front None text rest (inl (b, spelled, is)) =
    let P : List ℕ → Type 0 = λ t. Front (t ++ rest) (piece None (length t)) in
    subst P (sym spelled) (at_blank, class-blank b rest is, refl)
piece-front None text rest (inr (comment, utf8)) = comment-front text rest (piece None (length text)) comment (comment-answered text utf8)
piece-front (Some tokens.Name) [] rest ((word, free), stops) = absurd word
piece-front (Some tokens.Name) (b ∷ bs) rest ((word, free), stops) = (at_word, class-word b (bs ++ rest) word.0, (b ∷ bs, rest, refl, ((letter-goes_on b word.0, word.1), stops), inl (free, refl)))
piece-front (Some (tokens.Keyword k)) text rest (spelled, stops) =
    let P : List ℕ → Type 0 = λ t. class_of (t ++ rest) ≡ at_word in
    let Q : List ℕ → Type 0 = λ t. AllByRecursion (λ b. is_name_byte b ≡ true) t in
    (at_word, subst P (sym spelled) (class-keyword k rest), (text, rest, refl, (subst Q (sym spelled) (all-from_test is_name_byte (keyword_text k) (keyword-bytes k)), stops), inr (k, spelled, refl)))
piece-front (Some tokens.Int) [] rest (digits, plain, small) = absurd (omega (arith, digits.0))
piece-front (Some tokens.Int) (b ∷ bs) rest (digits, plain, small) = (at_digits, class-digits b (bs ++ rest) digits.1.0.0, (b ∷ bs, rest, refl, digits.1, inl (plain, small, refl)))
piece-front (Some tokens.Text) text rest (inside, spelled, in_text, utf8) =
    let P : List ℕ → Type 0 = λ t. Front (t ++ rest) (piece (Some tokens.Text) (length t)) in
    let long : length inside + 2 ≡ length (34 ∷ (inside ++ 34 ∷ [])) = omega (arith, length-append inside (34 ∷ [])) in
    let whole : 34 ∷ (inside ++ 34 ∷ []) ++ rest ≡ 34 ∷ (inside ++ (34 ∷ rest)) = ap (λ bs. 34 ∷ bs) (append_assoc inside (34 ∷ []) rest) in
    subst P (sym spelled) (at_text, class-text ((inside ++ 34 ∷ []) ++ rest), (inside, 34 ∷ rest, whole, in_text, inl refl, inr (utf8, inl (refl, ap (λ n. piece (Some tokens.Text) n) (sym long)))))
piece-front (Some (tokens.Symbol s)) text rest (spelled, longest, no_comment) =
    let P : List ℕ → Type 0 = λ t. IsLongestSymbol s (t ++ rest) → ¬ (BeginsComment (t ++ rest)) → Front (t ++ rest) (piece (Some (tokens.Symbol s)) (length t)) in
    subst P (sym spelled) (λ longer none. (at_mark, class-symbol s rest none, inl (s, starts-front (symbol_text s) rest, longer, refl))) longest no_comment

digits-front : (text rest : List ℕ) → 0 < length text → IsRun is_digit text rest → class_of (text ++ rest) ≡ at_digits
digits-front [] rest some run = absurd (omega arith)
digits-front (b ∷ bs) rest some run = class-digits b (bs ++ rest) run.0.0

no_slash : (b : ℕ) (bs : List ℕ) → ((s : Symbol) → starts_with nat_eq (b ∷ bs) (symbol_text s) ≡ false) → b ≡ 47 → ⊥
no_slash b bs none e =
    let P : ℕ → Type 0 = λ n. starts_with nat_eq (n ∷ bs) (symbol_text symbol.Slash) ≡ false in
    false≢true (sym (subst P e (none symbol.Slash)))

class-nothing : (bytes : List ℕ) → BeginsNothing bytes → class_of bytes ≡ at_mark
class-nothing [] h = absurd h
class-nothing (b ∷ bs) h =
    let slash : (b ≡ 47 → ⊥) = no_slash b bs h.4 in
    let no_quote : (b == 34) ≡ false = ne_eqb b 34 h.3 in
    let not_slash : (b == 47) ≡ false = ne_eqb b 47 slash in
    rw (h.1, h.2, h.0, no_quote, not_slash) refl

none-of : (bytes : List ℕ) → BeginsNothing bytes → (s : Symbol) → starts_with nat_eq bytes (symbol_text s) ≡ false
none-of [] h = absurd h
none-of (b ∷ bs) h = h.4

pub cause-front : (cause : Cause) (bytes : List ℕ) (at : ℕ) → IsCause cause bytes at → Front bytes (fault (kind_of cause) at)
cause-front no_piece bytes at (nothing_begins, is) = (at_mark, class-nothing bytes nothing_begins, inr (none-of bytes nothing_begins, ap (λ n. fault (kind_of no_piece) n) is))
cause-front bad_int bytes at (text, rest, whole, digits, bad, is) =
    let P : List ℕ → Type 0 = λ bs. class_of bs ≡ at_digits in
    (at_digits, subst P (sym whole) (digits-front text rest digits.0 digits.1), (text, rest, whole, digits.1, inr (bad, ap (λ n. fault (kind_of bad_int) n) is)))
cause-front open_comment bytes at (rest, whole, never, is) =
    let P : List ℕ → Type 0 = λ bs. class_of bs ≡ at_block in
    (at_block, subst P (sym whole) (class-block rest), (rest, whole, inr (never, ap (λ n. fault (kind_of open_comment) n) is)))
cause-front byte_in_comment bytes at (text, rest, whole, comment, bad, is) =
    let P : List ℕ → Type 0 = λ bs. Front bs (fault (kind_of byte_in_comment) at) in
    subst P (sym whole) (comment-front text rest (fault (kind_of byte_in_comment) at) comment (inr (bad, ap (λ n. fault (kind_of byte_in_comment) n) is)))
cause-front byte_in_text bytes at (inside, rest, whole, in_text, ends, bad, is) =
    let P : List ℕ → Type 0 = λ bs. class_of bs ≡ at_text in
    (at_text, subst P (sym whole) (class-text (inside ++ rest)), (inside, rest, whole, in_text, ends, inl (bad, ap (λ n. fault (kind_of byte_in_text) n) is)))
cause-front bad_in_text bytes at (inside, [], whole, in_text, bad, utf8, is) = absurd bad
cause-front bad_in_text bytes at (inside, b ∷ rest, whole, in_text, bad, utf8, is) =
    let P : List ℕ → Type 0 = λ bs. class_of bs ≡ at_text in
    (at_text, subst P (sym whole) (class-text (inside ++ b ∷ rest)), (inside, b ∷ rest, whole, in_text, inr bad, inr (utf8, inr (bad, ap (λ n. fault (kind_of bad_in_text) n) is))))
cause-front open_text bytes at (inside, whole, in_text, utf8, is) =
    let P : List ℕ → Type 0 = λ bs. class_of bs ≡ at_text in
    (at_text, subst P (sym whole) (class-text inside), (inside, [], whole ∙ ap (λ bs. 34 ∷ bs) (sym (append-nil inside)), in_text, tt, inr (utf8, ap (λ n. fault (kind_of open_text) n) is)))
