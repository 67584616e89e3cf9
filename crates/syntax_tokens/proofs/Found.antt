-- Pieces, each from what the code finds.
use Rattle.std.proofs.Common.{◌≡◌, ◌<◌, ◌≤◌, ◌+◌, ◌-◌, ◌*◌, ℕ, suc, true, List, [], ◌∷◌, ◌++◌, length, take, drop, get_or, sym, subst, refl, ap, ◌∙◌, arith, Some, IsUtf8}
use Rattle.std.specs.List.{prefix_len, slice_get, Contains, fold}
use Rattle.std.proofs.Math.Seq.{take-append-add}
use Rattle.std.proofs.lemmas.List.{length-append, at_drop_more}
use Rattle.std.proofs.lemmas.List.Sums.{prefix_len-le-length}
use Rattle.lang_base.specs.Lexical.{is_letter, is_digit, is_name_byte, keywords, decimal_value}
use Rattle.syntax_tokens.specs.declared.token.TokenKind.TheVariants as kind
use Rattle.syntax_tokens.specs.declared.token.Keyword.{Keyword}
use Rattle.syntax_tokens.specs.Piece.{IsInside, HasLeadingZero}
use Rattle.syntax_tokens.specs.Reading.{IsFound}
use Rattle.syntax_tokens.specs.Spelling.{keyword_text}
use Rattle.syntax_tokens.proofs.Faults.{digits-prefix_len}
use Rattle.syntax_tokens.proofs.Runs.{run-prefix_len, prefix_len-some, word-run}

name_bytes-some : (bytes : List ℕ) → is_letter (get_or bytes 0 0) ≡ true → 0 < prefix_len is_name_byte bytes
unfolding is_letter is_digit is_name_byte
name_bytes-some bytes e = prefix_len-some is_name_byte bytes refl (rw e refl)

pub found-name : (bytes : List ℕ) (len : ℕ) → is_letter (get_or bytes 0 0) ≡ true → len ≡ prefix_len is_name_byte bytes → ¬ (Contains keywords (take len bytes)) → IsFound bytes (record { token = Some kind.Name; len = len })
found-name bytes len e is free =
    let P : ℕ → Type 0 = λ n. ¬ (Contains keywords (take n bytes)) → IsFound bytes (record { token = Some kind.Name; len = n }) in
    let n = prefix_len is_name_byte bytes in
    let some : 0 < n = name_bytes-some bytes e in
    let run = run-prefix_len is_name_byte bytes in
    subst P (sym is) (λ free. record { some = some; within = prefix_len-le-length is_name_byte bytes; is = ((word-run bytes n some e run, free), run.1) }) free

pub found-keyword : (bytes : List ℕ) (len : ℕ) (keyword : Keyword) → is_letter (get_or bytes 0 0) ≡ true → len ≡ prefix_len is_name_byte bytes → take len bytes ≡ keyword_text keyword → IsFound bytes (record { token = Some (kind.Keyword keyword); len = len })
found-keyword bytes len keyword e is spelled =
    let P : ℕ → Type 0 = λ n. take n bytes ≡ keyword_text keyword → IsFound bytes (record { token = Some (kind.Keyword keyword); len = n }) in
    subst P (sym is) (λ spelled. record { some = name_bytes-some bytes e; within = prefix_len-le-length is_name_byte bytes; is = (spelled, (run-prefix_len is_name_byte bytes).1) }) spelled

digits-some : (bytes : List ℕ) → is_digit (get_or bytes 0 0) ≡ true → 0 < prefix_len is_digit bytes
unfolding is_digit
digits-some bytes e = prefix_len-some is_digit bytes refl e

pub found-int : (bytes : List ℕ) (len : ℕ) → is_digit (get_or bytes 0 0) ≡ true → len ≡ prefix_len is_digit bytes → ¬ (HasLeadingZero (take len bytes)) → ¬ (2147483647 < decimal_value (take len bytes)) → IsFound bytes (record { token = Some kind.Int; len = len })
found-int bytes len e is plain fits =
    let some = digits-some bytes e in
    let within = prefix_len-le-length is_digit bytes in
    record { some = omega arith; within = omega arith; is = (digits-prefix_len bytes len e is, plain, omega (arith, fits)) }

pub found-text : (following inside rest : List ℕ) (b : ℕ) → following ≡ inside ++ rest → Some b ≡ slice_get rest 0 → b ≡ 34 → IsInside inside → IsUtf8 inside → IsFound (34 ∷ following) (record { token = Some kind.Text; len = length inside + 2 })
found-text following inside [] b whole first quote in_text utf8 = absurd cc
found-text following inside (c ∷ rest) b whole first quote in_text utf8 =
    let is_quote : c ≡ 34 = cc in
    let two : length inside + 2 ≡ suc (length inside + 1) = omega arith in
    let text : take (length inside + 2) (34 ∷ following) ≡ 34 ∷ (inside ++ 34 ∷ []) =
    ap (λ n. take n (34 ∷ following)) two ∙ ap (λ bs. 34 ∷ take (length inside + 1) bs) whole ∙ ap (λ bs. 34 ∷ bs) (take-append-add inside (c ∷ rest) 1) ∙ ap (λ x. 34 ∷ (inside ++ x ∷ [])) is_quote in
    let long = ap length whole ∙ length-append inside (c ∷ rest) in
    record { some = omega arith; within = omega (arith, long); is = (inside, text, in_text, utf8) }

-- the decimal value of digits is no less than that of a front
fold-le : (n : ℕ) (digits : List ℕ) → n ≤ fold (λ n b. 10 * n + (b - 48)) n digits
fold-le n [] = omega arith
fold-le n (b ∷ digits) = omega (arith, fold-le (10 * n + (b - 48)) digits)

pub too-great : (digits : List ℕ) (i value next : ℕ) → i < length digits → fold (λ n b. 10 * n + (b - 48)) value (drop i digits) ≡ decimal_value digits → next ≡ 10 * value + (get_or digits i 0 - 48) → 2147483647 < next → 2147483647 < decimal_value digits
too-great digits i value next lt before is over =
    let one : fold (λ n b. 10 * n + (b - 48)) next (drop (i + 1) digits) ≡ decimal_value digits = ap (λ n. fold (λ n b. 10 * n + (b - 48)) n (drop (i + 1) digits)) is ∙ sym (at_drop_more (λ bs. fold (λ n b. 10 * n + (b - 48)) value bs) digits i 0 lt) ∙ before in
    omega (arith, one, fold-le next (drop (i + 1) digits))
