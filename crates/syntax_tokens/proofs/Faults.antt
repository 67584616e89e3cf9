-- Faults, each from what the code finds.
use Rattle.std.proofs.Common.{◌≡◌, ◌<◌, ◌≤◌, ◌+◌, ◌⊎◌, ℕ, true, List, [], ◌∷◌, ◌++◌, length, take, drop, get_or, sym, subst, refl, ap, arith, IsUtf8, nat_eq, false, Option, Some, None, IfNone}
use Rattle.std.proofs.lemmas.List.{take-append-drop, length-append}
use Rattle.std.proofs.lemmas.List.Folds.{length-prefix_len}
use Rattle.std.proofs.lemmas.Str.{utf8_valid_len_le}
use Rattle.std.specs.List.{prefix_len, starts_with}
use Rattle.std.specs.Str.Lossy.{utf8_valid_len}
use Rattle.lang_base.specs.Lexical.{is_digit, decimal_value}
use Rattle.lang_base.specs.declared.refusal.Kind.{Kind}
use Rattle.lang_base.specs.declared.refusal.Kind.TheVariants as kinds
use Rattle.syntax_tokens.specs.Piece.{ClosesAt, IsComment, IsInside, AreDigits, HasLeadingZero}
use Rattle.syntax_tokens.specs.Fault.{IsBadInText, EndsInside, Cause, no_piece, bad_int, open_comment, byte_in_comment, byte_in_text, bad_in_text, open_text, IsCause, IsFault}
use Rattle.syntax_tokens.specs.Reading.{BeginsOtherwise}
use Rattle.syntax_tokens.specs.Spelling.{symbol_text}
use Rattle.syntax_tokens.specs.declared.token.Symbol.{Symbol}
use Rattle.syntax_tokens.proofs.Runs.{run-prefix_len, prefix_len-some}

pub fault-comment : (kind : Kind) (bytes : List ℕ) (len at : ℕ) → kind ≡ kinds.Syntax → at ≡ utf8_valid_len (take len bytes) → IsComment (take len bytes) (drop len bytes) → ¬ (IsUtf8 (take len bytes)) → IsFault kind bytes at
fault-comment k bytes len at e is comment bad = (byte_in_comment, e, (take len bytes, drop len bytes, sym (take-append-drop len bytes), comment, bad, is))

pub fault-open_comment : (kind : Kind) (bytes following : List ℕ) (at : ℕ) → kind ≡ kinds.Syntax → at ≡ 0 → bytes ≡ 47 ∷ 42 ∷ following → ((k : ℕ) → ¬ (ClosesAt following k)) → IsFault kind bytes at
fault-open_comment k bytes following at e is begins never = (open_comment, e, (following, begins, never, is))

pub fault-byte_in_text : (kind : Kind) (following inside rest : List ℕ) (at : ℕ) → kind ≡ kinds.Syntax → at ≡ 1 + utf8_valid_len inside → following ≡ inside ++ rest → IsInside inside → EndsInside rest → ¬ (IsUtf8 inside) → IsFault kind (34 ∷ following) at
fault-byte_in_text k following inside rest at e is whole in_text ends bad = (byte_in_text, e, (inside, rest, ap (λ bs. 34 ∷ bs) whole, in_text, ends, bad, is))

pub fault-bad_in_text : (kind : Kind) (following inside rest : List ℕ) (at : ℕ) → kind ≡ kinds.Syntax → at ≡ 1 + length inside → following ≡ inside ++ rest → IsInside inside → IsBadInText rest → IsUtf8 inside → IsFault kind (34 ∷ following) at
fault-bad_in_text k following inside rest at e is whole in_text bad utf8 = (bad_in_text, e, (inside, rest, ap (λ bs. 34 ∷ bs) whole, in_text, bad, utf8, is))

pub fault-open_text : (kind : Kind) (following inside : List ℕ) (at : ℕ) → kind ≡ kinds.Syntax → at ≡ 0 → following ≡ inside → IsInside inside → IsUtf8 inside → IsFault kind (34 ∷ following) at
fault-open_text k following inside at e is whole in_text utf8 = (open_text, e, (inside, ap (λ bs. 34 ∷ bs) whole, in_text, utf8, is))

pub digits-prefix_len : (bytes : List ℕ) (len : ℕ) → is_digit (get_or bytes 0 0) ≡ true → len ≡ prefix_len is_digit bytes → AreDigits (take len bytes) (drop len bytes)
unfolding is_digit
digits-prefix_len bytes len e is =
    let P : ℕ → Type 0 = λ n. AreDigits (take n bytes) (drop n bytes) in
    subst P (sym is) (rw (length-prefix_len is_digit bytes) (prefix_len-some is_digit bytes refl e), run-prefix_len is_digit bytes)

pub fault-bad_int : (kind : Kind) (bytes : List ℕ) (len : ℕ) → kind ≡ kinds.Number → AreDigits (take len bytes) (drop len bytes) → (HasLeadingZero (take len bytes) ⊎ (2147483647 < decimal_value (take len bytes))) → IsFault kind bytes 0
fault-bad_int k bytes len e digits bad = (bad_int, e, (take len bytes, drop len bytes, sym (take-append-drop len bytes), digits, bad, refl))

cause-within : (cause : Cause) (bytes : List ℕ) (at : ℕ) → IsCause cause bytes at → at ≤ length bytes
cause-within no_piece bytes at is = omega (arith, is.1)
cause-within bad_int bytes at (text, rest, whole, digits, bad, is) = omega arith
cause-within open_comment bytes at (rest, whole, never, is) = omega arith
cause-within byte_in_comment bytes at (text, rest, whole, comment, bad, is) = omega (arith, ap length whole, length-append text rest, utf8_valid_len_le text)
cause-within byte_in_text bytes at (inside, rest, whole, in_text, ends, bad, is) = omega (arith, ap length whole, length-append inside rest, utf8_valid_len_le inside)
cause-within bad_in_text bytes at (inside, rest, whole, in_text, bad, utf8, is) = omega (arith, ap length whole, length-append inside rest)
cause-within open_text bytes at (inside, whole, in_text, utf8, is) = omega arith

-- the place of a fault stands in what is left, or at its end
pub fault-within : (kind : Kind) (bytes : List ℕ) (at : ℕ) → IsFault kind bytes at → at ≤ length bytes
fault-within k bytes at (cause, e, is) = cause-within cause bytes at is

pub fault-no_piece : (kind : Kind) (bytes : List ℕ) (at : ℕ) → kind ≡ kinds.Syntax → at ≡ 0 → BeginsOtherwise bytes → ((s : Symbol) → starts_with nat_eq bytes (symbol_text s) ≡ false) → IsFault kind bytes at
fault-no_piece k [] at e is other none = absurd other
fault-no_piece k (b ∷ bs) at e is other none = (no_piece, e, ((other.0, other.1, other.2, other.3, none), is))

-- where the check finds no bad byte
pub utf8-none : (bytes : List ℕ) (found : Option ℕ) → ((at : ℕ) → found ≡ Some at → ⊥) → IfNone found (IsUtf8 bytes) → IsUtf8 bytes
utf8-none bytes None never utf8 = utf8
utf8-none bytes (Some at) never utf8 = absurd (never at refl)
