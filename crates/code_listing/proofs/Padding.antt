-- What a hole of four places writes of a number.
use Rattle.std.proofs.Common.{◌≡◌, ℕ, zero, suc, ◌-◌, ◌^◌, List, [], ◌∷◌, ◌++◌, length, replicate, false, refl, ap, arith, lit<, append-nil, append_assoc, ◌∙◌, sym}
use Rattle.std.specs.List.{repeat}
use Rattle.std.specs.Fmt.{decimal, styled_decimal, padded_integral, format_spec, char_count}
use Rattle.std.proofs.lemmas.Str.{encode_ascii}
use Rattle.code_instrs.specs.declared.instr.Instr.{Instr}
use Rattle.code_listing.specs.Listing.{right_in_four, instr_name, instr_operand, instr_text}

spaces : (n : ℕ) → repeat {A = ℕ} n (32 ∷ []) ≡ replicate n 32
spaces zero = refl
spaces (suc n) = ap (λ r. 32 ∷ r) (spaces n)

all_left : (n : ℕ) → n - 0 ≡ n
all_left n = omega arith

none_left : (n : ℕ) → n - n ≡ 0
none_left n = omega arith

padded_is : (ds : List ℕ) → padded_integral (format_spec 32 3 0 4 (2 ^ 64 - 1)) false [] ds ≡ replicate (4 - length ds) 32 ++ ds
unfolding padded_integral char_count
padded_is ds = simp (encode_ascii 32 (lit< tt), spaces, all_left, none_left, append-nil)

pub in_four : (n : ℕ) → styled_decimal (format_spec 32 3 0 4 (2 ^ 64 - 1)) n ≡ right_in_four n
in_four n = padded_is (decimal n)

-- the pieces of a line
pub pieces : (front name operand : List ℕ) (at : ℕ) (instr : Instr) → front ≡ right_in_four at → name ≡ instr_name instr
    → operand ≡ instr_operand instr → front ++ (32 ∷ (name ++ operand)) ≡ instr_text at instr
pieces front name operand at instr f n o =
    sym (append_assoc front (32 ∷ name) operand) ∙ ap (λ xs. xs ++ operand) (sym (append_assoc front (32 ∷ []) name))
    ∙ rw (f, n, o) refl
