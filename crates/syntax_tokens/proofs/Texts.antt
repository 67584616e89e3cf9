-- The insides of texts.
use Rattle.std.proofs.Common.{◌≡◌, ◌≢◌, ◌≤◌, ◌+◌, ◌-◌, ◌⊎◌, ℕ, Bool, true, false, not, ◌||◌, ◌==◌, List, [], ◌∷◌, ◌++◌, length, take, drop, get_or, sym, subst, refl, ap, ◌∙◌, arith, inl, inr, append_assoc, Some, None}
use Rattle.std.proofs.lemmas.List.{take_rest}
use Rattle.std.proofs.Math.Seq.{take-add}
use Rattle.std.proofs.lemmas.Bool.{eqb-true}
use Rattle.std.specs.List.{slice_get}
use Rattle.syntax_tokens.specs.Piece.{IsInside, plain, escape, is_plain, is_escape, StopsAt}
use Rattle.syntax_tokens.specs.Fault.{IsBadInText, EndsInside}

-- one part more
pub inside-more : (bytes left tail : List ℕ) (at len : ℕ) → left ≡ drop at bytes → ((rest : List ℕ) → IsInside rest → IsInside (take at bytes ++ rest)) → IsInside (take len left ++ tail) → IsInside (take (at + len) bytes ++ tail)
inside-more bytes left tail at len is before part =
    let P : List ℕ → Type 0 = λ bs. IsInside (take len bs ++ tail) in
    rw (take-add at len bytes, append_assoc) (before (take len (drop at bytes) ++ tail) (subst P is part))

-- what stops the inside and isn't a quote may not stand there
pub bad-no_quote : (rest : List ℕ) (b : ℕ) → EndsInside rest → slice_get rest 0 ≡ Some b → b ≢ 34 → IsBadInText rest
bad-no_quote [] b ends e other = absurd cc
bad-no_quote (c ∷ rest) b (inl quote) e other = absurd (other (cc (e, quote)))
bad-no_quote (c ∷ rest) b (inr bad) e other = bad

one-of : (x y z : Bool) → not (x || y || z) ≡ false → (x ≡ true) ⊎ (y ≡ true) ⊎ (z ≡ true)
one-of true y z e = inl refl
one-of false true z e = inr (inl refl)
one-of false false true e = inr (inr refl)
one-of false false false e = absurd cc

-- a byte that isn't plain
not-plain : (b : ℕ) → is_plain b ≡ false → (b ≡ 34) ⊎ (b ≡ 92) ⊎ (b ≡ 10)
unfolding is_plain
not-plain b e = elim (one-of (b == 34) (b == 92) (b == 10) e) [
  | inl h ↦ inl (eqb-true b 34 h)
  | inr h ↦ elim h [ inl g ↦ inr (inl (eqb-true b 92 g)) | inr g ↦ inr (inr (eqb-true b 10 g)) ]
]

pub inside-plain : (bytes tail : List ℕ) → 1 ≤ length bytes → is_plain (get_or bytes 0 0) ≡ true → IsInside tail → IsInside (take 1 bytes ++ tail)
inside-plain [] tail some e inside = absurd (omega arith)
inside-plain (b ∷ bs) tail some e inside = plain b tail e inside

pub inside-escape : (bytes tail : List ℕ) → 2 ≤ length bytes → get_or bytes 0 0 ≡ 92 → is_escape (get_or bytes 1 0) ≡ true → IsInside tail → IsInside (take 2 bytes ++ tail)
inside-escape [] tail some e f inside = absurd (omega arith)
inside-escape (b ∷ []) tail some e f inside = absurd (omega arith)
inside-escape (b ∷ c ∷ bs) tail some e f inside =
    let P : ℕ → Type 0 = λ x. IsInside (x ∷ c ∷ tail) in
    subst P (sym e) (escape c tail f inside)

stops-escape : (bytes : List ℕ) → is_escape (get_or bytes 0 0) ≡ false → StopsAt is_escape bytes
stops-escape [] e = tt
stops-escape (b ∷ bs) e = e

-- what is neither plain nor an escape ends the inside
pub ends-otherwise : (bytes : List ℕ) → is_plain (get_or bytes 0 0) ≡ false → (get_or bytes 0 0 ≡ 92 → is_escape (get_or bytes 1 0) ≡ false) → EndsInside bytes
ends-otherwise [] e f = tt
ends-otherwise (b ∷ bs) e f = elim (not-plain b e) [
  | inl h ↦ inl h
  | inr h ↦ elim h [ inl g ↦ inr (inr (g, stops-escape bs (f g))) | inr g ↦ inr (inl g) ]
]

pub nothing-left : (rest : List ℕ) → None ≡ slice_get rest 0 → rest ≡ []
nothing-left [] e = refl
nothing-left (b ∷ rest) e = absurd cc

-- the byte after the first
following-first : (bytes left : List ℕ) → left ≡ drop 1 bytes → get_or left 0 0 ≡ get_or bytes 1 0
following-first [] left is = ap (λ bs. get_or bs 0 0) is
following-first (b ∷ bs) left is = ap (λ bs. get_or bs 0 0) is

pub escape-following : (bytes : List ℕ) (answer truth : Bool) → answer ≡ is_escape (get_or (take (length bytes - 1) (drop 1 bytes)) 0 0) → answer ≡ truth → is_escape (get_or bytes 1 0) ≡ truth
escape-following bytes answer truth e is = ap is_escape (sym (following-first bytes _ (take_rest bytes 1))) ∙ sym e ∙ is

-- an escape has two bytes
pub escape-long : (bytes : List ℕ) → is_escape (get_or bytes 1 0) ≡ true → 2 ≤ length bytes
unfolding is_escape
escape-long [] e = absurd cc
escape-long (b ∷ []) e = absurd cc
escape-long (b ∷ c ∷ bs) e = omega arith
