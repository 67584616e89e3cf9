-- Lines and their pieces, over plain variables.
use Rattle.std.proofs.Common.{◌≡◌, ◌≢◌, ℕ, ℤ, pos, negsuc, suc, ◌+◌, ◌<◌, ◌^◌, List, [], ◌∷◌, ◌++◌, length, take, drop, get_or, take-append-drop, FitsSigned, refl, sym, ap, ◌∙◌, subst, arith}
use Rattle.std.specs.Int.{w32}
use Rattle.std.specs.List.{AllByRecursion}
use Rattle.std.specs.Fmt.{decimal, signed_decimal}
use Rattle.std.specs.Str.Parse.{AllDigits}
use Rattle.std.proofs.lemmas.Fmt.{decimal_is_IsNumeral}
use Rattle.std.proofs.lemmas.Str.Parse.{digit_from_value}
use Rattle.std.proofs.lemmas.List.{take_more, drop_more}
use Rattle.tool_trace.specs.Pieces.{IsCut}

abbrev pub Without : ℕ → List ℕ → Type 0
Without byte text = AllByRecursion (λ b. b ≢ byte) text

-- a text is cut in one way
parts-unique : (byte : ℕ) (f g r s : List ℕ) → Without byte f → Without byte g → f ++ byte ∷ r ≡ g ++ byte ∷ s → (f ≡ g) × (r ≡ s)
parts-unique byte [] [] r s hf hg e = (refl, cc)
parts-unique byte [] (b ∷ g) r s hf hg e = absurd (hg.0 (sym (ap (λ l. get_or l 0 0) e)))
parts-unique byte (b ∷ f) [] r s hf hg e = absurd (hf.0 (ap (λ l. get_or l 0 0) e))
parts-unique byte (b ∷ f) (c ∷ g) r s hf hg e =
    let rest = parts-unique byte f g r s hf.1 hg.1 (ap (drop 1) e) in
    (ap (λ l. get_or l 0 0 ∷ f) e ∙ ap (λ l. c ∷ l) rest.0, rest.1)

pub cut-unique : (byte : ℕ) (text f r g s : List ℕ) → IsCut byte text f r → IsCut byte text g s → (f ≡ g) × (r ≡ s)
cut-unique byte text f r g s a b = parts-unique byte f g r s a.first b.first (sym a.is ∙ b.is)

-- digits have no other byte
digits-without : (byte : ℕ) → byte < 48 → (text : List ℕ) → AllDigits 10 text → Without byte text
digits-without byte low [] all = tt
digits-without byte low (c ∷ cs) all =
    (λ e. let r = digit_from_value c all.0 in omega (arith, r, e, low), digits-without byte low cs all.1)

pub decimal-without : (byte n : ℕ) → byte < 48 → n < 2 ^ 64 → Without byte (decimal n)
decimal-without byte n low small = digits-without byte low (decimal n) (decimal_is_IsNumeral n small).0.1

pub signed-without : (byte : ℕ) (z : ℤ) → byte < 45 → FitsSigned w32 z → Without byte (signed_decimal z)
signed-without byte (pos n) low fits = let small : n < 2147483648 = fits.sfits in decimal-without byte n (omega (arith, low)) (omega (arith, small))
signed-without byte (negsuc n) low fits =
    let small : n < 2147483648 = fits.sfits in (λ e. omega (arith, e, low), decimal-without byte (suc n) (omega (arith, low)) (omega (arith, small)))

pub without-append : (byte : ℕ) (f g : List ℕ) → Without byte f → Without byte g → Without byte (f ++ g)
without-append byte [] g hf hg = hg
without-append byte (b ∷ f) g hf hg = (hf.0, without-append byte f g hf.1 hg)

-- one byte more that isn't this one
pub without-more : (byte : ℕ) (text : List ℕ) (i : ℕ) → i < length text → Without byte (take i text) → get_or text i 0 ≢ byte → Without byte (take (i + 1) text)
without-more byte text i within before other = rw (take_more text i 0 within) (without-append byte (take i text) _ before (other, tt))

-- where a byte stands, a text is cut
pub cut-at : (byte : ℕ) (text : List ℕ) (i : ℕ) → i < length text → Without byte (take i text) → get_or text i 0 ≡ byte → IsCut byte text (take i text) (drop (i + 1) text)
cut-at byte text i within before is = record {
  is = sym (take-append-drop i text) ∙ ap (λ r. take i text ++ r) (drop_more text i 0 within ∙ ap (λ b. b ∷ drop (i + 1) text) is);
  first = before;
}

has-byte : (byte : ℕ) (front rest : List ℕ) → Without byte (front ++ byte ∷ rest) → ⊥
has-byte byte [] rest without = without.0 refl
has-byte byte (b ∷ front) rest without = has-byte byte front rest without.1

-- a text without a byte isn't cut
pub uncut : (byte : ℕ) (text front rest : List ℕ) → Without byte text → IsCut byte text front rest → ⊥
uncut byte text front rest without cut = has-byte byte front rest (subst (Without byte) cut.is without)
