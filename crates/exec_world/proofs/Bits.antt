-- Bits of a word that are set, cleared and masked.
use Rattle.std.proofs.Common.{arith, ◌≡◌, ◌≢◌, ◌⊎◌, inl, inr, ◌<◌, ◌≤◌, ◌-◌, ◌*◌, ◌^◌, ◌%◌, ℕ, zero, suc, min, refl, sym, ap, ◌∙◌}
use Rattle.std.proofs.lemmas.Bool.{cases_lt}
use Rattle.std.specs.Prelude.{bit_or, bit_and}
use Rattle.std.specs.Int.{bit_at, bit_not, w64, trailing_zeros}
use Rattle.std.proofs.lemmas.Nat.Bits.{bit_at-lt, bit_at-zero, bit_at_set_same, bit_at_set_other, bit_at_clear_same, bit_at_clear_other, bit_at_and, bit_at_mask_inside, bit_at_mask_below, ones_shl, bit_at-trailing_zeros}
use Rattle.exec_world.specs.Words.{InWord, IsWord, IsLastInWord}

-- two places have two bits
apart_bits : (k place : ℕ) → k < 64 → place < 64 → k ≢ place → 63 - k ≢ 63 - place
apart_bits k place lk lp apart same = apart (omega (arith, lk, lp, same))

-- a word with a number isn't 0
pub not_zero : (word k : ℕ) → InWord word k → 0 < word
not_zero zero k has = absurd (zero≢one (sym (bit_at-zero (63 - k)) ∙ has))
  where
    zero≢one : ◌≡◌ {A = ℕ} 0 1 → ⊥
    zero≢one e = omega (arith, e)
not_zero (suc n) k has = omega arith

pub set_there : (word place : ℕ) → place < 64 → InWord (bit_or word (1 * 2 ^ (63 - place) % 2 ^ 64)) place
set_there word place lt = bit_at_set_same w64 word (63 - place) (omega (arith, lt))

pub set_other : (word place k : ℕ) → place < 64 → k < 64 → k ≢ place
    → bit_at (bit_or word (1 * 2 ^ (63 - place) % 2 ^ 64)) (63 - k) ≡ bit_at word (63 - k)
set_other word place k lp lk apart = bit_at_set_other w64 word (63 - place) (omega (arith, lp)) (63 - k) (apart_bits k place lk lp apart)

pub clear_there : (word place : ℕ) → place < 64 → InWord (bit_and word (bit_not w64 (1 * 2 ^ (63 - place) % 2 ^ 64))) place → ⊥
clear_there word place lt has = zero≢one (sym (bit_at_clear_same w64 word (63 - place) (omega (arith, lt))) ∙ has)
  where
    zero≢one : ◌≡◌ {A = ℕ} 0 1 → ⊥
    zero≢one e = omega (arith, e)

pub clear_other : (word place k : ℕ) → place < 64 → k < 64 → k ≢ place
    → bit_at (bit_and word (bit_not w64 (1 * 2 ^ (63 - place) % 2 ^ 64))) (63 - k) ≡ bit_at word (63 - k)
clear_other word place k lp lk apart =
    bit_at_clear_other w64 word (63 - place) (omega (arith, lp)) (63 - k) (omega (arith, lk)) (apart_bits k place lk lp apart)

-- the lowest bit is that of the last place
pub last_of : (word : ℕ) → IsWord word → IsLastInWord word 63 (63 - trailing_zeros w64 word)
last_of word is =
    let low = bit_at-trailing_zeros w64 word is.0 is.1 in
    let t = trailing_zeros w64 word in
    let lt : t < 64 = low.0 in
    let back : t ≡ 63 - (63 - t) = omega (arith, lt) in record {
      there = ap (bit_at word) (sym back) ∙ low.1;
      within = omega arith;
      last = λ j after within has.
          let less : 63 - j < t = omega (arith, lt, after, within) in
          let zero_there = low.2 (63 - j) less in
          omega (arith, has, zero_there);
    }

-- what is left of a word up to a place
abbrev pub up_to : ℕ → ℕ → ℕ
up_to word place = bit_and word ((2 ^ 64 - 1) * 2 ^ (63 - place) % 2 ^ 64)

masked : (word place : ℕ) → up_to word place ≡ bit_and word (2 ^ 64 - 2 ^ (63 - place))
masked word place = ap (bit_and word) (ones_shl 64 (63 - place) (omega arith))

pub kept_up_to : (word place k : ℕ) → k ≤ place → place < 64 → InWord word k → InWord (up_to word place) k
kept_up_to word place k le lt has =
    ap (λ m. bit_at m (63 - k)) (masked word place) ∙ bit_at_and word (2 ^ 64 - 2 ^ (63 - place)) (63 - k)
    ∙ ap (min (bit_at word (63 - k))) (bit_at_mask_inside (63 - place) 64 (63 - k) (omega (arith, le, lt)) (omega arith))
    ∙ ap (λ b. min b 1) has

pub was_up_to : (word place k : ℕ) → place < 64 → k < 64 → InWord (up_to word place) k → (k ≤ place) × InWord word k
was_up_to word place k lt lk has =
    let both : min (bit_at word (63 - k)) (bit_at (2 ^ 64 - 2 ^ (63 - place)) (63 - k)) ≡ 1 =
    sym (ap (λ m. bit_at m (63 - k)) (masked word place) ∙ bit_at_and word (2 ^ 64 - 2 ^ (63 - place)) (63 - k)) ∙ has in
    let one = bit_at-lt word (63 - k) in
    (by_case (cases_lt place k) both, least (bit_at word (63 - k)) (bit_at (2 ^ 64 - 2 ^ (63 - place)) (63 - k)) one both)
  where
    least : (a b : ℕ) → a < 2 → min a b ≡ 1 → a ≡ 1
    least zero b lt e = absurd (omega (arith, e))
    least (suc zero) b lt e = refl
    least (suc (suc a)) b lt e = absurd (omega (arith, lt))

    least_zero : (a : ℕ) → min a 0 ≡ 1 → ⊥
    least_zero zero e = omega (arith, e)
    least_zero (suc a) e = omega (arith, e)

    by_case : (place < k) ⊎ (k ≤ place) → min (bit_at word (63 - k)) (bit_at (2 ^ 64 - 2 ^ (63 - place)) (63 - k)) ≡ 1 → k ≤ place
    by_case (inr le) e = le
    by_case (inl past) e =
        absurd (least_zero (bit_at word (63 - k))
        (sym (ap (min (bit_at word (63 - k))) (bit_at_mask_below (63 - place) 64 (63 - k) (omega (arith, past, lk)))) ∙ e))

pub none_up_to : (word place : ℕ) → place < 64 → up_to word place ≡ 0 → (k : ℕ) → k ≤ place → InWord word k → ⊥
none_up_to word place lt none k le has =
    let zeros = bit_at-zero (63 - k) in
    let one : bit_at 0 (63 - k) ≡ 1 = ap (λ m. bit_at m (63 - k)) (sym none) ∙ kept_up_to word place k le lt has in
    omega (arith, zeros, one)

pub last_kept : (word place k : ℕ) → place < 64 → IsLastInWord (up_to word place) 63 k → IsLastInWord word place k
last_kept word place k lt found =
    let within = found.within in
    let there = was_up_to word place k lt (omega (arith, within)) found.there in record {
      there = there.1;
      within = there.0;
      last = λ j after le has. found.last j after (omega (arith, le, lt)) (kept_up_to word place j le lt has);
    }
