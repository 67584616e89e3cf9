-- Runs of bytes of one kind.
use Rattle.std.proofs.Common.{◌≡◌, ◌<◌, ◌+◌, ℕ, zero, suc, Bool, true, false, cond, List, [], ◌∷◌, take, drop, get_or, subst, refl, arith}
use Rattle.std.specs.List.{prefix_len}
use Rattle.lang_base.specs.Lexical.{is_letter, is_name_byte, IsWord}
use Rattle.syntax_tokens.specs.Piece.{IsRun}

-- a byte that passes or doesn't, before a run
run-cons : (is : ℕ → Bool) (b : ℕ) (bs : List ℕ) (n : ℕ) (v : Bool) → is b ≡ v → IsRun is (take n bs) (drop n bs) → IsRun is (take (cond v (1 + n) 0) (b ∷ bs)) (drop (cond v (1 + n) 0) (b ∷ bs))
run-cons is b bs n true e run =
    let one : suc n ≡ 1 + n = omega arith in
    let P : ℕ → Type 0 = λ m. IsRun is (take m (b ∷ bs)) (drop m (b ∷ bs)) in
    subst P one ((e, run.0), run.1)
run-cons is b bs n false e run = (tt, e)

-- the bytes in front that pass are a run
pub run-prefix_len : (is : ℕ → Bool) (bs : List ℕ) → IsRun is (take (prefix_len is bs) bs) (drop (prefix_len is bs) bs)
run-prefix_len is [] = (tt, tt)
run-prefix_len is (b ∷ bs) = run-cons is b bs (prefix_len is bs) (is b) refl (run-prefix_len is bs)

-- where the first byte passes, the run isn't empty
pub prefix_len-some : (is : ℕ → Bool) (bs : List ℕ) → is 0 ≡ false → is (get_or bs 0 0) ≡ true → 0 < prefix_len is bs
prefix_len-some is [] out e = absurd cc
prefix_len-some is (b ∷ bs) out e = rw e (omega arith)

-- a run after a letter is a word
pub word-run : (bs : List ℕ) (n : ℕ) → 0 < n → is_letter (get_or bs 0 0) ≡ true → IsRun is_name_byte (take n bs) (drop n bs) → IsWord (take n bs)
unfolding is_letter
word-run [] n some e run = absurd cc
word-run (b ∷ bs) zero some e run = absurd (omega arith)
word-run (b ∷ bs) (suc n) some e run = (e, run.0.1)
