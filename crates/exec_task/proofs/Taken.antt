-- What is taken off a stack.
use Rattle.std.proofs.Common.{◌≡◌, ℕ, zero, suc, ◌<◌, ◌≤◌, ℤ, List, [], ◌∷◌, map, length, take, drop, refl, ap, arith, Some, None}
use Rattle.std.specs.Prelude.{slice_get}
use Rattle.lang_base.specs.declared.value.Value.{Value as Constant}
use Rattle.lang_meaning.specs.Values.{Value}
use Rattle.lang_meaning.specs.Actions.{Frame}
use Rattle.code_instrs.specs.Machine.{Stand, Stuck, one, taken, each_started}
use Rattle.exec_frames.specs.Names.{plain_value}

module _ {M : Type 0} where
  pub taken_short : (n : ℕ) (st : List (Value ℕ)) (k : List (Value ℕ) → List (Value ℕ) → Stand ℕ M) → length st < n → taken n st k ≡ Stuck
  taken_short zero st k h = absurd (omega arith)
  taken_short (suc n) [] k h = refl
  taken_short (suc n) (v ∷ st) k h = taken_short n st (λ vs rest. k (v ∷ vs) rest) (omega arith)

  pub taken_all : (n : ℕ) (st : List (Value ℕ)) (k : List (Value ℕ) → List (Value ℕ) → Stand ℕ M) → n ≤ length st → taken n st k ≡ k (take n st) (drop n st)
  taken_all zero st k h = refl
  taken_all (suc n) [] k h = absurd (omega arith)
  taken_all (suc n) (v ∷ st) k h = taken_all n st (λ vs rest. k (v ∷ vs) rest) (omega arith)

  pub taken_none : (n : ℕ) (s : List Constant) (k : List (Value ℕ) → Value ℕ → List (Value ℕ) → Stand ℕ M) → slice_get s n ≡ None
      → taken n (map plain_value s) (λ vs rest. one rest (λ v st. k vs v st)) ≡ Stuck
  taken_none zero [] k e = refl
  taken_none zero (v ∷ s) k e = absurd (cc)
  taken_none (suc n) [] k e = refl
  taken_none (suc n) (v ∷ s) k e = taken_none n s (λ vs w st. k (plain_value v ∷ vs) w st) e

  pub taken_one : (n : ℕ) (s : List Constant) (v : Constant) (k : List (Value ℕ) → Value ℕ → List (Value ℕ) → Stand ℕ M) → slice_get s n ≡ Some v
      → taken n (map plain_value s) (λ vs rest. one rest (λ v st. k vs v st)) ≡ k (take n (map plain_value s)) (plain_value v) (map plain_value (drop (suc n) s))
  taken_one zero [] v k e = absurd (cc)
  taken_one zero (w ∷ s) v k e = let f : w ≡ v = cc in ap (λ x. k [] (plain_value x) (map plain_value s)) f
  taken_one (suc n) [] v k e = absurd (cc)
  taken_one (suc n) (w ∷ s) v k e = taken_one n s v (λ vs x st. k (plain_value w ∷ vs) x st) e

pub length_each : {N M : Type 0} (j x : ℕ) (f : Frame N M) (start : ℤ) (i n : ℕ) → length (each_started j x f start i n) ≡ n
length_each j x f start i zero = refl
length_each j x f start i (suc n) = ap suc (length_each j x f start (suc i) n)
