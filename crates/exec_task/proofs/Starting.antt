-- How a branch starts.
use Rattle.std.proofs.Common.{arith, ◌≡◌, ℕ, ℤ, zero, suc, ◌+◌, ◌-◌, ◌<◌, pos, List, [], ◌∷◌, map, length, sym, ap, ◌∙◌, Some}
use Rattle.std.specs.Prelude.{slice_get, slice_set}
use Rattle.std.specs.Int.{w32, int_wrapping_add, int_wrapping_sub}
use Rattle.lang_meaning.specs.Actions as meaning
use Rattle.lang_meaning.specs.Counts.{number, how_many}
use Rattle.lang_meaning.specs.Statements.{numbered_frame}
use Rattle.lang_meaning.specs.Values.{Value, Int}
use Rattle.code_instrs.specs.Machine.{below, started, each_started}
use Rattle.exec_task.specs.Branches.{spread_starts}
use Rattle.exec_frames.specs.declared.frame.Frame.{Frame}
use Rattle.exec_frames.specs.Names.{plain_value}
use Rattle.exec_task.specs.Names.{plain_region}
use Rattle.exec_task.specs.Tasks.{plain_frame}
use Rattle.exec_task.proofs.Taken.{length_each}

module _ {N M : Type 0} where
  pub start_there : (js : List ℕ) (f : meaning.Frame N M) (b j : ℕ) → slice_get js b ≡ Some j → slice_get (started js f) b ≡ Some (record { body = j; frame = below f })
  start_there [] f b j e = absurd (cc)
  start_there (i ∷ js) f zero j e = let g : i ≡ j = cc in ap (λ k. Some (record { body = k; frame = below f })) g
  start_there (i ∷ js) f (suc b) j e = start_there js f b j e

  each_from : (j x : ℕ) (f : meaning.Frame N M) (start : ℤ) (i n b : ℕ) → b < n
      → slice_get (each_started j x f start i n) b ≡ Some (record { body = j; frame = below (numbered_frame x start (i + b) f) })
  each_from j x f start i zero b h = absurd (omega arith)
  each_from j x f start i (suc n) zero h = let e : i ≡ i + 0 = omega arith in ap (λ k. Some (record { body = j; frame = below (numbered_frame x start k f) })) e
  each_from j x f start i (suc n) (suc b) h =
      let e : suc i + b ≡ i + suc b = omega arith in
      each_from j x f start (suc i) n b (omega arith) ∙ ap (λ k. Some (record { body = j; frame = below (numbered_frame x start k f) })) e

  pub each_there : (j x : ℕ) (f : meaning.Frame N M) (start : ℤ) (n b : ℕ) → b < n
      → slice_get (each_started j x f start 0 n) b ≡ Some (record { body = j; frame = below (numbered_frame x start b f) })
  each_there j x f start n b h =
      let e : 0 + b ≡ b = omega arith in
      each_from j x f start 0 n b h ∙ ap (λ k. Some (record { body = j; frame = below (numbered_frame x start k f) })) e

pub numbered_there : (f : Frame) (g : meaning.Frame ℕ (ℕ × ℕ)) (vs : List (Value ℕ)) (x b : ℕ) (start : ℤ) → plain_frame f ≡ below g
    → vs ≡ slice_set (map plain_value f.values) x (Int (int_wrapping_add w32 start (pos b)))
    → below (numbered_frame x start b g) ≡ record { values = vs; regions = map plain_region f.regions; locals = f.locals; left = f.left }
numbered_there f g vs x b start e h =
    ap (λ (k : meaning.Frame ℕ (ℕ × ℕ)). record k { values = slice_set k.values x (Int (int_wrapping_add w32 start (pos b))) }) (sym e)
    ∙ ap {A = List (Value ℕ)} {B = meaning.Frame ℕ (ℕ × ℕ)} (λ v. record { values = v; regions = map plain_region f.regions; locals = f.locals; left = f.left }) (sym h)

pub spread_there : (j x b : ℕ) (f : meaning.Frame ℕ (ℕ × ℕ)) (left next total : Value ℕ) (st : List (Value ℕ))
    → b < how_many (number total)
    → slice_get (spread_starts j x f (left ∷ next ∷ total ∷ st)) b
    ≡ Some (record { body = j; frame = below (numbered_frame x (int_wrapping_sub w32 (number next) (pos (how_many (number total) - how_many (number left)))) b f) })
spread_there j x b f left next total st h = each_there j x f (int_wrapping_sub w32 (number next) (pos (how_many (number total) - how_many (number left)))) (how_many (number total)) b h

pub spread_count : (j x : ℕ) (f : meaning.Frame ℕ (ℕ × ℕ)) (left next total : Value ℕ) (st : List (Value ℕ))
    → length (spread_starts j x f (left ∷ next ∷ total ∷ st)) ≡ how_many (number total)
spread_count j x f left next total st = length_each j x f (int_wrapping_sub w32 (number next) (pos (how_many (number total) - how_many (number left)))) 0 (how_many (number total))
