-- Different local regions of a run are different elements of region paths, so a setting gives an environment.
use Rattle.std.proofs.Common.{◌≡◌, ℕ, ℤ, zero, suc, pos, negsuc, ◌+◌, ◌*◌, List, [], ◌∷◌, refl, sym, ap, arith}
use Rattle.std.specs.Prelude.{All}
use Rattle.lang_base.specs.declared.effect.Constraint.{Constraint}
use Rattle.lang_base.specs.Matching.{IsEnv, Holds}
use Rattle.region_paths.specs.Laws.{another}
use Rattle.runs_theory.specs.Objects.{Path, LocalRegion, Made, Unmade}
use Rattle.runs_sound.specs.Settings.{pair, path_code, local_code, local_in, ArePlain, Setting, env_of}

pair_one : (a b c d : ℕ) → pair a b ≡ pair c d → (a ≡ c) × (b ≡ d)
pair_one zero b zero d e = (refl, omega (arith, e))
pair_one zero b (suc c) d e = absurd (omega (arith, e))
pair_one (suc a) b zero d e = absurd (omega (arith, e))
pair_one (suc a) b (suc c) d e = let h : pair a b ≡ pair c d = omega (arith, e) in let k = pair_one a b c d h in (ap (λ n. suc n) k.0, k.1)

pair_positive : (a b : ℕ) → pair a b ≡ 0 → ⊥
pair_positive zero b e = omega (arith, e)
pair_positive (suc a) b e = pair_positive a b (omega (arith, e))

path_one : (p q : Path) → path_code p ≡ path_code q → p ≡ q
path_one [] [] e = refl
path_one [] (v ∷ q) e = absurd (pair_positive v.0 _ (sym e))
path_one (u ∷ p) [] e = absurd (pair_positive u.0 _ e)
path_one (u ∷ p) (v ∷ q) e =
    let h = pair_one u.0 _ v.0 _ e in
    let k = pair_one u.1 _ v.1 _ h.1 in
    let r = path_one p q k.1 in
    λ i. (h.0 i, k.0 i) ∷ r i

pub code_one : (l m : LocalRegion) → local_code l ≡ local_code m → l ≡ m
code_one (Unmade r) (Unmade q) e = ap Unmade (ap (λ z. z.1) e)
code_one (Unmade r) (Made q d) e = let k : 0 ≡ 2 * path_code q + 2 = ap (λ z. z.0) e in absurd (omega (arith, k))
code_one (Made p c) (Unmade q) e = let k : 2 * path_code p + 2 ≡ 0 = ap (λ z. z.0) e in absurd (omega (arith, k))
code_one (Made p c) (Made q d) e =
    let k : 2 * path_code p + 2 ≡ 2 * path_code q + 2 = ap (λ z. z.0) e in
    let h : path_code p ≡ path_code q = omega (arith, k) in
    let r = path_one p q h in
    let s : c ≡ d = ap (λ z. z.1) e in
    λ i. Made (r i) (s i)

pub even_code : (l : LocalRegion) (n : ℕ) → (local_code l).0 ≡ 2 * n + 1 → ⊥
even_code (Unmade r) n e = omega (arith, e)
even_code (Made p c) n e = omega (arith, e)

local_one : (made : ℕ → LocalRegion) → ((r q : ℕ) → made r ≡ made q → r ≡ q) → (a b c d : ℕ) → local_in made a b ≡ local_in made c d → (a ≡ c) × (b ≡ d)
local_one made one a zero c zero e = (one a c (code_one _ _ e), refl)
local_one made one a zero c (suc d) e = absurd (even_code (made a) d (ap (λ z. z.0) e))
local_one made one a (suc b) c zero e = absurd (even_code (made c) b (sym (ap (λ z. z.0) e)))
local_one made one a (suc b) c (suc d) e =
    let k : 2 * b + 1 ≡ 2 * d + 1 = ap (λ z. z.0) e in
    let h : b ≡ d = omega (arith, k) in
    (ap (λ z. z.1) e, ap (λ n. suc n) h)

another_differs : (k : ℤ) → k ≡ another k → ⊥
another_differs (pos zero) e = cc
another_differs (pos (suc n)) e = cc
another_differs (negsuc n) e = cc

-- a setting with plain regions and distinct local regions, of which the constraints hold
pub setting_env : (given : List Constraint) (g : Setting) → ArePlain g.regions → ((r q : ℕ) → g.made r ≡ g.made q → r ≡ q) → All (Holds (env_of g)) given →
    IsEnv given (env_of g)
setting_env given g plain one hold = record {
  regions = plain;
  copies = λ v e. another_differs (g.index v) e;
  locals = local_one g.made one;
  constraints = hold;
}

pub unmade_one : (r q : ℕ) → Unmade r ≡ Unmade q → r ≡ q
unmade_one r q e = cc
