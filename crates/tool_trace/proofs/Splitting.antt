-- Runs of equal numbers, over plain variables.
use Rattle.std.proofs.Common.{◌≡◌, ℕ, zero, suc, ◌-◌, ◌<◌, ◌≤◌, eqb, ltb, true, false, List, [], ◌∷◌, ◌++◌, length, take, drop, replicate, Some, refl, sym, ap, ◌∙◌, ⊎_elim, arith, ne_eqb, eq-eqb, take-append-drop}
use Rattle.std.specs.Prelude.{slice_get}
use Rattle.std.specs.List.{flat_map}
use Rattle.std.proofs.lemmas.Bool.{cases_Bool, cond-true, cond-false}
use Rattle.std.proofs.lemmas.List.{flat_map_more}
use Rattle.tool_trace.specs.declared.runs.Run.{Run}
use Rattle.tool_trace.specs.Runs.{put_first, runs_of, last_of, line_from}
use Rattle.tool_trace.specs.Text.{line, run_text, schedule_text}

abbrev run : ℕ → ℕ → Run
run task many = record { task = task; many = many }

put_first-other : (x y : ℕ) (R : List Run) → (x ≡ y → ⊥) → put_first x (put_first y R) ≡ run x 1 ∷ put_first y R
put_first-other x y [] other = cond-false (eqb x y) _ _ (ne_eqb x y other)
put_first-other x y (r ∷ rs) other = ⊎_elim
    (λ (t : eqb y r.task ≡ true). rw t (cond-false (eqb x y) _ _ (ne_eqb x y other)))
    (λ (t : eqb y r.task ≡ false). rw t (cond-false (eqb x y) _ _ (ne_eqb x y other)))
    (cases_Bool (eqb y r.task))

put_first-append : (x : ℕ) (r : Run) (rs T : List Run) → put_first x (r ∷ rs ++ T) ≡ put_first x (r ∷ rs) ++ T
put_first-append x r rs T = ⊎_elim
    (λ (t : eqb x r.task ≡ true). rw t refl)
    (λ (t : eqb x r.task ≡ false). rw t refl)
    (cases_Bool (eqb x r.task))

put_first-some : (x : ℕ) (R : List Run) → (r : Run) × (rs : List Run) × (put_first x R ≡ r ∷ rs)
put_first-some x [] = (run x 1, [], refl)
put_first-some x (r ∷ rs) = ⊎_elim
    (λ (t : eqb x r.task ≡ true). (run x (suc r.many), rs, cond-true _ _ _ t))
    (λ (t : eqb x r.task ≡ false). (run x 1, r ∷ rs, cond-false _ _ _ t))
    (cases_Bool (eqb x r.task))

seam-one : (x : ℕ) (t : List ℕ) → (slice_get t 0 ≡ Some x → ⊥) → put_first x (runs_of t) ≡ run x 1 ∷ runs_of t
seam-one x [] apart = refl
seam-one x (y ∷ ys) apart = put_first-other x y (runs_of ys) (λ e. apart (ap Some (sym e)))

-- where the last number of one list isn't the first of the other, the runs are those of each
seam : (s t : List ℕ) → ((k : ℕ) → last_of s ≡ Some k → slice_get t 0 ≡ Some k → ⊥) → runs_of (s ++ t) ≡ runs_of s ++ runs_of t
seam [] t apart = refl
seam (x ∷ []) t apart = seam-one x t (apart x refl)
seam (x ∷ y ∷ ys) t apart =
    let some = put_first-some y (runs_of ys) in
    ap (put_first x) (seam (y ∷ ys) t apart)
    ∙ ap (λ R. put_first x (R ++ runs_of t)) some.2
    ∙ put_first-append x some.0 some.1 (runs_of t)
    ∙ ap (λ R. put_first x R ++ runs_of t) (sym some.2)

runs_of-equal : (k m : ℕ) → runs_of (replicate (suc m) k) ≡ run k (suc m) ∷ []
runs_of-equal k zero = refl
runs_of-equal k (suc m) = ap (put_first k) (runs_of-equal k m) ∙ cond-true (eqb k k) _ _ (eq-eqb k k refl)

last_of-equal : (k m : ℕ) → last_of (replicate (suc m) k) ≡ Some k
last_of-equal k zero = refl
last_of-equal k (suc m) = last_of-equal k m

last_of-append : (s : List ℕ) (y : ℕ) (t : List ℕ) → last_of (s ++ y ∷ t) ≡ last_of (y ∷ t)
last_of-append [] y t = refl
last_of-append (x ∷ []) y t = refl
last_of-append (x ∷ z ∷ zs) y t = last_of-append (z ∷ zs) y t

-- the last number after a run
pub last_after : (s : List ℕ) (k n : ℕ) → 0 < n → last_of (s ++ replicate n k) ≡ Some k
last_after s k zero some = absurd (omega (arith, some))
last_after s k (suc m) some = last_of-append s k (replicate m k) ∙ last_of-equal k m

slice_get-drop : (n : ℕ) (xs : List ℕ) → slice_get (drop n xs) 0 ≡ slice_get xs n
slice_get-drop zero xs = refl
slice_get-drop (suc n) [] = refl
slice_get-drop (suc n) (x ∷ xs) = slice_get-drop n xs

-- as many equal numbers as there are at the front are the first run
pub first_run-is : (xs : List ℕ) (k n : ℕ) → slice_get xs 0 ≡ Some k → n ≤ length xs → take n xs ≡ replicate n k → (slice_get xs n ≡ Some k → ⊥)
    → (1 ≤ n) × (n ≤ length xs) × (runs_of xs ≡ run k n ∷ runs_of (drop n xs))
first_run-is xs k zero first within equal other = absurd (other first)
first_run-is xs k (suc m) first within equal other = (
  omega arith,
  within,
  ap runs_of (sym (take-append-drop (suc m) xs) ∙ ap (λ f. f ++ drop (suc m) xs) equal)
      ∙ seam (replicate (suc m) k) (drop (suc m) xs) (λ j last next. other (sym (slice_get-drop (suc m) xs) ∙ next ∙ (sym last ∙ last_of-equal k m)))
      ∙ ap (λ R. R ++ runs_of (drop (suc m) xs)) (runs_of-equal k m),
)

-- a schedule that goes on by a run of another task has one line more
pub schedule_text-more : (s : List ℕ) (k n : ℕ) → 0 < n → (last_of s ≡ Some k → ⊥) → schedule_text (s ++ replicate n k) ≡ schedule_text s ++ line (run_text (run k n))
schedule_text-more s k zero some other = absurd (omega (arith, some))
schedule_text-more s k (suc m) some other =
    ap (flat_map (λ r. line (run_text r)))
    (seam s (replicate (suc m) k) (λ j last first. other (last ∙ sym first)) ∙ ap (λ R. runs_of s ++ R) (runs_of-equal k m))
    ∙ sym (flat_map_more (λ r. line (run_text r)) [] (runs_of s) (run k (suc m)))

-- the line of a number that is in the first run, and of one after it
pub line-here : (n : ℕ) (R : List Run) (r : Run) (rs : List Run) (at : ℕ) → R ≡ r ∷ rs → at < r.many → line_from n R at ≡ n
line-here n R r rs at is h = rw is (cond-true (ltb at r.many) _ _ (grind (arith, h)))

pub line-later : (n : ℕ) (R : List Run) (r : Run) (rs : List Run) (at : ℕ) → R ≡ r ∷ rs → r.many ≤ at → line_from n R at ≡ line_from (suc n) rs (at - r.many)
line-later n R r rs at is h = rw is (cond-false (ltb at r.many) _ _ (grind (arith, h)))
