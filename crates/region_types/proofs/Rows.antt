-- The rows of superclasses, in the order of their class numbers.
use Rattle.std.proofs.Common.{◌≡◌, ◌==◌, ℕ, zero, suc, ◌+◌, ◌-◌, ◌<◌, ◌≤◌, List, [], ◌∷◌, length, get_or, Some, None, Ok, Err, refl, sym, ◌∙◌, subst, ⊎_elim}
use Rattle.std.proofs.Common.{arith}
use Rattle.std.proofs.lemmas.Bool.{eq-eqb, ne_eqb, cond-false, cases_eq, cases_lt}
use Rattle.std.specs.List.{AllAdjacentBelow}
use Rattle.std.specs.List.Sorted.{IsBinarySearchResult, IsNonDecreasingBy}
use Rattle.std.specs.Ordering.{nat_cmp, ordering_index}
use Rattle.std.proofs.lemmas.Cmp.{ranked}
use Rattle.std.proofs.lemmas.Bool.Decides.{nat_tests}
use Rattle.std.proofs.lemmas.List.Recursion.{found_at}
use Rattle.lang_base.specs.declared.ty.Super.{Super}
use Rattle.lang_base.specs.Types.{plain_type, Ordered, superclass}

-- each row stands below the next
abbrev pub Rising : List Super → ℕ → Type 0
Rising supers high = AllAdjacentBelow (λ row next. row.class < next.class) supers high

far : (supers : List Super) (i n : ℕ) (d : Super) → Rising supers (length supers) → i + suc n < length supers →
    (get_or supers i d).class < (get_or supers (i + suc n) d).class
far supers i zero d up lt = subst (λ k. (get_or supers i d).class < (get_or supers k d).class) {x = i + 1} (omega arith) (up i d (omega arith))
far supers i (suc n) d up lt =
    let before = far supers i n d up (omega arith) in
    let last : (get_or supers (i + suc n) d).class < (get_or supers (i + suc n + 1) d).class = up (i + suc n) d (omega arith) in
    subst (λ k. (get_or supers i d).class < (get_or supers k d).class) {x = i + suc n + 1} (omega arith) (omega arith)

pub ordered_rising : (supers : List Super) → Rising supers (length supers) → Ordered supers
ordered_rising supers up i j d lt within =
    subst (λ k. (get_or supers i d).class < (get_or supers k d).class) {x = i + suc (j - suc i)} (omega arith) (far supers i (j - suc i) d up (omega arith))

no_row : (supers : List Super) (c : ℕ) → ((k : ℕ) (d : Super) → k < length supers → (get_or supers k d).class ≡ c → ⊥) → superclass supers c ≡ None
no_row [] c none = refl
no_row (row ∷ rows) c none =
    cond-false (row.class == c) _ _ (ne_eqb row.class c (none 0 row (omega arith))) ∙ no_row rows c (λ k d lt. none (suc k) d (omega arith))

index_rises : (x y c : ℕ) → x ≤ y → ordering_index (nat_cmp x c) ≤ ordering_index (nat_cmp y c)
index_rises x y c le = grind (arith, nat_tests)

comparisons_rise : (supers : List Super) → Ordered supers → (c : ℕ) → IsNonDecreasingBy (λ row. ordering_index (nat_cmp row.class c)) supers
comparisons_rise supers ordered c i j d le lt =
    ⊎_elim
    (λ e. subst (λ k. ordering_index (nat_cmp (get_or supers i d).class c) ≤ ordering_index (nat_cmp (get_or supers k d).class c)) e (omega arith))
    (λ ne. index_rises (get_or supers i d).class (get_or supers j d).class c (omega (arith, ordered i j d (omega arith) lt)))
    (cases_eq i j)

pub row_found : (supers : List Super) → Ordered supers → (c at : ℕ) (d : Super) → at < length supers →
    IsBinarySearchResult (λ row. nat_cmp row.class c) supers (Ok at) → superclass supers c ≡ Some (plain_type (get_or supers at d).parent)
row_found supers ordered c at d lt found =
    let is : (get_or supers at d).class ≡ c = ranked _ c _ (sym (found d)) in
    found_at
    (λ rows. superclass rows c)
    (λ row. row.class == c)
    (λ row. Some (plain_type row.parent))
    None
    refl
    (λ _ _. refl)
    supers
    at
    d
    lt
    (λ k below. ne_eqb _ c (λ e. absurd (omega (arith, ordered k at d below lt))))
    (eq-eqb _ c is)

pub row_missing : (supers : List Super) → Ordered supers → (c at : ℕ) → at ≤ length supers →
    IsBinarySearchResult (λ row. nat_cmp row.class c) supers (Err at) → superclass supers c ≡ None
row_missing supers ordered c at within parted =
    no_row supers c (λ k d lt e.
    let parts = parted (comparisons_rise supers ordered c) in
    ⊎_elim
    (λ (below : k < at). let less : (get_or supers k d).class < c = ranked _ c _ (sym (parts.0 k d (omega arith) below)) in absurd (omega arith))
    (λ (above : at ≤ k). let more : c < (get_or supers k d).class = ranked _ c _ (sym (parts.1 k d above lt)) in absurd (omega arith))
    (cases_lt k at))
