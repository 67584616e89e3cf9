-- The last page of a range below a bound.
use Rattle.std.proofs.Common.{◌≡◌, ℕ, ◌<◌, List, [], ◌∷◌, ◌++◌, refl, sym, ap, ◌∙◌, Option, Some, None, true≢false, IsSome}
use Rattle.std.specs.Ordering.{nat_cmp, is_lt}
use Rattle.std.specs.Cmp.{nat_cmp_is, ranked}
use Rattle.std.specs.BTreeSet.{IsKeyRangeOf}
use Rattle.std.specs.declared.cmp.Ordering.TheVariants.{Less}
use Rattle.std.specs.declared.ops.Bound.TheVariants.{Unbounded, Excluded}
use Rattle.exec_tasks.specs.declared.pages.Pages.{Pages}
use Rattle.exec_tasks.specs.Pages.{page_at, IsSound, IsLastPage}

less : (a b : ℕ) → a < b → nat_cmp a b ≡ Less
less a b lt = sym (nat_cmp_is a b Less lt)

of_less : (a b : ℕ) → nat_cmp a b ≡ Less → a < b
of_less a b e = ranked a b Less (sym e)

absent : {A : Type 0} (o : Option A) → (IsSome o → ⊥) → o ≡ None
absent None never = refl
absent (Some t) never = absurd (never refl)

module _ {T : Type 0} (s : Pages T) (sound : IsSound s) (bound : ℕ) (r : List ℕ) (range : IsKeyRangeOf nat_cmp Unbounded (Excluded bound) s.there r) where
  pub last_in : (t : List ℕ) (p : ℕ) → r ≡ t ++ p ∷ [] → IsLastPage s bound p
  last_in t p is = record {
    below = of_less p bound (range.3 p t is).0.1;
    last = λ q above under. absent (page_at s q) (λ some.
        true≢false (sym (ap is_lt (less p q above)) ∙ range.4 p t is q (tt, less q bound under) (sound.listed q some)));
  }

  pub none_in : r ≡ [] → (p : ℕ) → p < bound → page_at s p ≡ None
  none_in is p under = absent (page_at s p) (λ some. true≢false (sym (sound.listed p some) ∙ range.5 is p (tt, less p bound under)))
