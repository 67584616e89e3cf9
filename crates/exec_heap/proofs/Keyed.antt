-- Rows as keys: what `==` says of two, what the hash of one is fed, and where one stands in a list.
use Rattle.std.proofs.Common.{◌≡◌, ℕ, ◌+◌, ◌<◌, Bool, true, false, if◌then◌else◌, ◌⊎◌, List, [], ◌∷◌, ◌++◌, Some, slice_get, Contains, inl, inr, refl, sym, ap, ◌∙◌}
use Rattle.std.proofs.lemmas.Bool.{false≢true}
use Rattle.std.proofs.lemmas.Bool.Decides.{Decides-like}
use Rattle.std.proofs.lemmas.Map.Views.{list_any-from_Contains}
use Rattle.std.proofs.lemmas.Slice.Eq.{slice_eq-Decides}
use Rattle.std.specs.Bool.{Decides}
use Rattle.std.specs.List.{list_any}
use Rattle.indexmap.specs.IndexSet.{insert_key}
use Rattle.lang_base.specs.declared.region.Region.{Region}
use Rattle.lang_base.specs.Keys.{elems_eq}
use Rattle.lang_base.proofs.Equal.{elems_decides}
use Rattle.exec_heap.specs.Keys.{region_eq, row_eq, row_eq_equiv}
use Rattle.exec_heap.specs.Rows.{Placed}

region_decides : (a b : Region) → Decides (region_eq a b) (a ≡ b)
region_decides a b =
    Decides-like (elems_eq a.elems b.elems) (λ e. ap (λ es. record { elems = es }) e) (λ e. ap (λ r. r.elems) e) (elems_decides a.elems b.elems)

row_decides : (a b : List Region) → Decides (row_eq a b) (a ≡ b)
row_decides a b = slice_eq-Decides region_decides a b _ refl

same_answer : {P : Type 0} (r s : Bool) → Decides r P → Decides s P → r ≡ s
same_answer true s d e = sym (e.1 (d.0 refl))
same_answer false true d e = d.1 (e.0 refl)
same_answer false false d e = refl

-- what says whether two rows are equal is what `==` says
pub equal_rows : (a b : List Region) (r : Bool) → Decides r (a ≡ b) → r ≡ row_eq a b
equal_rows a b r d = same_answer r (row_eq a b) d (row_decides a b)

-- where a row stands after it was put in, and which rows there are then
pub placed : (old new : List (List Region)) (regions stored : List Region) (row : ℕ)
    → new ≡ insert_key row_eq old regions → slice_get new row ≡ Some stored → row_eq regions stored ≡ true → Placed old regions row new
placed old new regions stored row keys is same = record {
  found = is ∙ ap Some (sym ((row_decides regions stored).0 same));
  kept = by (list_any (row_eq regions) old) refl;
}
  where
    by : (b : Bool) → list_any (row_eq regions) old ≡ b → (new ≡ old) ⊎ ((Contains old regions → ⊥) × (new ≡ old ++ regions ∷ []))
    by true e = inl (keys ∙ ap (λ c. if c then old else old ++ regions ∷ []) e)
    by false e = inr (
      (λ there. false≢true (sym e ∙ list_any-from_Contains row_eq_equiv regions old there)),
      keys ∙ ap (λ c. if c then old else old ++ regions ∷ []) e,
    )
