-- Rows of regions as keys: what `==` of two is, and what `hash` feeds.
use Rattle.std.specs.Prelude.{◌≡◌, Bool, true, List}
use Rattle.std.specs.Cmp.{IsEquivalence, IsPartialEquivalence, on_per, on_equiv}
use Rattle.std.specs.Cmp.Lexicographic.{pointwise, lists_per, lists_equiv}
use Rattle.std.specs.Hash.{HashWrites, slice, on_Alike, items_Alike}
use Rattle.lang_base.specs.declared.region.Region.{Region}
use Rattle.lang_base.specs.Keys.{elems_eq, elems_eq_partial_equiv, elems_eq_equiv, elems_input, elems_alike}

abbrev pub region_eq : Region → Region → Bool
region_eq a b = elems_eq a.elems b.elems

abbrev pub region_input : Region → HashWrites
region_input region = elems_input region.elems

-- region by region
abbrev pub row_eq : List Region → List Region → Bool
row_eq = pointwise region_eq

pub row_eq_partial_equiv : IsPartialEquivalence row_eq
row_eq_partial_equiv = lists_per (on_per (λ region. region.elems) elems_eq_partial_equiv)

pub row_eq_equiv : IsEquivalence row_eq
row_eq_equiv = lists_equiv (on_equiv (λ region. region.elems) elems_eq_equiv)

-- the length, and then each region's elements
abbrev pub row_input : List Region → HashWrites
row_input = slice region_input

pub row_alike : (a b : List Region) → row_eq a b ≡ true → row_input a ≡ row_input b
row_alike = (items_Alike (on_Alike (λ region. region.elems) (record { fed = elems_alike }))).fed
