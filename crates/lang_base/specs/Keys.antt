-- Elements of paths as keys: what `==` of their lists is, and what `hash` feeds.
use Rattle.std.specs.Prelude.{◌≡◌, Bool, true, List}
use Rattle.std.specs.Cmp.{IsEquivalence, IsPartialEquivalence}
use Rattle.std.specs.Cmp.Lexicographic.{pointwise, lists_per, lists_equiv}
use Rattle.std.specs.Hash.{HashWrites, slice, items_Alike}
use Rattle.lang_base.specs.declared.elems.Elem.{Elem}
use Rattle.lang_base.specs.contracts.elems.ElemPartialEq.TheImpl as compared
use Rattle.lang_base.specs.contracts.elems.ElemPartialEq.TheImpl.Laws as partial_laws
use Rattle.lang_base.specs.contracts.elems.ElemEq.TheImpl.Laws as eq_laws
use Rattle.lang_base.specs.contracts.elems.ElemHash.TheImpl as hashed
use Rattle.lang_base.specs.contracts.elems.ElemHash.TheImpl.Laws as hash_laws

-- element by element, as the derived `==` compares them
abbrev pub elems_eq : List Elem → List Elem → Bool
elems_eq = pointwise (compared.ghosts).eq

pub elems_eq_partial_equiv : IsPartialEquivalence elems_eq
elems_eq_partial_equiv = lists_per partial_laws.laws-law

pub elems_eq_equiv : IsEquivalence elems_eq
elems_eq_equiv = lists_equiv eq_laws.laws-law

-- the length, and then each element as the derived `hash` feeds it
abbrev pub elems_input : List Elem → HashWrites
elems_input = slice (hashed.ghosts).hash_input

pub elems_alike : (a b : List Elem) → elems_eq a b ≡ true → elems_input a ≡ elems_input b
elems_alike = (items_Alike (record { fed = hash_laws.respects_eq-law })).fed
