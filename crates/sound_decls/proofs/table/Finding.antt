-- Where what is looked for is found: the class of a name, and the row of a class among the superclasses.
use Rattle.std.proofs.Common.{◌≡◌, ◌∙◌, ◌⊎◌, ℕ, zero, suc, ◌+◌, ◌<◌, ◌≤◌, ◌==◌, Bool, true, false, cond, List, [], ◌∷◌, length, slice_get, inl, inr, Option, Some, None, refl, sym, ap, arith}
use Rattle.std.proofs.lemmas.Bool.{eqb-true, eq-eqb}
use Rattle.std.proofs.lemmas.List.{length-append}
use Rattle.std.proofs.lemmas.Option.{slice_get_within}
use Rattle.std.specs.List.{position_from}
use Rattle.std.specs.Option.{option_map_or}
use Rattle.lang_base.specs.declared.effect.Constraint.{Constraint}
use Rattle.lang_base.specs.declared.ty.Super.{Super}
use Rattle.decl_headers.specs.declared.header.Header.{Header}
use Rattle.decl_headers.specs.declared.header.Headers.{Headers}
use Rattle.decl_headers.specs.Headers.{class_of, class_count, parent_of}
use Rattle.decl_headers.specs.Numbers.{as_number}
use Rattle.decl_resolve.specs.Scopes.{PlainScope}
use Rattle.syntax_tree.specs.declared.class.Class.{Class}
use Rattle.syntax_tree.specs.declared.class.Parent.{Parent}
use Rattle.decl_classes.specs.Around.{class_scope}
use Rattle.decl_table.specs.Places.{last_from, by_place, is_super_of, super_place}
use Rattle.decl_table.specs.Plain.{PlainSuper}
use Rattle.decl_classes.specs.Rows.{super_rows, supers_meant}
use Rattle.decl_classes.specs.Signatures.{parent_meant}
use Rattle.sound_lemmas.proofs.Lists.{some_same, map_there}

position_within : {A : Type 0} (test : A → Bool) (at : ℕ) (xs : List A) (n : ℕ) → position_from test at xs ≡ Some n → n < at + length xs
position_within test at [] n e = cc
position_within test at (x ∷ xs) n e = by (test x) (position_within test (at + 1) xs n) e
  where
    by : (b : Bool) → (position_from test (at + 1) xs ≡ Some n → n < at + 1 + length xs) → cond b (Some at) (position_from test (at + 1) xs) ≡ Some n → n < at + suc (length xs)
    by true later h = let same = some_same h in omega (arith, same)
    by false later h = let l = later h in omega (arith, l)

-- the class of a name is one of the classes
pub class_within : (headers : Headers) (name at : ℕ) → class_of headers name ≡ Some at → at < class_count headers
class_within headers name at e =
    let w = map_there as_number (position_from (λ (row : Header). row.name == name) 0 headers.rows) at e in
    let l = position_within (λ (row : Header). row.name == name) 0 headers.rows w.0 w.1 in
    let number = w.2 in
    omega (arith, l, number)

-- the last row that passes a test, by its place
record Placed {A : Type 0} (test : A → Bool) (at : ℕ) (found : Option ℕ) (rows : List A) : Type 0 where
  place : ℕ
  row : A
  there : slice_get rows place ≡ Some row
  passes : test row ≡ true
  is : last_from test by_place at found rows ≡ Some (as_number (at + place))

record Unplaced {A : Type 0} (test : A → Bool) (at : ℕ) (found : Option ℕ) (rows : List A) : Type 0 where
  is : last_from test by_place at found rows ≡ found
  none : (i : ℕ) (row : A) → slice_get rows i ≡ Some row → test row ≡ true → ⊥

placed : {A : Type 0} (test : A → Bool) (at : ℕ) (found : Option ℕ) (rows : List A) → Placed test at found rows ⊎ Unplaced test at found rows
placed test at found [] = inr (record { is = refl; none = λ i row e h. cc })
placed test at found (row ∷ rows) = elim (placed test (at + 1) (cond (test row) (Some (as_number at)) found) rows) [
  | inl w ↦ let next : at + 1 + w.place ≡ at + suc w.place = omega arith in
      inl (record { place = suc w.place; row = w.row; there = w.there; passes = w.passes; is = w.is ∙ ap (λ k. Some (as_number k)) next })
  | inr w ↦ by (test row) refl w.is w.none
]
  where
    all : Option ℕ
    all = last_from test by_place (at + 1) (cond (test row) (Some (as_number at)) found) rows

    by : (b : Bool) → test row ≡ b → all ≡ cond b (Some (as_number at)) found → ((i : ℕ) (one : _) → slice_get rows i ≡ Some one → test one ≡ true → ⊥) → Placed test at found (row ∷ rows) ⊎ Unplaced test at found (row ∷ rows)
    by true is e none = let same : at ≡ at + 0 = omega arith in inl (record { place = 0; row = row; there = refl; passes = is; is = e ∙ ap (λ k. Some (as_number k)) same })
    by false is e none = inr (record { is = e; none = others })
      where
        others : (i : ℕ) (one : _) → slice_get (row ∷ rows) i ≡ Some one → test one ≡ true → ⊥
        others zero one e h = let fails : true ≡ false = sym h ∙ ap test (sym (some_same e)) ∙ is in cc
        others (suc i) one e h = none i one e h

-- the row of a class that has one
pub record HasRow (rows : List Super) (number : ℕ) : Type 0 where
  pub place : ℕ
  pub row : Super
  pub there : slice_get rows place ≡ Some row
  pub own : row.class ≡ number
  pub is : super_place rows number ≡ Some place

pub has_row : (rows : List Super) (number i : ℕ) (row : Super) → length rows ≤ 4294967295 → slice_get rows i ≡ Some row → row.class ≡ number → HasRow rows number
has_row rows number i row few e own = elim (placed (is_super_of number) 0 None rows) [
  | inl w ↦
      let l = slice_get_within rows w.place w.row w.there in
      let same : as_number (0 + w.place) ≡ w.place = omega (arith, l, few) in
      record { place = w.place; row = w.row; there = w.there; own = eqb-true w.row.class number w.passes; is = w.is ∙ ap Some same }
  | inr w ↦ absurd (w.none i row e (eq-eqb row.class number own))
]

-- there is one row for a class at most
one_super : (scope : PlainScope) (class : Class) → length (super_rows scope class) ≤ 1
one_super scope class = by class.parent (parent_of scope.headers scope.class)
  where
    by : (t : Option Parent) (o : Option ℕ) → length {A = PlainSuper} (option_map_or (λ tree. option_map_or (λ parent. record { class = scope.class; parent = parent_meant scope tree parent } ∷ []) o []) t []) ≤ 1
    by None o = omega arith
    by (Some tree) None = omega arith
    by (Some tree) (Some above) = omega arith

pub supers_few : (headers : Headers) (all : List (List Constraint)) (at : ℕ) (classes : List Class) → length (supers_meant headers all at classes) ≤ length classes
supers_few headers all at [] = omega arith
supers_few headers all at (class ∷ classes) =
    let one = one_super (class_scope headers all (as_number at)) class in
    let more = supers_few headers all (at + 1) classes in
    let long = length-append (super_rows (class_scope headers all (as_number at)) class) (supers_meant headers all (at + 1) classes) in
    omega (arith, one, more, long)
