-- The fields that classes declare: their types and regions, and their slots after those of the superclass.
use Rattle.std.proofs.Common.{◌≡◌, ◌∙◌, ℕ, zero, suc, ◌+◌, ◌<◌, ◌≤◌, ◌==◌, Bool, true, false, cond, List, [], ◌∷◌, ◌++◌, length, flat_map, inl, inr, Option, None, Some, refl, sym, ap, subst, arith}
use Rattle.std.proofs.lemmas.Bool.{eq-eqb, ne_eqb}
use Rattle.std.proofs.lemmas.List.{length-append, append-nil}
use Rattle.std.proofs.lemmas.List.Elements.{filter-append}
use Rattle.std.proofs.lemmas.List.Sums.{sum_by-cons}
use Rattle.std.proofs.lemmas.Option.{slice_get_within}
use Rattle.std.specs.List.{filter, count_by, sum_by}
use Rattle.std.specs.Prelude.{slice_get, unwrap_or}
use Rattle.lang_base.specs.declared.effect.Constraint.{Constraint}
use Rattle.lang_base.specs.declared.region.Rpl.{Rpl}
use Rattle.decl_headers.specs.declared.header.Headers.{Headers}
use Rattle.decl_headers.specs.Gathered.{is_field}
use Rattle.decl_headers.specs.Numbers.{as_number}
use Rattle.syntax_tree.specs.declared.class.Class.{Class}
use Rattle.syntax_tree.specs.declared.class.Member.{Member}
use Rattle.syntax_tree.specs.declared.class.Member.TheVariants as member
use Rattle.syntax_tree.specs.declared.region.RplTree.{RplTree}
use Rattle.syntax_tree.specs.Size.{member_size, class_size}
use Rattle.decl_resolve.specs.Args.{root_path}
use Rattle.decl_resolve.specs.Classes.{params_in}
use Rattle.decl_resolve.specs.Index.{no_index}
use Rattle.decl_resolve.specs.Scopes.{PlainScope}
use Rattle.decl_classes.specs.Around.{class_scope}
use Rattle.decl_table.specs.Plain.{PlainField}
use Rattle.decl_classes.specs.Rows.{method_faults, member_faults, fields_from, fields_meant, first_slot, super_faults, class_faults, signature_faults}
use Rattle.decl_classes.specs.Signatures.{rpl_meant, known_type_faults, field_region_faults, region_of_field}
use Rattle.decl_laws.proofs.Facts.{got_either}
use Rattle.sound_lemmas.proofs.Free.{append_none}
use Rattle.sound_lemmas.proofs.Lists.{some_same}
use Rattle.sound_bodies.proofs.scope.Closed.{path_closed}
use Rattle.sound_bodies.proofs.table.Declarations.{class_closed, declared_type, class_free}
use Rattle.sound_bodies.proofs.scope.InParams.{PathIn, TypeIn}

-- a field over so many region parameters
abbrev pub FieldIn : ℕ → PlainField → Type 0
FieldIn n f = TypeIn n f.ty × PathIn n f.rpl

region_in : (headers : Headers) (all : List (List Constraint)) (number : ℕ) (o : Option RplTree) → PathIn (length (params_in headers number)) (region_of_field (class_scope headers all number) o)
region_in headers all number None = (tt, tt)
region_in headers all number (Some tree) = by (rpl_meant scope tree) refl
  where
    scope : PlainScope
    scope = class_scope headers all number

    by : (o : Option Rpl) → rpl_meant scope tree ≡ o → PathIn (length (params_in headers number)) (unwrap_or o root_path)
    by None is = (tt, tt)
    by (Some a) is = path_closed (length (params_in headers number)) scope (class_closed headers all number) no_index tree a is

-- the fields of members
from_said : (headers : Headers) (all : List (List Constraint)) (number slot : ℕ) (members : List Member) (i : ℕ) (row : PlainField) → slice_get (fields_from (class_scope headers all number) slot members) i ≡ Some row →
    flat_map (member_faults (class_scope headers all number)) members ≡ [] → FieldIn (length (params_in headers number)) row
from_said headers all number slot [] i row e free = cc
from_said headers all number slot (member.Regions is_atomic declared ∷ members) i row e free = from_said headers all number slot members i row e free
from_said headers all number slot (member.Field field ∷ members) zero row e free =
    let scope = class_scope headers all number in
    let f = append_none (known_type_faults scope field.ty ++ field_region_faults scope field.region) _ free in
    let g = append_none (known_type_faults scope field.ty) (field_region_faults scope field.region) f.0 in
    subst (FieldIn (length (params_in headers number))) (some_same e)
    (declared_type (length (params_in headers number)) scope (class_closed headers all number) field.ty g.0, region_in headers all number field.region)
from_said headers all number slot (member.Field field ∷ members) (suc i) row e free =
    let scope = class_scope headers all number in
    from_said headers all number (as_number (slot + 1)) members i row e (append_none (known_type_faults scope field.ty ++ field_region_faults scope field.region) _ free).1
from_said headers all number slot (member.Method method ∷ members) i row e free =
    from_said headers all number slot members i row e (append_none (method_faults (class_scope headers all number) method) _ free).1

from_owner : (scope : PlainScope) (slot : ℕ) (members : List Member) (i : ℕ) (row : PlainField) → slice_get (fields_from scope slot members) i ≡ Some row → row.owner ≡ scope.class
from_owner scope slot [] i row e = cc
from_owner scope slot (member.Regions is_atomic declared ∷ members) i row e = from_owner scope slot members i row e
from_owner scope slot (member.Field field ∷ members) zero row e = ap (λ (r : PlainField). r.owner) (sym (some_same e))
from_owner scope slot (member.Field field ∷ members) (suc i) row e = from_owner scope (as_number (slot + 1)) members i row e
from_owner scope slot (member.Method method ∷ members) i row e = from_owner scope slot members i row e

from_slot : (scope : PlainScope) (slot : ℕ) (members : List Member) (i : ℕ) (row : PlainField) → slice_get (fields_from scope slot members) i ≡ Some row →
    slot + length (fields_from scope slot members) ≤ 4294967295 → row.slot ≡ slot + i
from_slot scope slot [] i row e few = cc
from_slot scope slot (member.Regions is_atomic declared ∷ members) i row e few = from_slot scope slot members i row e few
from_slot scope slot (member.Field field ∷ members) zero row e few =
    let same = ap (λ (r : PlainField). r.slot) (sym (some_same e)) in
    omega (arith, same)
from_slot scope slot (member.Field field ∷ members) (suc i) row e few =
    let next : as_number (slot + 1) ≡ slot + 1 = omega (arith, few) in
    let rest : as_number (slot + 1) + length (fields_from scope (as_number (slot + 1)) members) ≤ 4294967295 = omega (arith, few) in
    let h = from_slot scope (as_number (slot + 1)) members i row e rest in
    omega (arith, h, next)
from_slot scope slot (member.Method method ∷ members) i row e few = from_slot scope slot members i row e few

pub from_many : (scope : PlainScope) (slot : ℕ) (members : List Member) → length (fields_from scope slot members) ≡ count_by is_field members
from_many scope slot [] = refl
from_many scope slot (member.Regions is_atomic declared ∷ members) =
    let h = from_many scope slot members in
    let c = sum_by-cons (λ m. cond (is_field m) 1 0) (member.Regions is_atomic declared) members in
    omega (arith, h, c)
from_many scope slot (member.Field field ∷ members) =
    let h = from_many scope (as_number (slot + 1)) members in
    let c = sum_by-cons (λ m. cond (is_field m) 1 0) (member.Field field) members in
    omega (arith, h, c)
from_many scope slot (member.Method method ∷ members) =
    let h = from_many scope slot members in
    let c = sum_by-cons (λ m. cond (is_field m) 1 0) (member.Method method) members in
    omega (arith, h, c)

-- there are no more fields than nodes
field_small : (m : Member) → cond (is_field m) 1 0 ≤ member_size m
field_small (member.Regions is_atomic names) = omega arith
field_small (member.Field field) = omega arith
field_small (member.Method method) = omega arith

fields_small : (ms : List Member) → count_by is_field ms ≤ sum_by member_size ms
fields_small [] = omega arith
fields_small (m ∷ ms) =
    let h = fields_small ms in
    let one = field_small m in
    let c = sum_by-cons (λ m. cond (is_field m) 1 0) m ms in
    let d = sum_by-cons member_size m ms in
    omega (arith, h, one, c, d)

pub meant_small : (headers : Headers) (all : List (List Constraint)) (at : ℕ) (classes : List Class) → length (fields_meant headers all at classes) ≤ sum_by class_size classes
meant_small headers all at [] = omega arith
meant_small headers all at (class ∷ classes) =
    let scope = class_scope headers all (as_number at) in
    let own = fields_from scope (first_slot headers (as_number at)) class.members in
    let h = meant_small headers all (at + 1) classes in
    let both = length-append own (fields_meant headers all (at + 1) classes) in
    let many = from_many scope (first_slot headers (as_number at)) class.members in
    let small = fields_small class.members in
    let c = sum_by-cons class_size class classes in
    omega (arith, h, both, many, small, c)

-- the class in which a field stands
pub record Stands (headers : Headers) (all : List (List Constraint)) (at : ℕ) (classes : List Class) (row : PlainField) : Type 0 where
  pub place : ℕ
  pub class : Class
  pub is : slice_get classes place ≡ Some class
  pub owner : row.owner ≡ at + place
  pub index : ℕ
  pub there : slice_get (fields_from (class_scope headers all (at + place)) (first_slot headers (at + place)) class.members) index ≡ Some row

pub stands_in : (headers : Headers) (all : List (List Constraint)) (at : ℕ) (classes : List Class) (i : ℕ) (row : PlainField) → slice_get (fields_meant headers all at classes) i ≡ Some row → at + length classes ≤ 4294967295 →
    Stands headers all at classes row
stands_in headers all at [] i row e few = cc
stands_in headers all at (class ∷ classes) i row e few =
    elim (got_either (fields_from (class_scope headers all (as_number at)) (first_slot headers (as_number at)) class.members) (fields_meant headers all (at + 1) classes) i row e) [
      | inl found ↦ record {
        place = 0;
        class = class;
        is = refl;
        owner = from_owner (class_scope headers all (as_number at)) (first_slot headers (as_number at)) class.members i row found ∙ here;
        index = i;
        there = subst (λ k. slice_get (fields_from (class_scope headers all k) (first_slot headers k) class.members) i ≡ Some row) here found;
      }
      | inr more ↦
          let w = stands_in headers all (at + 1) classes more.0 row more.2 (omega (arith, few)) in
          let next : at + 1 + w.place ≡ at + suc w.place = omega arith in
          record {
            place = suc w.place;
            class = w.class;
            is = w.is;
            owner = w.owner ∙ next;
            index = w.index;
            there = subst (λ k. slice_get (fields_from (class_scope headers all k) (first_slot headers k) w.class.members) w.index ≡ Some row) next w.there;
          }
    ]
  where
    here : as_number at ≡ at + 0
    here = omega (arith, few)

-- so the fields of a class are those that stand in it
filter_all : {A : Type 0} (test : A → Bool) (xs : List A) → ((i : ℕ) (x : A) → slice_get xs i ≡ Some x → test x ≡ true) → filter test xs ≡ xs
filter_all test [] h = refl
filter_all test (x ∷ xs) h = ap (λ b. cond b (x ∷ filter test xs) (filter test xs)) (h 0 x refl) ∙ ap (λ z. x ∷ z) (filter_all test xs (λ i y e. h (suc i) y e))

filter_none : {A : Type 0} (test : A → Bool) (xs : List A) → ((i : ℕ) (x : A) → slice_get xs i ≡ Some x → test x ≡ false) → filter test xs ≡ []
filter_none test [] h = refl
filter_none test (x ∷ xs) h = ap (λ b. cond b (x ∷ filter test xs) (filter test xs)) (h 0 x refl) ∙ filter_none test xs (λ i y e. h (suc i) y e)

pub own_fields : (headers : Headers) (all : List (List Constraint)) (at : ℕ) (classes : List Class) (j : ℕ) (class : Class) → slice_get classes j ≡ Some class → at + length classes ≤ 4294967295 →
    filter (λ (row : PlainField). row.owner == at + j) (fields_meant headers all at classes) ≡ fields_from (class_scope headers all (at + j)) (first_slot headers (at + j)) class.members
own_fields headers all at [] j class e few = cc
own_fields headers all at (one ∷ classes) zero class e few =
    filter-append test own more
    ∙ ap (λ z. z ++ filter test more) (filter_all test own (λ i row h. eq-eqb row.owner (at + 0) (from_owner (class_scope headers all (as_number at)) (first_slot headers (as_number at)) one.members i row h ∙ here)))
    ∙ ap (λ z. own ++ z) (filter_none test more (λ i row h. let w = stands_in headers all (at + 1) classes i row h (omega (arith, few)) in ne_eqb row.owner (at + 0) (let o = w.owner in omega (arith, o))))
    ∙ append-nil own
    ∙ ap (λ k. fields_from (class_scope headers all k) (first_slot headers k) one.members) here
    ∙ ap (λ (c : Class). fields_from (class_scope headers all (at + 0)) (first_slot headers (at + 0)) c.members) (some_same e)
  where
    test : PlainField → Bool
    test row = row.owner == at + 0

    own : List PlainField
    own = fields_from (class_scope headers all (as_number at)) (first_slot headers (as_number at)) one.members

    more : List PlainField
    more = fields_meant headers all (at + 1) classes

    here : as_number at ≡ at + 0
    here = omega (arith, few)
own_fields headers all at (one ∷ classes) (suc j) class e few =
    filter-append (λ (row : PlainField). row.owner == at + suc j) own more
    ∙ ap (λ z. z ++ filter (λ (row : PlainField). row.owner == at + suc j) more)
    (filter_none (λ (row : PlainField). row.owner == at + suc j) own (λ i row h. ne_eqb row.owner (at + suc j) (let o = from_owner (class_scope headers all (as_number at)) (first_slot headers (as_number at)) one.members i row h in omega (arith, o))))
    ∙ subst (λ k. filter (λ (row : PlainField). row.owner == k) more ≡ fields_from (class_scope headers all k) (first_slot headers k) class.members) next
    (own_fields headers all (at + 1) classes j class e (omega (arith, few)))
  where
    own : List PlainField
    own = fields_from (class_scope headers all (as_number at)) (first_slot headers (as_number at)) one.members

    more : List PlainField
    more = fields_meant headers all (at + 1) classes

    next : at + 1 + j ≡ at + suc j
    next = omega arith

-- what is known of a field among those of its class
pub record FieldSaid (headers : Headers) (all : List (List Constraint)) (classes : List Class) (row : PlainField) : Type 0 where
  pub within : row.owner < length classes
  pub index : ℕ
  pub there : slice_get (filter (λ (r : PlainField). r.owner == row.owner) (fields_meant headers all 0 classes)) index ≡ Some row
  pub over : FieldIn (length (params_in headers row.owner)) row
  pub slot : first_slot headers row.owner + length (filter (λ (r : PlainField). r.owner == row.owner) (fields_meant headers all 0 classes)) ≤ 4294967295 → row.slot ≡ first_slot headers row.owner + index

pub field_said : (headers : Headers) (all : List (List Constraint)) (classes : List Class) (i : ℕ) (row : PlainField) → slice_get (fields_meant headers all 0 classes) i ≡ Some row → length classes ≤ 4294967295 →
    signature_faults headers all 0 classes ≡ [] → FieldSaid headers all classes row
field_said headers all classes i row e few free = record {
  within = (let l = slice_get_within classes w.place w.class w.is in let o = w.owner in omega (arith, l, o));
  index = w.index;
  there = subst (λ z. slice_get z w.index ≡ Some row) (sym same) w.there;
  over = subst (λ k. FieldIn (length (params_in headers k)) row) (sym w.owner) (from_said headers all (0 + w.place) (first_slot headers (0 + w.place)) w.class.members w.index row w.there faults);
  slot = λ small.
      let k : first_slot headers (0 + w.place) + length (fields_from (class_scope headers all (0 + w.place)) (first_slot headers (0 + w.place)) w.class.members) ≤ 4294967295 =
      subst (λ z. z ≤ 4294967295) (ap (λ n. first_slot headers row.owner + n) (ap length same) ∙ ap (λ n. first_slot headers n + length (fields_from (class_scope headers all (0 + w.place)) (first_slot headers (0 + w.place)) w.class.members)) w.owner) small in
      from_slot (class_scope headers all (0 + w.place)) (first_slot headers (0 + w.place)) w.class.members w.index row w.there k ∙ ap (λ n. first_slot headers n + w.index) (sym w.owner);
}
  where
    w : Stands headers all 0 classes row
    w = stands_in headers all 0 classes i row e (omega (arith, few))

    same : filter (λ (r : PlainField). r.owner == row.owner) (fields_meant headers all 0 classes) ≡ fields_from (class_scope headers all (0 + w.place)) (first_slot headers (0 + w.place)) w.class.members
    same = ap (λ k. filter (λ (r : PlainField). r.owner == k) (fields_meant headers all 0 classes)) w.owner ∙ own_fields headers all 0 classes w.place w.class w.is (omega (arith, few))

    number : as_number (0 + w.place) ≡ 0 + w.place
    number = let l = slice_get_within classes w.place w.class w.is in omega (arith, l, few)

    faults : flat_map (member_faults (class_scope headers all (0 + w.place))) w.class.members ≡ []
    faults =
        let f = subst (λ k. class_faults (class_scope headers all k) w.class ≡ []) number (class_free headers all 0 classes w.place w.class free w.is) in
        (append_none (super_faults (class_scope headers all (0 + w.place)) w.class) _ f).1
