-- The rows of fields and methods have types of as few arrays as the text writes, and a method that stands in the text has its row.
use Rattle.std.proofs.Common.{◌≡◌, ◌∙◌, ◌≤◌, ◌+◌, ℕ, zero, suc, List, [], ◌∷◌, map, length, inl, inr, Some, refl, sym, ap, subst, sum_by, arith}
use Rattle.std.proofs.lemmas.List.Sums.{sum_by-cons}
use Rattle.std.proofs.lemmas.Option.{slice_get-map}
use Rattle.std.specs.Prelude.{slice_get}
use Rattle.lang_base.specs.declared.effect.Constraint.{Constraint}
use Rattle.lang_base.specs.Types.{plain_type}
use Rattle.decl_headers.specs.declared.header.Headers.{Headers}
use Rattle.decl_headers.specs.Headers.{nearest, upwards}
use Rattle.decl_headers.specs.Numbers.{as_number}
use Rattle.syntax_tree.specs.declared.class.Class.{Class}
use Rattle.syntax_tree.specs.declared.class.Member.{Member}
use Rattle.syntax_tree.specs.declared.class.Member.TheVariants as member
use Rattle.syntax_tree.specs.declared.class.Method.{Method}
use Rattle.syntax_tree.specs.declared.class.MethodResult.{MethodResult}
use Rattle.syntax_tree.specs.declared.class.MethodResult.TheVariants as outcome
use Rattle.syntax_tree.specs.declared.region.Suffix.{Suffix}
use Rattle.syntax_tree.specs.declared.region.TypeTree.{TypeTree}
use Rattle.syntax_tree.specs.Size.{suffix_size, type_size, result_size, member_size, class_size}
use Rattle.decl_resolve.specs.Scopes.{PlainScope}
use Rattle.decl_table.specs.declared.rows.MethodRow.{MethodRow}
use Rattle.decl_table.specs.declared.table.Table.{Table}
use Rattle.decl_classes.specs.Around.{class_scope}
use Rattle.decl_reach.specs.Bodies.{class_marks}
use Rattle.decl_table.specs.Plain.{PlainField, plain_field, PlainMethod, plain_method}
use Rattle.decl_classes.specs.Rows.{method_row, said_scope, fields_from, fields_meant, first_slot, methods_from, methods_meant}
use Rattle.decl_classes.specs.Signatures.{known_type, result_type}
use Rattle.decl_table.specs.Table.{headers_of, own_field, own_method, numbered}
use Rattle.decl_laws.proofs.Facts.{got_either}
use Rattle.decl_laws.proofs.Granted.{IsReadOf}
use Rattle.sound_lemmas.proofs.Lists.{some_same, and_then_there, map_there, got_first, got_later, got_mapped}
use Rattle.sound_bodies.specs.Whole.{StandsIn, StandsAmong}
use Rattle.sound_bodies.proofs.reach.ReachedExpressions.{AreShallow}
use Rattle.sound_bodies.proofs.table.Standing.{rows_many}
use Rattle.sound_bodies.proofs.reach.TypeShapes.{depth_of, type_shaped, known_shaped}

-- a type has as few arrays as its tree has nodes

suffixes_few : (suffixes : List Suffix) → length suffixes ≤ sum_by suffix_size suffixes
suffixes_few [] = omega arith
suffixes_few (suffix ∷ suffixes) = omega (arith, suffixes_few suffixes, sum_by-cons suffix_size suffix suffixes)

known_few : (scope : PlainScope) (tree : TypeTree) → depth_of (known_type scope tree) ≤ type_size tree
known_few scope tree = let d = (known_shaped scope tree).1 in let few = suffixes_few tree.suffixes in omega (arith, d, few)

result_few : (scope : PlainScope) (r : MethodResult) → depth_of (result_type scope r) ≤ result_size r
result_few scope outcome.Constructor = omega arith
result_few scope outcome.Void = omega arith
result_few scope (outcome.Value tree) = known_few scope tree

fields_few : (scope : PlainScope) (slot : ℕ) (members : List Member) (i : ℕ) (row : PlainField) → slice_get (fields_from scope slot members) i ≡ Some row → depth_of row.ty ≤ sum_by member_size members
fields_few scope slot [] i row e = cc
fields_few scope slot (member.Regions is_atomic names ∷ members) i row e =
    omega (arith, fields_few scope slot members i row e, sum_by-cons member_size (member.Regions is_atomic names) members)
fields_few scope slot (member.Field field ∷ members) zero row e =
    let same = ap (λ (r : PlainField). depth_of r.ty) (some_same e) in
    omega (arith, same, known_few scope field.ty, sum_by-cons member_size (member.Field field) members)
fields_few scope slot (member.Field field ∷ members) (suc i) row e =
    omega (arith, fields_few scope (as_number (slot + 1)) members i row e, sum_by-cons member_size (member.Field field) members)
fields_few scope slot (member.Method method ∷ members) i row e =
    omega (arith, fields_few scope slot members i row e, sum_by-cons member_size (member.Method method) members)

methods_few : (scope : PlainScope) (count : ℕ) (members : List Member) (i : ℕ) (row : PlainMethod) → slice_get (methods_from scope count members) i ≡ Some row → depth_of row.result ≤ sum_by member_size members
methods_few scope count [] i row e = cc
methods_few scope count (member.Regions is_atomic names ∷ members) i row e =
    omega (arith, methods_few scope (count + 0) members i row e, sum_by-cons member_size (member.Regions is_atomic names) members)
methods_few scope count (member.Field field ∷ members) i row e =
    omega (arith, methods_few scope (count + 0) members i row e, sum_by-cons member_size (member.Field field) members)
methods_few scope count (member.Method method ∷ members) zero row e =
    let same = ap (λ (r : PlainMethod). depth_of r.result) (some_same e) in
    omega (arith, same, result_few (said_scope scope method) method.result, sum_by-cons member_size (member.Method method) members)
methods_few scope count (member.Method method ∷ members) (suc i) row e =
    omega (arith, methods_few scope (count + 1) members i row e, sum_by-cons member_size (member.Method method) members)

all_fields_few : (headers : Headers) (all : List (List Constraint)) (at : ℕ) (classes : List Class) (i : ℕ) (row : PlainField) → slice_get (fields_meant headers all at classes) i ≡ Some row → depth_of row.ty ≤ sum_by class_size classes
all_fields_few headers all at [] i row e = cc
all_fields_few headers all at (class ∷ classes) i row e =
    let own = fields_from (class_scope headers all (as_number at)) (first_slot headers (as_number at)) class.members in
    elim (got_either own (fields_meant headers all (at + 1) classes) i row e) [
      | inl here ↦
          let few = fields_few (class_scope headers all (as_number at)) (first_slot headers (as_number at)) class.members i row here in
          omega (arith, few, sum_by-cons class_size class classes)
      | inr more ↦ let few = all_fields_few headers all (at + 1) classes more.0 row more.2 in omega (arith, few, sum_by-cons class_size class classes)
    ]

all_methods_few : (headers : Headers) (all : List (List Constraint)) (at count : ℕ) (classes : List Class) (i : ℕ) (row : PlainMethod) → slice_get (methods_meant headers all at count classes) i ≡ Some row →
    depth_of row.result ≤ sum_by class_size classes
all_methods_few headers all at count [] i row e = cc
all_methods_few headers all at count (class ∷ classes) i row e =
    let own = methods_from (class_scope headers all (as_number at)) count class.members in
    elim (got_either own (methods_meant headers all (at + 1) (count + length own) classes) i row e) [
      | inl here ↦ let few = methods_few (class_scope headers all (as_number at)) count class.members i row here in omega (arith, few, sum_by-cons class_size class classes)
      | inr more ↦ let few = all_methods_few headers all (at + 1) (count + length own) classes more.0 row more.2 in omega (arith, few, sum_by-cons class_size class classes)
    ]

pub rows_shallow : (classes : List Class) (table : Table) → IsReadOf classes table → sum_by class_size classes ≤ 4294967295 → AreShallow table
rows_shallow classes table read small = record {
  fields = λ class name row e.
      let w = and_then_there (λ place. slice_get table.fields place) (nearest (λ above. own_field table above name) (upwards table.headers class)) row e in
      let got = ap (λ rows. slice_get rows w.0) (sym read.fields) ∙ got_mapped plain_field table.fields w.0 row w.2 in
      let few = all_fields_few (headers_of table) table.given 0 classes w.0 (plain_field row) got in
      type_shaped (plain_type row.ty) (omega (arith, few, small));
  results = λ class name row e.
      let w = and_then_there (numbered table) (nearest (λ above. own_method table above name) (upwards table.headers class)) row e in
      let got = ap (λ rows. slice_get rows w.0) (sym read.methods) ∙ got_mapped plain_method table.methods w.0 row w.2 in
      let few = all_methods_few (headers_of table) table.given 0 0 classes w.0 (plain_method row) got in
      type_shaped (plain_type row.result) (omega (arith, few, small));
}

-- the row of a method that stands in the text

in_members : {method : Method} {number : ℕ} {members : List Member} {count : ℕ} (scope : PlainScope) → StandsIn method number members count →
    (k : ℕ) × (number ≡ count + k) × (slice_get (methods_from scope count members) k ≡ Some (method_row scope (as_number number) method))
in_members {method} {number} scope StandsIn.here = (0, omega arith, refl)
in_members {method} {number} {count = count} scope (StandsIn.later {m = member.Regions is_atomic names} d) = let w = in_members scope d in (w.0, omega (arith, w.1), w.2)
in_members {method} {number} {count = count} scope (StandsIn.later {m = member.Field field} d) = let w = in_members scope d in (w.0, omega (arith, w.1), w.2)
in_members {method} {number} {count = count} scope (StandsIn.later {m = member.Method one} d) = let w = in_members scope d in (suc w.0, omega (arith, w.1), w.2)

in_classes : {method : Method} {number class : ℕ} {classes : List Class} {at count : ℕ} (headers : Headers) (all : List (List Constraint)) → StandsAmong method number class classes at count →
    (k : ℕ) × (number ≡ count + k) × (slice_get (methods_meant headers all at count classes) k ≡ Some (method_row (class_scope headers all (as_number class)) (as_number number) method))
in_classes {method} {number} {class} headers all (StandsAmong.in_class {k = one} {classes = classes} {count = count} d) =
    let scope = class_scope headers all (as_number class) in
    let own = methods_from scope count one.members in
    let w = in_members scope d in
    (w.0, w.1, got_first own (methods_meant headers all (class + 1) (count + length own) classes) w.0 (method_row scope (as_number number) method) w.2)
in_classes {method} {number} {class} headers all (StandsAmong.in_later {k = one} {classes = classes} {at = at} {count = count} d) =
    let own = methods_from (class_scope headers all (as_number at)) count one.members in
    let many : length own ≡ length (class_marks one) = rows_many (class_scope headers all (as_number at)) count one.members in
    let w = in_classes headers all d in
    let there = subst (λ n. slice_get (methods_meant headers all (at + 1) (count + n) classes) w.0 ≡ Some (method_row (class_scope headers all (as_number class)) (as_number number) method)) (sym many) w.2 in
    let on = w.1 in (
      length own + w.0,
      omega (arith, on, many),
      got_later own (methods_meant headers all (at + 1) (count + length own) classes) (length own + w.0) w.0 (method_row (class_scope headers all (as_number class)) (as_number number) method) refl there,
    )

-- its number is that of its row, which has the types of its formals
pub record HasRow (table : Table) (number class : ℕ) (method : Method) : Type 0 where
  pub row : MethodRow
  pub there : numbered table number ≡ Some row
  pub formals : map plain_type row.params ≡ map (λ formal. known_type (said_scope (class_scope (headers_of table) table.given (as_number class)) method) formal.ty) method.formals

pub row_there : (classes : List Class) (table : Table) (method : Method) (number class : ℕ) → IsReadOf classes table → StandsAmong method number class classes 0 0 → HasRow table number class method
row_there classes table method number class read d =
    let w = in_classes (headers_of table) table.given d in
    let same : w.0 ≡ number = (let on = w.1 in omega (arith, on)) in
    let got = sym (slice_get-map plain_method table.methods w.0) ∙ ap (λ rows. slice_get rows w.0) read.methods ∙ w.2 in
    let m = map_there plain_method (slice_get table.methods w.0) (method_row (class_scope (headers_of table) table.given (as_number class)) (as_number number) method) got in
    record { row = m.0; there = ap (slice_get table.methods) (sym same) ∙ m.1; formals = ap (λ (r : PlainMethod). r.params) m.2 }
