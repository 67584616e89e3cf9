-- Rows of the table, back to the classes and members of the text from which they are read.
use Rattle.std.proofs.Common.{◌≡◌, ◌∙◌, ℕ, zero, suc, ◌+◌, ◌≤◌, List, [], ◌∷◌, length, flat_map, sum_by, slice_get, inl, inr, Option, Some, None, refl, ap, sym, subst, arith}
use Rattle.std.proofs.lemmas.List.Sums.{sum_by-cons}
use Rattle.std.specs.Option.{option_map_or}
use Rattle.lang_base.specs.declared.effect.Constraint.{Constraint}
use Rattle.syntax_tree.specs.declared.class.Class.{Class}
use Rattle.syntax_tree.specs.declared.class.Field.{Field}
use Rattle.syntax_tree.specs.declared.class.Member.{Member}
use Rattle.syntax_tree.specs.declared.class.Member.TheVariants as member
use Rattle.syntax_tree.specs.declared.class.Method.{Method}
use Rattle.syntax_tree.specs.declared.class.Parent.{Parent}
use Rattle.decl_headers.specs.declared.header.Headers.{Headers}
use Rattle.decl_headers.specs.Gathered.{header_row, header_rows}
use Rattle.decl_headers.specs.Headers.{parent_of}
use Rattle.decl_headers.specs.Numbers.{as_number}
use Rattle.decl_resolve.specs.Scopes.{PlainScope}
use Rattle.decl_classes.specs.Around.{class_scope}
use Rattle.decl_table.specs.Plain.{PlainSuper, PlainField, PlainMethod}
use Rattle.decl_classes.specs.Rows.{field_row, method_row, fields_from, fields_meant, first_slot, methods_from, methods_meant, class_faults, signature_faults, super_rows, supers_meant, all_constraints}
use Rattle.decl_classes.specs.Signatures.{constraints_meant, parent_meant}
use Rattle.decl_laws.proofs.Facts.{got_either}
use Rattle.sound_lemmas.proofs.Free.{append_none}
use Rattle.sound_lemmas.proofs.Lists.{some_same, got_first, got_later}

-- what an element counts is no more than what all count together
pub counted_in : {A : Type 0} (f : A → ℕ) (xs : List A) (i : ℕ) (x : A) → slice_get xs i ≡ Some x → f x ≤ sum_by f xs
counted_in f [] i x e = cc
counted_in f (y ∷ xs) zero x e = let same = ap f (some_same e) in let all = sum_by-cons f y xs in omega (arith, same, all)
counted_in f (y ∷ xs) (suc i) x e = let l = counted_in f xs i x e in let all = sum_by-cons f y xs in omega (arith, l, all)

-- an element of lists that are joined is free, where all are
pub flat_free : {A B : Type 0} (f : A → List B) (xs : List A) (i : ℕ) (x : A) → flat_map f xs ≡ [] → slice_get xs i ≡ Some x → f x ≡ []
flat_free f [] i x free e = cc
flat_free f (y ∷ xs) zero x free e = ap f (sym (some_same e)) ∙ (append_none (f y) (flat_map f xs) free).0
flat_free f (y ∷ xs) (suc i) x free e = flat_free f xs i x (append_none (f y) (flat_map f xs) free).1 e

-- the header of a class
pub class_header : (parents : List (Option ℕ)) (fields : ℕ → ℕ) (at : ℕ) (classes : List Class) (i : ℕ) (class : Class) → slice_get classes i ≡ Some class →
    slice_get (header_rows parents fields at classes) i ≡ Some (header_row parents fields (at + i) class)
class_header parents fields at [] i class e = cc
class_header parents fields at (one ∷ classes) zero class e =
    let here : at ≡ at + 0 = omega arith in
    ap (λ k. Some (header_row parents fields k one)) here ∙ ap (λ k. Some (header_row parents fields (at + 0) k)) (some_same e)
class_header parents fields at (one ∷ classes) (suc i) class e =
    let next : at + 1 + i ≡ at + suc i = omega arith in
    class_header parents fields (at + 1) classes i class e ∙ ap (λ k. Some (header_row parents fields k class)) next

-- its constraints
pub class_constraints : (headers : Headers) (at : ℕ) (classes : List Class) (i : ℕ) (class : Class) → slice_get classes i ≡ Some class →
    slice_get (all_constraints headers at classes) i ≡ Some (constraints_meant (class_scope headers [] (as_number (at + i))) class.params.given)
class_constraints headers at [] i class e = cc
class_constraints headers at (one ∷ classes) zero class e =
    let here : at ≡ at + 0 = omega arith in
    ap (λ k. Some (constraints_meant (class_scope headers [] (as_number k)) one.params.given)) here
    ∙ ap (λ (k : Class). Some (constraints_meant (class_scope headers [] (as_number (at + 0))) k.params.given)) (some_same e)
class_constraints headers at (one ∷ classes) (suc i) class e =
    let next : at + 1 + i ≡ at + suc i = omega arith in
    class_constraints headers (at + 1) classes i class e ∙ ap (λ k. Some (constraints_meant (class_scope headers [] (as_number k)) class.params.given)) next

-- its signatures have no faults, where none has
pub class_free : (headers : Headers) (all : List (List Constraint)) (at : ℕ) (classes : List Class) (i : ℕ) (class : Class) → slice_get classes i ≡ Some class → signature_faults headers all at classes ≡ [] →
    class_faults (class_scope headers all (as_number (at + i))) class ≡ []
class_free headers all at [] i class e free = cc
class_free headers all at (one ∷ classes) zero class e free =
    let here : at + 0 ≡ at = omega arith in
    ap (λ k. class_faults (class_scope headers all (as_number k)) class) here ∙ ap (class_faults (class_scope headers all (as_number at))) (sym (some_same e))
    ∙ (append_none (class_faults (class_scope headers all (as_number at)) one) (signature_faults headers all (at + 1) classes) free).0
class_free headers all at (one ∷ classes) (suc i) class e free =
    let next : at + suc i ≡ at + 1 + i = omega arith in
    ap (λ k. class_faults (class_scope headers all (as_number k)) class) next
    ∙ class_free headers all (at + 1) classes i class e (append_none (class_faults (class_scope headers all (as_number at)) one) (signature_faults headers all (at + 1) classes) free).1

-- the method of a row
pub record MethodRead (members : List Member) (scope : PlainScope) (row : PlainMethod) : Type 0 where
  pub place : ℕ
  pub method : Method
  pub id : ℕ
  pub there : slice_get members place ≡ Some (member.Method method)
  pub is : row ≡ method_row scope id method

next_method : (members : List Member) (one : Member) (scope : PlainScope) (row : PlainMethod) → MethodRead members scope row → MethodRead (one ∷ members) scope row
next_method members one scope row w = record { place = suc w.place; method = w.method; id = w.id; there = w.there; is = w.is }

read_methods : (scope : PlainScope) (count : ℕ) (members : List Member) (i : ℕ) (row : PlainMethod) → slice_get (methods_from scope count members) i ≡ Some row → MethodRead members scope row
read_methods scope count [] i row e = cc
read_methods scope count (member.Regions is_atomic declared ∷ members) i row e = next_method members (member.Regions is_atomic declared) scope row (read_methods scope (count + 0) members i row e)
read_methods scope count (member.Field field ∷ members) i row e = next_method members (member.Field field) scope row (read_methods scope (count + 0) members i row e)
read_methods scope count (member.Method method ∷ members) zero row e = record { place = 0; method = method; id = as_number count; there = refl; is = sym (some_same e) }
read_methods scope count (member.Method method ∷ members) (suc i) row e = next_method members (member.Method method) scope row (read_methods scope (count + 1) members i row e)

-- and its class
pub record MethodText (headers : Headers) (all : List (List Constraint)) (at : ℕ) (classes : List Class) (row : PlainMethod) : Type 0 where
  pub number : ℕ
  pub class : Class
  pub stands : slice_get classes number ≡ Some class
  pub read : MethodRead class.members (class_scope headers all (as_number (at + number))) row

pub method_text : (headers : Headers) (all : List (List Constraint)) (at count : ℕ) (classes : List Class) (i : ℕ) (row : PlainMethod) → slice_get (methods_meant headers all at count classes) i ≡ Some row →
    MethodText headers all at classes row
method_text headers all at count [] i row e = cc
method_text headers all at count (class ∷ classes) i row e =
    let scope = class_scope headers all (as_number at) in
    let own = methods_from scope count class.members in
    elim (got_either own (methods_meant headers all (at + 1) (count + length own) classes) i row e) [
      | inl here ↦
          let same : at ≡ at + 0 = omega arith in
          record { number = 0; class = class; stands = refl; read = subst (λ k. MethodRead class.members (class_scope headers all (as_number k)) row) same (read_methods scope count class.members i row here) }
      | inr more ↦
          let w = method_text headers all (at + 1) (count + length own) classes more.0 row more.2 in
          let next : at + 1 + w.number ≡ at + suc w.number = omega arith in
          record { number = suc w.number; class = w.class; stands = w.stands; read = subst (λ k. MethodRead w.class.members (class_scope headers all (as_number k)) row) next w.read }
    ]

-- the field of a row
pub record FieldRead (members : List Member) (scope : PlainScope) (row : PlainField) : Type 0 where
  pub place : ℕ
  pub field : Field
  pub slot : ℕ
  pub there : slice_get members place ≡ Some (member.Field field)
  pub is : row ≡ field_row scope slot field

next_field : (members : List Member) (one : Member) (scope : PlainScope) (row : PlainField) → FieldRead members scope row → FieldRead (one ∷ members) scope row
next_field members one scope row w = record { place = suc w.place; field = w.field; slot = w.slot; there = w.there; is = w.is }

read_fields : (scope : PlainScope) (slot : ℕ) (members : List Member) (i : ℕ) (row : PlainField) → slice_get (fields_from scope slot members) i ≡ Some row → FieldRead members scope row
read_fields scope slot [] i row e = cc
read_fields scope slot (member.Regions is_atomic declared ∷ members) i row e = next_field members (member.Regions is_atomic declared) scope row (read_fields scope slot members i row e)
read_fields scope slot (member.Field field ∷ members) zero row e = record { place = 0; field = field; slot = slot; there = refl; is = sym (some_same e) }
read_fields scope slot (member.Field field ∷ members) (suc i) row e = next_field members (member.Field field) scope row (read_fields scope (as_number (slot + 1)) members i row e)
read_fields scope slot (member.Method method ∷ members) i row e = next_field members (member.Method method) scope row (read_fields scope slot members i row e)

pub record FieldText (headers : Headers) (all : List (List Constraint)) (at : ℕ) (classes : List Class) (row : PlainField) : Type 0 where
  pub number : ℕ
  pub class : Class
  pub stands : slice_get classes number ≡ Some class
  pub read : FieldRead class.members (class_scope headers all (as_number (at + number))) row

pub field_text : (headers : Headers) (all : List (List Constraint)) (at : ℕ) (classes : List Class) (i : ℕ) (row : PlainField) → slice_get (fields_meant headers all at classes) i ≡ Some row →
    FieldText headers all at classes row
field_text headers all at [] i row e = cc
field_text headers all at (class ∷ classes) i row e =
    let scope = class_scope headers all (as_number at) in
    let own = fields_from scope (first_slot headers (as_number at)) class.members in
    elim (got_either own (fields_meant headers all (at + 1) classes) i row e) [
      | inl here ↦
          let same : at ≡ at + 0 = omega arith in
          record { number = 0; class = class; stands = refl; read = subst (λ k. FieldRead class.members (class_scope headers all (as_number k)) row) same (read_fields scope (first_slot headers (as_number at)) class.members i row here) }
      | inr more ↦
          let w = field_text headers all (at + 1) classes more.0 row more.2 in
          let next : at + 1 + w.number ≡ at + suc w.number = omega arith in
          record { number = suc w.number; class = w.class; stands = w.stands; read = subst (λ k. FieldRead w.class.members (class_scope headers all (as_number k)) row) next w.read }
    ]

-- the superclass of a row
pub record SuperRead (class : Class) (scope : PlainScope) (row : PlainSuper) : Type 0 where
  pub tree : Parent
  pub extends : class.parent ≡ Some tree
  pub above : ℕ
  pub parent : parent_of scope.headers scope.class ≡ Some above
  pub is : row ≡ record { class = scope.class; parent = parent_meant scope tree above }

read_super : (scope : PlainScope) (class : Class) (i : ℕ) (row : PlainSuper) → slice_get (super_rows scope class) i ≡ Some row → SuperRead class scope row
read_super scope class i row e = by class.parent refl (parent_of scope.headers scope.class) refl e
  where
    one : (x : PlainSuper) → slice_get (x ∷ []) i ≡ Some row → x ≡ row
    one x e = at i e
      where
        at : (j : ℕ) → slice_get (x ∷ []) j ≡ Some row → x ≡ row
        at zero e = some_same e
        at (suc j) e = cc

    by : (t : Option Parent) → class.parent ≡ t → (o : Option ℕ) → parent_of scope.headers scope.class ≡ o →
        slice_get (option_map_or (λ tree. option_map_or (λ parent. record { class = scope.class; parent = parent_meant scope tree parent } ∷ []) o []) t []) i ≡ Some row → SuperRead class scope row
    by None at_t o at_o e = cc
    by (Some tree) at_t None at_o e = cc
    by (Some tree) at_t (Some above) at_o e = record { tree = tree; extends = at_t; above = above; parent = at_o; is = sym (one (record { class = scope.class; parent = parent_meant scope tree above }) e) }

pub record SuperText (headers : Headers) (all : List (List Constraint)) (at : ℕ) (classes : List Class) (row : PlainSuper) : Type 0 where
  pub number : ℕ
  pub class : Class
  pub stands : slice_get classes number ≡ Some class
  pub read : SuperRead class (class_scope headers all (as_number (at + number))) row

pub super_text : (headers : Headers) (all : List (List Constraint)) (at : ℕ) (classes : List Class) (i : ℕ) (row : PlainSuper) → slice_get (supers_meant headers all at classes) i ≡ Some row →
    SuperText headers all at classes row
super_text headers all at [] i row e = cc
super_text headers all at (class ∷ classes) i row e =
    let scope = class_scope headers all (as_number at) in
    elim (got_either (super_rows scope class) (supers_meant headers all (at + 1) classes) i row e) [
      | inl here ↦
          let same : at ≡ at + 0 = omega arith in
          record { number = 0; class = class; stands = refl; read = subst (λ k. SuperRead class (class_scope headers all (as_number k)) row) same (read_super scope class i row here) }
      | inr more ↦
          let w = super_text headers all (at + 1) classes more.0 row more.2 in
          let next : at + 1 + w.number ≡ at + suc w.number = omega arith in
          record { number = suc w.number; class = w.class; stands = w.stands; read = subst (λ k. SuperRead w.class (class_scope headers all (as_number k)) row) next w.read }
    ]

-- a class that has a superclass has a row
pub super_there : (headers : Headers) (all : List (List Constraint)) (at : ℕ) (classes : List Class) (number : ℕ) (class : Class) (tree : Parent) (above : ℕ) → slice_get classes number ≡ Some class →
    class.parent ≡ Some tree → parent_of headers (as_number (at + number)) ≡ Some above →
    (i : ℕ) × (row : PlainSuper) × (slice_get (supers_meant headers all at classes) i ≡ Some row) × (row.class ≡ as_number (at + number))
super_there headers all at [] number class tree above e has up = cc
super_there headers all at (one ∷ classes) zero class tree above e has up =
    let scope = class_scope headers all (as_number at) in
    let same : at + 0 ≡ at = omega arith in
    let row : PlainSuper = record { class = as_number at; parent = parent_meant scope tree above } in
    let rows : super_rows scope one ≡ row ∷ [] = ap (λ (k : Class). super_rows scope k) (some_same e)
    ∙ ap (λ t. option_map_or (λ tree. option_map_or (λ parent. record { class = scope.class; parent = parent_meant scope tree parent } ∷ []) (parent_of headers (as_number at)) []) t []) has
    ∙ ap (λ o. option_map_or (λ parent. record { class = scope.class; parent = parent_meant scope tree parent } ∷ []) o []) (ap (λ k. parent_of headers (as_number k)) (sym same) ∙ up) in
    (0, row, got_first (super_rows scope one) (supers_meant headers all (at + 1) classes) 0 row (ap (λ rows. slice_get rows 0) rows), ap as_number (sym same))
super_there headers all at (one ∷ classes) (suc number) class tree above e has up =
    let next : at + 1 + number ≡ at + suc number = omega arith in
    let w = super_there headers all (at + 1) classes number class tree above e has (ap (λ k. parent_of headers (as_number k)) next ∙ up) in
    let own = super_rows (class_scope headers all (as_number at)) one in
    (length own + w.0, w.1, got_later own (supers_meant headers all (at + 1) classes) (length own + w.0) w.0 w.1 refl w.2, w.3 ∙ ap as_number next)
