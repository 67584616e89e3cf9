-- What is known of the methods of a program's table: their numbers and classes, what a name means in a class, and what each overrides.
use Rattle.std.proofs.Common.{◌≡◌, ◌∙◌, ℕ, zero, suc, ◌+◌, ◌<◌, ◌==◌, ◌&&◌, not, Bool, true, false, cond, List, [], ◌∷◌, ◌++◌, length, map, ◌⊎◌, inl, inr, Option, None, Some, refl, ap, sym, subst, arith}
use Rattle.std.proofs.lemmas.Bool.Decides.{eqb_tells}
use Rattle.std.proofs.lemmas.Option.{none-some, slice_get-map, slice_get_within}
use Rattle.std.specs.Option.{option_and_then, option_map, option_map_or}
use Rattle.std.specs.Prelude.{slice_get}
use Rattle.lang_base.specs.declared.effect.Constraint.{Constraint}
use Rattle.syntax_tree.specs.declared.class.Class.{Class}
use Rattle.syntax_tree.specs.declared.class.Member.{Member}
use Rattle.syntax_tree.specs.declared.class.Member.TheVariants as member
use Rattle.syntax_tree.specs.declared.class.Program.{Program}
use Rattle.decl_headers.specs.declared.header.Header.{Header}
use Rattle.decl_headers.specs.declared.header.Headers.{Headers}
use Rattle.decl_headers.specs.First.{parents_in}
use Rattle.decl_headers.specs.Gathered.{headers_in}
use Rattle.decl_headers.specs.Headers.{chain, nearest, parent_of, parents_of, class_count}
use Rattle.decl_headers.specs.Numbers.{as_number}
use Rattle.decl_headers.specs.Rounds.{entry_of, up}
use Rattle.decl_headers.specs.Way.{IsForest}
use Rattle.decl_headers.proofs.Cycles.{up-then}
use Rattle.decl_headers.proofs.Gathered.{parents_gathered}
use Rattle.decl_headers.proofs.Order.{Among}
use Rattle.decl_headers.proofs.Second.{and_true, sound_from, length_parents}
use Rattle.decl_resolve.specs.Scopes.{PlainScope}
use Rattle.decl_table.specs.declared.rows.MethodRow.{MethodRow}
use Rattle.decl_table.specs.declared.table.Table.{Table}
use Rattle.decl_classes.specs.Around.{class_scope}
use Rattle.decl_table.specs.Overridden.{method_named, overridden_in}
use Rattle.decl_table.specs.Places.{entry_at, last_from, by_id, is_method_of, method_number}
use Rattle.decl_table.specs.Plain.{PlainMethod, plain_method}
use Rattle.decl_classes.specs.Rows.{methods_from, methods_meant}
use Rattle.decl_table.specs.Table.{headers_of, methods_of}
use Rattle.decl_classes.proofs.Overrides.{row_counted}
use Rattle.decl_laws.specs.Rows.{is_own, HasRows}
use Rattle.decl_laws.proofs.Granted.{granted}

-- an element of two lists one after the other
pub got_either : {A : Type 0} (xs ys : List A) (i : ℕ) (x : A) → slice_get (xs ++ ys) i ≡ Some x → (slice_get xs i ≡ Some x) ⊎ ((j : ℕ) × (i ≡ length xs + j) × (slice_get ys j ≡ Some x))
got_either [] ys i x e =
    let here : i ≡ 0 + i = omega arith in
    inr (i, here, e)
got_either (y ∷ xs) ys zero x e = inl e
got_either (y ∷ xs) ys (suc i) x e =
    elim (got_either xs ys i x e) [
      | inl l ↦ inl l
      | inr r ↦ inr (r.0, omega (arith, r.1), r.2)
    ]

-- methods are numbered in the order of the text
from_numbered : (scope : PlainScope) (count : ℕ) (members : List Member) (i : ℕ) (row : PlainMethod) → slice_get (methods_from scope count members) i ≡ Some row → row.id ≡ as_number (count + i)
from_numbered scope count [] i row e = cc
from_numbered scope count (member.Regions is_atomic declared ∷ members) i row e =
    let h = from_numbered scope (count + 0) members i row e in
    let on : count + 0 + i ≡ count + i = omega arith in
    h ∙ ap as_number on
from_numbered scope count (member.Field field ∷ members) i row e =
    let h = from_numbered scope (count + 0) members i row e in
    let on : count + 0 + i ≡ count + i = omega arith in
    h ∙ ap as_number on
from_numbered scope count (member.Method method ∷ members) zero row e =
    let on : count ≡ count + 0 = omega arith in
    let is = some_same e in
    sym (ap (λ (r : PlainMethod). r.id) is) ∙ ap as_number on
  where
    some_same : {A : Type 0} {x y : A} → Some x ≡ Some y → x ≡ y
    some_same h = cc
from_numbered scope count (member.Method method ∷ members) (suc i) row e =
    let h = from_numbered scope (count + 1) members i row e in
    let on : count + 1 + i ≡ count + suc i = omega arith in
    h ∙ ap as_number on

meant_numbered : (headers : Headers) (all : List (List Constraint)) (at count : ℕ) (classes : List Class) (i : ℕ) (row : PlainMethod) → slice_get (methods_meant headers all at count classes) i ≡ Some row → row.id ≡ as_number (count + i)
meant_numbered headers all at count [] i row e = cc
meant_numbered headers all at count (class ∷ classes) i row e =
    let scope = class_scope headers all (as_number at) in
    let own = methods_from scope count class.members in
    elim (got_either own (methods_meant headers all (at + 1) (count + length own) classes) i row e) [
      | inl here ↦ from_numbered scope count class.members i row here
      | inr more ↦
          let h = meant_numbered headers all (at + 1) (count + length own) classes more.0 row more.2 in
          let on : count + length own + more.0 ≡ count + i = omega (arith, more.1) in
          h ∙ ap as_number on
    ]

-- what is known
pub record Facts (table : Table) : Type 0 where
  pub forest : IsForest (parents_of (headers_of table))
  pub numbered : (i : ℕ) (row : MethodRow) → slice_get (methods_of table) i ≡ Some row → row.id ≡ i
  pub owned : (i : ℕ) (row : MethodRow) → slice_get (methods_of table) i ≡ Some row → row.owner < length (parents_of (headers_of table))
  pub overrides : (i : ℕ) (row : MethodRow) → slice_get (methods_of table) i ≡ Some row → entry_at table.overrides i ≡ overridden_in table row

pub facts_of : (program : Program) (table : Table) → HasRows program table → Facts table
facts_of program table has = record {
  forest = subst IsForest (sym same) (sound_from program.classes has.counted.0 (granted has).first);
  numbered = λ i row e.
      let within = slice_get_within (methods_of table) i row e in
      let is = meant_numbered (headers_of table) table.given 0 0 program.classes i (plain_method row) (sym (ap (λ rows. slice_get rows i) (granted has).read.methods) ∙ slice_get-map plain_method (methods_of table) i ∙ ap (option_map plain_method) e) in
      omega (arith, is, within, has.few);
  owned = λ i row e.
      let l = (row_counted program (headers_of table) table.given (methods_of table) has.counted (granted has).read.methods i row e).1 in
      omega (arith, l, as_many);
  overrides = λ i row e.
      ap (λ os. entry_at os i) (granted has).overridden
      ∙ ap (option_and_then (λ o. o)) (slice_get-map (overridden_in table) (methods_of table) i ∙ ap (option_map (overridden_in table)) e);
}
  where
    same : parents_of (headers_of table) ≡ parents_in program.classes
    same = ap parents_of (granted has).headers ∙ parents_gathered program.classes (headers_in program).rows _ refl

    as_many : length (parents_of (headers_of table)) ≡ length program.classes
    as_many = ap length same ∙ length_parents program.classes

-- the superclass of a class, looked for in the headers
row_parent : (rows : List Header) (at : ℕ) → option_and_then (λ (header : Header). header.parent) (slice_get rows at) ≡ entry_of (map (λ row. row.parent) rows) at
row_parent [] at = refl
row_parent (row ∷ rows) zero = refl
row_parent (row ∷ rows) (suc at) = row_parent rows at

pub parent_is : (table : Table) (at : ℕ) → parent_of (headers_of table) at ≡ entry_of (parents_of (headers_of table)) at
parent_is table at = row_parent (headers_of table).rows at

-- what is found of the classes is found in one of them
pub nearest_in : (f : ℕ → Option ℕ) (classes : List ℕ) (x : ℕ) → nearest f classes ≡ Some x → (class : ℕ) × Among class classes × (f class ≡ Some x)
nearest_in f [] x e = cc
nearest_in f (class ∷ classes) x e = by (f class) refl e (nearest_in f classes x)
  where
    by : (o : Option ℕ) → f class ≡ o → option_map_or (λ number. Some number) o (nearest f classes) ≡ Some x → (nearest f classes ≡ Some x → (one : ℕ) × Among one classes × (f one ≡ Some x)) → (one : ℕ) × Among one (class ∷ classes) × (f one ≡ Some x)
    by None is found more = let w = more found in (w.0, inr w.1, w.2)
    by (Some y) is found more = (class, inl refl, is ∙ found)

-- a class and those above it, so many at most
pub chain_up : (table : Table) (n at class : ℕ) → Among class (chain (parent_of (headers_of table)) n at) → (m : ℕ) × (up (parents_of (headers_of table)) m at ≡ Some class)
chain_up table zero at class h = absurd h
chain_up table (suc n) at class (inl e) = (0, ap Some (sym e))
chain_up table (suc n) at class (inr h) = by (parent_of (headers_of table) at) refl h (λ above. chain_up table n above class)
  where
    parents : List (Option ℕ)
    parents = parents_of (headers_of table)

    by : (o : Option ℕ) → parent_of (headers_of table) at ≡ o → Among class (option_map_or (λ above. chain (parent_of (headers_of table)) n above) o []) →
        ((above : ℕ) → Among class (chain (parent_of (headers_of table)) n above) → (m : ℕ) × (up parents m above ≡ Some class)) → (m : ℕ) × (up parents m at ≡ Some class)
    by None e h more = absurd h
    by (Some above) e h more =
        let w = more above h in
        let on : w.0 + 1 ≡ suc w.0 = omega arith in
        (suc w.0, ap (λ k. up parents k at) (sym on) ∙ up-then parents w.0 1 at above (sym (parent_is table at) ∙ e) ∙ w.1)

-- the last of the rows that is meant is one of them
pub last_in : (class name at : ℕ) (found : Option ℕ) (rows : List MethodRow) (id : ℕ) → last_from (is_method_of class name) by_id at found rows ≡ Some id →
    (found ≡ Some id) ⊎ ((i : ℕ) × (row : MethodRow) × (slice_get rows i ≡ Some row) × (is_method_of class name row ≡ true) × (row.id ≡ id))
last_in class name at found [] id e = inl e
last_in class name at found (row ∷ rows) id e =
    elim (last_in class name (at + 1) (cond (is_method_of class name row) (Some row.id) found) rows id e) [
      | inl now ↦ by (is_method_of class name row) refl now
      | inr w ↦ inr (suc w.0, w.1, w.2, w.3, w.4)
    ]
  where
    by : (b : Bool) → is_method_of class name row ≡ b → cond b (Some row.id) found ≡ Some id → (found ≡ Some id) ⊎ ((i : ℕ) × (one : MethodRow) × (slice_get (row ∷ rows) i ≡ Some one) × (is_method_of class name one ≡ true) × (one.id ≡ id))
    by true is now = let same : row.id ≡ id = cc in inr (0, row, refl, is, same)
    by false is now = inl now

-- the method that a name means in one of the classes
pub record IsMethod (table : Table) (class name id : ℕ) : Type 0 where
  pub row : MethodRow
  pub there : slice_get (methods_of table) id ≡ Some row
  pub own : is_own class row ≡ true
  pub called : row.name ≡ name

pub own_is : (table : Table) → Facts table → (class name id : ℕ) → method_number (methods_of table) class name ≡ Some id → IsMethod table class name id
own_is table facts class name id e =
    elim (last_in class name 0 None (methods_of table) id e) [
      | inl none ↦ absurd (none-some id none)
      | inr w ↦ of w.0 w.1 w.2 w.3 w.4
    ]
  where
    of : (i : ℕ) (row : MethodRow) → slice_get (methods_of table) i ≡ Some row → is_method_of class name row ≡ true → row.id ≡ id → IsMethod table class name id
    of i row there is same =
        let place : i ≡ id = sym (facts.numbered i row there) ∙ same in
        let first = and_true (not row.is_constructor) ((row.owner == class) && (row.name == name)) is in
        let second = and_true (row.owner == class) (row.name == name) first.1 in
        record {
          row = row;
          there = subst (λ k. slice_get (methods_of table) k ≡ Some row) place there;
          own = ap (λ b. b && (row.owner == class)) first.0 ∙ second.0;
          called = elim (eqb_tells row.name name) [ inl p ↦ p.1 | inr q ↦ absurd (true_false (second.1) (q.0)) ];
        }
      where
        true_false : {b : Bool} → b ≡ true → b ≡ false → ⊥
        true_false h k = cc

pub named_is : (table : Table) → Facts table → (at name id : ℕ) → method_named table at name ≡ Some id → (class n : ℕ) × (up (parents_of (headers_of table)) n at ≡ Some class) × IsMethod table class name id
named_is table facts at name id e =
    let w = nearest_in (λ class. method_number (methods_of table) class name) (chain (parent_of (headers_of table)) (class_count (headers_of table)) at) id e in
    let u = chain_up table (class_count (headers_of table)) at w.0 w.1 in
    (w.0, u.0, u.1, own_is table facts w.0 name id w.2)

-- what a method overrides its name means in the superclass of its class
pub over_is : (table : Table) → Facts table → (i above : ℕ) (row : MethodRow) → slice_get (methods_of table) i ≡ Some row → entry_at table.overrides i ≡ Some above →
    (parent : ℕ) × (parent_of (headers_of table) row.owner ≡ Some parent) × (method_named table parent row.name ≡ Some above)
over_is table facts i above row there e = by row.is_constructor (parent_of (headers_of table) row.owner) refl (sym (facts.overrides i row there) ∙ e)
  where
    by : (b : Bool) (o : Option ℕ) → parent_of (headers_of table) row.owner ≡ o → cond b None (option_and_then (λ p. method_named table p row.name) o) ≡ Some above
        → (parent : ℕ) × (parent_of (headers_of table) row.owner ≡ Some parent) × (method_named table parent row.name ≡ Some above)
    by true o is found = cc
    by false None is found = cc
    by false (Some p) is found = (p, is, found)
