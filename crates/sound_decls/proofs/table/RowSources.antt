-- Where the rows of methods come from: each is that of a method in the text of its class.
use Rattle.std.proofs.Common.{◌≡◌, ◌∙◌, ℕ, zero, suc, ◌+◌, List, [], ◌∷◌, All, length, inl, inr, Some, refl, ap, sym, subst, arith}
use Rattle.std.proofs.lemmas.Option.{slice_get_within, slice_get-get_or, get_or_from_slice_get}
use Rattle.std.specs.Prelude.{slice_get}
use Rattle.lang_base.specs.declared.effect.Constraint.{Constraint}
use Rattle.decl_headers.specs.declared.header.Headers.{Headers}
use Rattle.decl_headers.specs.Numbers.{as_number}
use Rattle.decl_resolve.specs.Scopes.{PlainScope}
use Rattle.syntax_tree.specs.declared.class.Class.{Class}
use Rattle.syntax_tree.specs.declared.class.Member.{Member}
use Rattle.syntax_tree.specs.declared.class.Member.TheVariants as member
use Rattle.syntax_tree.specs.declared.class.Method.{Method}
use Rattle.decl_classes.specs.Around.{class_scope}
use Rattle.decl_table.specs.Plain.{PlainMethod}
use Rattle.decl_classes.specs.Rows.{method_row, methods_from, methods_meant}
use Rattle.decl_laws.proofs.Facts.{got_either}
use Rattle.sound_lemmas.proofs.Lists.{some_same}

-- what all elements of a list have, each at its place has
pub all_at : {X : Type 0} (Q : X → Type 0) (xs : List X) (i : ℕ) (x : X) → All Q xs → slice_get xs i ≡ Some x → Q x
all_at Q xs i x all e = subst Q (get_or_from_slice_get xs i x x e) (all i x (slice_get_within xs i x e))

pub all_from : {X : Type 0} (Q : X → Type 0) (xs : List X) → ((i : ℕ) (x : X) → slice_get xs i ≡ Some x → Q x) → All Q xs
all_from Q xs each i d l = each i _ (slice_get-get_or xs i d l)

-- the method in the text, and its class, where classes are counted on from a number
pub record Comes (classes : List Class) (at : ℕ) (row : PlainMethod) : Type 0 where
  pub class : Class
  pub place : ℕ
  pub stands : slice_get classes place ≡ Some class
  pub method : Method
  pub spot : ℕ
  pub declared : slice_get class.members spot ≡ Some (member.Method method)
  pub scope : PlainScope
  pub id : ℕ
  pub is : row ≡ method_row scope id method
  pub owner : row.owner ≡ as_number (at + place)

-- the same within a class
record Among (scope : PlainScope) (members : List Member) (row : PlainMethod) : Type 0 where
  method : Method
  spot : ℕ
  declared : slice_get members spot ≡ Some (member.Method method)
  id : ℕ
  is : row ≡ method_row scope id method

after_one : (scope : PlainScope) (m : Member) (members : List Member) (row : PlainMethod) → Among scope members row → Among scope (m ∷ members) row
after_one scope m members row w = record { method = w.method; spot = suc w.spot; declared = w.declared; id = w.id; is = w.is }

from_members : (scope : PlainScope) (count : ℕ) (members : List Member) (i : ℕ) (row : PlainMethod) → slice_get (methods_from scope count members) i ≡ Some row → Among scope members row
from_members scope count [] i row e = cc
from_members scope count (member.Regions is_atomic names ∷ members) i row e = after_one scope _ members row (from_members scope (count + 0) members i row e)
from_members scope count (member.Field field ∷ members) i row e = after_one scope _ members row (from_members scope (count + 0) members i row e)
from_members scope count (member.Method method ∷ members) zero row e = record { method = method; spot = 0; declared = refl; id = as_number count; is = sym (some_same e) }
from_members scope count (member.Method method ∷ members) (suc i) row e = after_one scope _ members row (from_members scope (count + 1) members i row e)

pub row_comes : (headers : Headers) (all : List (List Constraint)) (at count : ℕ) (classes : List Class) (i : ℕ) (row : PlainMethod) → slice_get (methods_meant headers all at count classes) i ≡ Some row → Comes classes at row
row_comes headers all at count [] i row e = cc
row_comes headers all at count (class ∷ classes) i row e =
    let scope = class_scope headers all (as_number at) in
    let own = methods_from scope count class.members in
    elim (got_either own (methods_meant headers all (at + 1) (count + length own) classes) i row e) [
      | inl here ↦
          let w = from_members scope count class.members i row here in
          let first : at ≡ at + 0 = omega arith in
          record {
            class = class;
            place = 0;
            stands = refl;
            method = w.method;
            spot = w.spot;
            declared = w.declared;
            scope = scope;
            id = w.id;
            is = w.is;
            owner = ap (λ (r : PlainMethod). r.owner) w.is ∙ ap as_number first;
          }
      | inr more ↦
          let w = row_comes headers all (at + 1) (count + length own) classes more.0 row more.2 in
          let next : at + 1 + w.place ≡ at + suc w.place = omega arith in
          record {
            class = w.class;
            place = suc w.place;
            stands = w.stands;
            method = w.method;
            spot = w.spot;
            declared = w.declared;
            scope = w.scope;
            id = w.id;
            is = w.is;
            owner = w.owner ∙ ap as_number next;
          }
    ]
