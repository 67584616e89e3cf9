-- The tables of a code that is laid out are those of its program.
use Rattle.std.proofs.Common.{◌≡◌, ℕ, Bool, List, [], ◌∷◌, map, length, refl, ap, ◌∙◌, ap₂, option_and_then, Option, Some, None, slice_get, option_map}
use Rattle.std.proofs.lemmas.List.{length-map}
use Rattle.std.proofs.lemmas.Option.{slice_get-map}
use Rattle.std.proofs.Math.Path.{fun_ext}
use Rattle.std.specs.Option.{option_map_or}
use Rattle.lang_base.specs.Types.{PlainType}
use Rattle.lang_base.specs.Types.{PlainType as ty}
use Rattle.lang_base.specs.FirstValues.{first_value}
use Rattle.lang_typed.specs.Plain.{PlainProgram, PlainClass, PlainField}
use Rattle.lang_typed.specs.Resolved.{RowGives, Resolved}
use Rattle.lang_typed.specs.Scope as program
use Rattle.lang_meaning.specs.Values.{Region}
use Rattle.lang_meaning.specs.Counts.{class_entered}
use Rattle.lang_meaning.specs.Expressions.{first_of, class_fields}
use Rattle.code_scheme.proofs.Below.{entered_has}
use Rattle.code_instrs.specs.Plain.{PlainCode, parent_of, method_at, constructor_of, fields_of, class_at}
use Rattle.code_instrs.specs.Machine.{held_first}
use Rattle.code_scheme.specs.Scheme.{method_code, class_code}
use Rattle.code_scheme.specs.Stands.{LaidOut}

pub first_is : {N : Type 0} (t : PlainType) → held_first {N = N} (first_value t) ≡ first_of t
first_is ty.int = refl
first_is ty.boolean = refl
first_is ty.void = refl
first_is ty.null = refl
first_is (ty.class c args) = refl
first_is (ty.array t a named) = refl

firsts_are : {N : Type 0} (fs : List PlainField) → map (held_first {N = N}) (map (λ f. first_value f.ty) fs) ≡ map (λ f. first_of f.ty) fs
firsts_are [] = refl
firsts_are (f ∷ fs) = ap₂ ◌∷◌ (first_is f.ty) (firsts_are fs)

-- the row that is entered is there, and of the same kind
pub entered_gives : {M : Type 0} (P : PlainProgram) (resolved : Resolved P) (k c r : ℕ) (gives : Bool) (seen : Option (ℕ × List (Region M))) →
    RowGives P c r gives →
    RowGives P (class_entered (program.parent_of P) k c seen).0 r gives
entered_gives P resolved k c r gives seen g =
    entered_has (program.parent_of P) (λ a. RowGives P a r gives) (λ a p q h. resolved.below a r p gives q h) k c seen g

module _ (C : PlainCode) (P : PlainProgram) (number : ℕ → ℕ) (laid : LaidOut C P number) where
  class_is : (c : ℕ) → class_at C c ≡ option_map (class_code P number) (program.class_at P c)
  class_is c = ap (λ ks. slice_get ks c) laid.classes ∙ slice_get-map (class_code P number) P.classes c

  parent_is : (c : ℕ) → parent_of C c ≡ program.parent_of P c
  parent_is c = ap (λ k. option_and_then (λ k. k.parent) k) (class_is c) ∙ go (program.class_at P c)
    where
      go : (k : Option PlainClass) → option_and_then (λ k. k.parent) (option_map (class_code P number) k) ≡ option_and_then (λ k. k.parent) k
      go None = refl
      go (Some k) = refl

  pub parents_are : parent_of C ≡ program.parent_of P
  parents_are = fun_ext parent_is

  pub classes_many : length C.classes ≡ length P.classes
  classes_many = ap length laid.classes ∙ length-map P.classes (class_code P number)

  pub method_is : (c r n : ℕ) → program.row_at P c r ≡ Some n → method_at C c r ≡ Some (method_code P number n)
  method_is c r n e = ap (λ k. option_and_then (λ k. slice_get k.methods r) k) (class_is c) ∙
      (go (program.class_at P c) ∙ ap (λ x. option_map (method_code P number) x) e)
    where
      go : (k : Option PlainClass) →
          option_and_then (λ k. slice_get k.methods r) (option_map (class_code P number) k) ≡ option_map (method_code P number)
          (option_and_then (λ k. slice_get k.rows r) k)
      go None = refl
      go (Some k) = slice_get-map (method_code P number) k.rows r

  pub constructor_is : (c : ℕ) → constructor_of C c ≡ option_map number (program.constructor_of P c)
  constructor_is c = ap (λ k. option_and_then (λ k. k.constructor) k) (class_is c) ∙ go (program.class_at P c)
    where
      go : (k : Option PlainClass) →
          option_and_then (λ k. k.constructor) (option_map (class_code P number) k) ≡ option_map number (option_and_then (λ k. k.constructor) k)
      go None = refl
      go (Some k) = refl

  pub fields_are : {N : Type 0} (c : ℕ) → map (held_first {N = N}) (fields_of (class_at C c)) ≡ map (λ f. first_of f.ty) (class_fields P c)
  fields_are {N} c = ap (λ k. map (held_first {N = N}) (fields_of k)) (class_is c) ∙ go (program.class_at P c)
    where
      go : (k : Option PlainClass) →
          map (held_first {N = N}) (fields_of (option_map (class_code P number) k)) ≡ map (λ f. first_of f.ty) (option_map_or (λ k. k.fields) k [])
      go None = refl
      go (Some k) = firsts_are k.fields
