-- The fields of a class, from the class at the top of those above it down.
use Rattle.std.proofs.Common.{◌≡◌, ◌∙◌, ℕ, zero, suc, List, [], ◌∷◌, ◌++◌, map, length, refl, sym, ap, ap₂, append_assoc, Option, Some, None, option_map, slice_get}
use Rattle.std.specs.Option.{option_map_or}
use Rattle.std.proofs.lemmas.List.{append-nil, map-append}
use Rattle.lang_base.specs.declared.region.Rpl.{Rpl}
use Rattle.lang_base.specs.declared.value.FirstValue.{FirstValue}
use Rattle.lang_base.specs.FirstValues.{first_value}
use Rattle.lang_base.specs.Types.{PlainType, plain_type, type_with}
use Rattle.lang_base.specs.Types.{PlainType as ty}
use Rattle.lang_typed.specs.declared.program.Class.{Class}
use Rattle.lang_typed.specs.declared.program.Field.{Field}
use Rattle.lang_typed.specs.declared.program.Parent.{Parent}
use Rattle.lang_typed.specs.Plain.{PlainField, field_with, fields_after, fields_up, plain_class, plain_field, plain_parent}
use Rattle.lang_typed.specs.Inherited.{superclasses}

-- one class further up, and no class further up
pub one_above : (all : List Class) (n : ℕ) (p : Parent) (parent : Option Parent) (above : Class) → parent ≡ Some p → slice_get all p.class.number ≡ Some above →
    superclasses all (suc n) parent ≡ p.class.number ∷ superclasses all n above.parent
one_above all n p parent above is found =
    ap (superclasses all (suc n)) is ∙ ap (λ o. option_map_or (λ (c : Class). p.class.number ∷ superclasses all n c.parent) o []) found

pub nothing_above : (all : List Class) (n : ℕ) (parent : Option Parent) → parent ≡ None → superclasses all n parent ≡ []
nothing_above all zero parent is = refl
nothing_above all (suc n) parent is = ap (superclasses all (suc n)) is

pub no_class_above : (all : List Class) (n : ℕ) (p : Parent) (parent : Option Parent) → parent ≡ Some p → slice_get all p.class.number ≡ None → superclasses all n parent ≡ []
no_class_above all zero p parent is found = refl
no_class_above all (suc n) p parent is found =
    ap (superclasses all (suc n)) is ∙ ap (λ o. option_map_or (λ (c : Class). p.class.number ∷ superclasses all n c.parent) o []) found

-- what the classes of a list have of their own, the last first
pub own_along : {A : Type 0} → (Field → A) → List Class → List ℕ → List A
own_along f all [] = []
own_along f all (at ∷ more) = own_along f all more ++ option_map_or (λ (c : Class). map f c.fields) (slice_get all at) []

pub along_more : {A : Type 0} (f : Field → A) (all : List Class) (xs ys : List ℕ) → own_along f all (xs ++ ys) ≡ own_along f all ys ++ own_along f all xs
unfolding own_along
along_more f all [] ys = sym (append-nil (own_along f all ys))
along_more f all (x ∷ xs) ys =
    ap (λ vs. vs ++ option_map_or (λ (c : Class). map f c.fields) (slice_get all x) []) (along_more f all xs ys)
    ∙ append_assoc (own_along f all ys) (own_along f all xs) (option_map_or (λ (c : Class). map f c.fields) (slice_get all x) [])

-- the last class of a list comes first
pub along_last : {A : Type 0} (f : Field → A) (all : List Class) (xs : List ℕ) (x : ℕ) → own_along f all (xs ++ x ∷ []) ≡ option_map_or (λ (c : Class). map f c.fields) (slice_get all x) [] ++ own_along f all xs
unfolding own_along
along_last f all xs x = along_more f all xs (x ∷ [])

-- the first value of a field is the same with region arguments put in
first_put : (args : List Rpl) (t : PlainType) → first_value (type_with args t) ≡ first_value t
first_put args ty.int = refl
first_put args ty.boolean = refl
first_put args ty.void = refl
first_put args ty.null = refl
first_put args (ty.class c paths) = refl
first_put args (ty.array t a named) = refl

firsts_put : (args : List Rpl) (fs : List PlainField) → map (λ (f : PlainField). first_value f.ty) (map (field_with args) fs) ≡ map (λ (f : PlainField). first_value f.ty) fs
firsts_put args [] = refl
firsts_put args (f ∷ fs) = ap₂ (λ v vs. v ∷ vs) (first_put args f.ty) (firsts_put args fs)

own_firsts : (fs : List Field) → map (λ (f : PlainField). first_value f.ty) (map plain_field fs) ≡ map (λ f. first_value (plain_type f.ty)) fs
own_firsts [] = refl
own_firsts (f ∷ fs) = ap (λ vs. first_value (plain_type f.ty) ∷ vs) (own_firsts fs)

abbrev pub firsts : List PlainField → List FirstValue
firsts fs = map (λ (f : PlainField). first_value f.ty) fs

abbrev pub value_of : Field → FirstValue
value_of f = first_value (plain_type f.ty)

abbrev inherited : List Class → ℕ → Option Parent → List PlainField
inherited all n parent = option_map_or (λ p. map (field_with p.args) (fields_up all n p.class)) (option_map plain_parent parent) []

along_up : (all : List Class) (n : ℕ) (parent : Option Parent) → own_along value_of all (superclasses all n parent) ≡ firsts (inherited all n parent)
unfolding own_along
along_up all zero None = refl
along_up all zero (Some p) = refl
along_up all (suc n) None = refl
along_up all (suc n) (Some p) = by (slice_get all p.class.number) refl (λ parent. along_up all n parent)
  where
    by : (o : Option Class) → slice_get all p.class.number ≡ o → ((parent : Option Parent) → own_along value_of all (superclasses all n parent) ≡ firsts (inherited all n parent)) →
        own_along value_of all (option_map_or (λ (c : Class). p.class.number ∷ superclasses all n c.parent) o []) ≡ firsts (map (field_with p.args) (option_map_or (fields_after (fields_up all n)) o []))
    by None e more = refl
    by (Some c) e more =
        ap (λ o. own_along value_of all (superclasses all n c.parent) ++ option_map_or (λ (c : Class). map value_of c.fields) o []) e
        ∙ ap₂ (λ xs ys. xs ++ ys) (more c.parent) (sym (own_firsts c.fields))
        ∙ sym (map-append (λ (f : PlainField). first_value f.ty) (inherited all n c.parent) (map plain_field c.fields))
        ∙ sym (firsts_put p.args (fields_after (fields_up all n) c))

pub values_are : (all : List Class) (c : Class) → own_along value_of all (superclasses all (length all) c.parent) ++ map value_of c.fields ≡ firsts (plain_class all c).fields
values_are all c =
    ap₂ (λ xs ys. xs ++ ys) (along_up all (length all) c.parent) (sym (own_firsts c.fields))
    ∙ sym (map-append (λ (f : PlainField). first_value f.ty) (inherited all (length all) c.parent) (map plain_field c.fields))

pub along_none : {A : Type 0} (f : Field → A) (all : List Class) → own_along f all [] ≡ []
unfolding own_along
along_none f all = refl
