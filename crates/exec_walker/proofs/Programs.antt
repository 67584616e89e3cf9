-- What a program declares, in the code's types.
use Rattle.std.proofs.Common.{◌≡◌, ◌∙◌, ℕ, List, [], ◌∷◌, map, sym, ap, ap₂, refl, Some, None}
use Rattle.std.specs.Prelude.{slice_get, option_map}
use Rattle.std.specs.Option.{option_map_or}
use Rattle.std.proofs.lemmas.Option.{slice_get-map}
use Rattle.lang_base.specs.FirstValues.{first_value, constant_of}
use Rattle.lang_base.specs.Types.{PlainType}
use Rattle.lang_base.specs.Types.{PlainType as ty}
use Rattle.lang_typed.specs.declared.program.Class.{Class}
use Rattle.lang_typed.specs.declared.program.Program.{Program}
use Rattle.lang_typed.specs.declared.program.Member.{Member}
use Rattle.lang_typed.specs.Plain.{PlainField, plain_program, plain_class, plain_member}
use Rattle.lang_typed.specs.Scope.{member_at}
use Rattle.lang_meaning.specs.Expressions.{class_fields, first_of}
use Rattle.exec_frames.specs.Names.{plain_value}

pub first_is : (t : PlainType) → plain_value (constant_of (first_value t)) ≡ first_of t
first_is ty.int = refl
first_is ty.boolean = refl
first_is ty.void = refl
first_is ty.null = refl
first_is (ty.class c args) = refl
first_is (ty.array t a named) = refl

firsts : (fs : List PlainField) → map plain_value (map constant_of (map (λ f. first_value f.ty) fs)) ≡ map (λ f. first_of {N = ℕ} f.ty) fs
firsts [] = refl
firsts (f ∷ fs) = ap₂ (λ v vs. v ∷ vs) (first_is f.ty) (firsts fs)

pub first_values : (P : Program) (c : ℕ) (k : Class) → Some k ≡ slice_get P.classes c
    → map plain_value (map constant_of (map (λ f. first_value f.ty) (plain_class P.classes k).fields)) ≡ map (λ f. first_of {N = ℕ} f.ty) (class_fields (plain_program P) c)
first_values P c k e =
    firsts (plain_class P.classes k).fields
    ∙ ap (λ o. map (λ f. first_of {N = ℕ} f.ty) (option_map_or (λ k. k.fields) o []))
    (ap (option_map (plain_class P.classes)) e ∙ sym (slice_get-map (plain_class P.classes) P.classes c))

pub no_values : (P : Program) (c : ℕ) → slice_get P.classes c ≡ None → [] ≡ map (λ f. first_of {N = ℕ} f.ty) (class_fields (plain_program P) c)
no_values P c e =
    ap (λ o. map (λ f. first_of {N = ℕ} f.ty) (option_map_or (λ k. k.fields) o [])) (ap (option_map (plain_class P.classes)) (sym e) ∙ sym (slice_get-map (plain_class P.classes) P.classes c))

pub member_is : (P : Program) (n : ℕ) (m : Member) → Some m ≡ slice_get P.members n → Some (plain_member m) ≡ member_at (plain_program P) n
member_is P n m e = ap (option_map plain_member) e ∙ sym (slice_get-map plain_member P.members n)

pub no_member : (P : Program) (n : ℕ) → None ≡ slice_get P.members n → None ≡ member_at (plain_program P) n
no_member P n e = ap (option_map plain_member) e ∙ sym (slice_get-map plain_member P.members n)
