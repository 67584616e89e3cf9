-- Two classes of code with the same parts are one; what a row names is the member's code.
use Rattle.std.proofs.Common.{◌≡◌, ◌∙◌, ℕ, List, [], ◌∷◌, map, Option, Some, None, option_map, slice_get, refl, sym, ap, ap₂, unwrap_or}
use Rattle.std.proofs.lemmas.Option.{slice_get-map, unwrap_or-slice_get}
use Rattle.lang_base.specs.declared.value.FirstValue.{FirstValue}
use Rattle.lang_typed.specs.declared.program.Member.{Member}
use Rattle.lang_typed.specs.declared.program.Program.{Program}
use Rattle.lang_typed.specs.Plain.{PlainParent, plain_member, plain_program}
use Rattle.code_instrs.specs.declared.code.MethodCode.{MethodCode}
use Rattle.code_instrs.specs.Plain.{ClassCode, Method, member_in, member_or_none}
use Rattle.code_scheme.specs.Scheme.{method_code, owner_of}
use Rattle.code_compile.specs.Classes.{AreMembers, number_from, numbers_of}

abbrev class_from : Option PlainParent → List FirstValue → Option ℕ → List Method → ClassCode
class_from parent fields constructor methods = record { parent = parent; fields = fields; constructor = constructor; methods = methods }

pub same_class : (p q : Option PlainParent) (f g : List FirstValue) (c d : Option ℕ) (m n : List Method) → p ≡ q → f ≡ g → c ≡ d → m ≡ n →
    class_from p f c m ≡ class_from q g d n
same_class p q f g c d m n parent fields constructor methods =
    ap (λ z. class_from z f c m) parent ∙ ap (λ z. class_from q z c m) fields ∙ ap (λ z. class_from q g z m) constructor ∙ ap (λ z. class_from q g d z) methods

abbrev method_from : ℕ → ℕ → Method
method_from owner body = record { owner = owner; body = body }

abbrev or_zero : Option ℕ → ℕ
or_zero o = unwrap_or o 0

abbrev class_number : Member → ℕ
class_number m = m.class.number

owner_is : (o : Option Member) → or_zero (option_map class_number o) ≡ owner_of (option_map plain_member o)
owner_is None = refl
owner_is (Some m) = refl

parts_are : (o : Option MethodCode) → member_or_none o ≡ method_from (or_zero (option_map (λ (m : MethodCode). m.owner) o)) (or_zero (option_map (λ (m : MethodCode). m.body) o))
parts_are None = refl
parts_are (Some m) = refl

-- a member of the code is that of the program
member_is : (P : Program) (members : List MethodCode) → AreMembers P members → (n : ℕ) → member_in members n ≡ method_code (plain_program P) (number_from (numbers_of members)) n
member_is P members are n =
    parts_are (slice_get members n)
    ∙ ap₂ method_from
    (ap or_zero (sym (slice_get-map (λ (m : MethodCode). m.owner) members n) ∙ ap (λ owners. slice_get owners n) are ∙ slice_get-map class_number P.members n)
    ∙ owner_is (slice_get P.members n) ∙ ap owner_of (sym (slice_get-map plain_member P.members n)))
    (ap or_zero (sym (slice_get-map (λ (m : MethodCode). m.body) members n)) ∙ unwrap_or-slice_get (numbers_of members) n 0)

pub members_are : (P : Program) (members : List MethodCode) → AreMembers P members → (ns : List ℕ) →
    map (member_in members) ns ≡ map (method_code (plain_program P) (number_from (numbers_of members))) ns
members_are P members are [] = refl
members_are P members are (n ∷ ns) = ap₂ ◌∷◌ (member_is P members are n) (members_are P members are ns)
