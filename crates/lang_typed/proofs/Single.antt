-- Programs of one method, in `Main`: what is the same for all of them.
use Rattle.std.proofs.Common.{◌≡◌, ℕ, zero, suc, Bool, true, false, List, [], ◌∷◌, All, Some, None, IsTrue, ◌<◌, refl, subst, inr, slice_get}
use Rattle.std.proofs.lemmas.List.Elements.{All-nil, All-cons}
use Rattle.lang_base.specs.declared.elems.Elem.TheVariants.{Star}
use Rattle.lang_base.specs.Effects.{set_covers}
use Rattle.lang_base.specs.Types.{int}
use Rattle.lang_typed.specs.Plain.{PlainProgram, PlainClass, PlainField, TypedStmts}
use Rattle.lang_typed.specs.Scope.{Scope, same}
use Rattle.lang_typed.specs.Effects.{Own, as_effects}
use Rattle.lang_typed.specs.Samples.{main_class, main_member, program_of, anything}
use Rattle.lang_typed.specs.Statements.{AllPass, all_complete}
use Rattle.lang_typed.specs.Table.{GoodConstraint, RowIsThere, GoodClass, GoodMember, GoodField, class_scope, member_scope, body_scope}
use Rattle.lang_typed.specs.Types.{GoodElem, GoodPath, GoodType}
use Rattle.lang_typed.specs.WellTyped.{GoodMain}

pub some_is : {A : Type 0} (x y : A) → Some x ≡ Some y → x ≡ y
some_is x y e = cc

pub nothing_there : {A : Type 0} {B : Type 0} (x : A) → None ≡ Some x → B
nothing_there x e = absurd (cc)

-- all that stands at a position of a list of one, or of two
pub of_one : {A : Type 0} (Q : ℕ → A → Type 0) (m : A) → Q 0 m → (n : ℕ) (k : A) → slice_get (m ∷ []) n ≡ Some k → Q n k
of_one Q m q zero k e = subst (Q 0) (some_is m k e) q
of_one Q m q (suc n) k e = nothing_there k e

pub of_two : {A : Type 0} (Q : ℕ → A → Type 0) (m p : A) → Q 0 m → Q 1 p → (n : ℕ) (k : A) → slice_get (m ∷ p ∷ []) n ≡ Some k → Q n k
of_two Q m p q r zero k e = subst (Q 0) (some_is m k e) q
of_two Q m p q r (suc zero) k e = subst (Q 1) (some_is p k e) r
of_two Q m p q r (suc (suc n)) k e = nothing_there k e

pub all_one : {A : Type 0} (P : A → Type 0) (x : A) → P x → All P (x ∷ [])
all_one P x h = All-cons P x [] h (All-nil P)

pub all_two : {A : Type 0} (P : A → Type 0) (x y : A) → P x → P y → All P (x ∷ y ∷ [])
all_two P x y h k = All-cons P x (y ∷ []) h (all_one P y k)

abbrev pub no_order : ℕ → ℕ
no_order c = 0

abbrev pub all_nd_free : ℕ → Bool
all_nd_free n = true

-- `Main`, whose fields are good
pub main_good : (fields : List PlainField) (classes : List PlainClass) (slots : ℕ) (body : TypedStmts) →
    All (GoodField (program_of fields classes slots body) (main_class fields)) fields →
    GoodClass (program_of fields classes slots body) no_order 0 (main_class fields)
main_good fields classes slots body h = record {
  given = All-nil (GoodConstraint (program_of fields classes slots body) (class_scope (main_class fields)));
  parent = λ p e. nothing_there p e;
  fields = h;
  rows = all_one (RowIsThere (program_of fields classes slots body) 0) 0 (main_member slots body, refl, same);
  constructor = λ n e. nothing_there n e;
}

-- the method: its body passes, with effects that its summary covers, and doesn't complete
pub method_good : (fields : List PlainField) (classes : List PlainClass) (slots : ℕ) (body : TypedStmts) (E : List Own) →
    1 < slots → AllPass (program_of fields classes slots body) (body_scope (main_class fields) all_nd_free 0 (main_member slots body)) body E →
    IsTrue (set_covers (anything ∷ []) (as_effects E)) → all_complete body ≡ false →
    GoodMember (program_of fields classes slots body) all_nd_free 0 (main_member slots body)
method_good fields classes slots body E room passes covered ends =
    let P : PlainProgram = program_of fields classes slots body in
    let L : Scope = member_scope (main_class fields) (main_member slots body) in
    record {
      class = main_class fields;
      is = refl;
      given = All-nil (GoodConstraint P L);
      formals = all_one (GoodType P L 0) int tt;
      result = inr tt;
      summary = all_one (λ e. GoodPath P L 0 e.rpl) anything (record { begins = tt; elems = all_one (GoodElem P L 0) Star tt });
      room = room;
      effects = E;
      passes = passes;
      covered = covered;
      ends = inr ends;
    }

-- a run begins in `Main`
pub main_is : (fields : List PlainField) (classes : List PlainClass) (slots : ℕ) (body : TypedStmts) → GoodMain (program_of fields classes slots body)
main_is fields classes slots body = record {
  class = main_class fields;
  class_is = refl;
  no_class_params = refl;
  nothing_given_of_class = refl;
  no_constructor = refl;
  member = main_member slots body;
  member_is = refl;
  own = refl;
  no_params = refl;
  nothing_given = refl;
  formals = refl;
  result = refl;
}
