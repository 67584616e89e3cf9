-- The judgement: a typed program keeps the rules of the language.
use Rattle.std.specs.Prelude.{◌≡◌, ℕ, Bool, false, IsTrue, [], ◌∷◌, None, Some}
use Rattle.lang_base.specs.Types.{int}
use Rattle.lang_typed.specs.Plain.{PlainProgram, PlainClass, PlainMember}
use Rattle.lang_typed.specs.Scope.{class_at, member_at}
use Rattle.lang_typed.specs.Table.{GoodClass, GoodMember}

-- a run begins in a class without region parameters and constructor, by a method of its own from int to int, and nothing is
-- given of their regions
pub record GoodMain (P : PlainProgram) : Type 0 where
  pub class : PlainClass
  pub class_is : class_at P P.main_class ≡ Some class
  pub no_class_params : class.params ≡ []
  pub nothing_given_of_class : class.given ≡ []
  pub no_constructor : class.constructor ≡ None
  pub member : PlainMember
  pub member_is : member_at P P.main_member ≡ Some member
  pub own : member.class ≡ P.main_class
  pub no_params : member.params ≡ []
  pub nothing_given : member.given ≡ []
  pub formals : member.formals ≡ int ∷ []
  pub result : member.result ≡ int

pub record WellTyped (P : PlainProgram) : Type 0 where
  -- an order of the classes in which each stands after its superclass
  pub rank : ℕ → ℕ
  -- members that never reach a `cobegin_nd` or `foreach_nd`; all are, where the program has none
  pub member_nd_free : ℕ → Bool
  pub classes : (c : ℕ) (k : PlainClass) → class_at P c ≡ Some k → GoodClass P rank c k
  pub members : (n : ℕ) (m : PlainMember) → member_at P n ≡ Some m → GoodMember P member_nd_free n m
  pub main : GoodMain P
  pub without_nd : P.uses_nd ≡ false → (n : ℕ) → IsTrue (member_nd_free n)
