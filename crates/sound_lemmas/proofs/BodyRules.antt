-- The steps of a body that is accepted, of members and classes one after the other, as inversions of their functions.
use Rattle.std.proofs.Common.{◌≡◌, ℕ, suc, ◌+◌, ◌<◌, Bool, true, false, cond, List, [], ◌∷◌, ◌++◌, All, map, codes, Option, Some, None, Result, Ok, Err, inl, inr, refl, subst, arith}
use Rattle.std.specs.Bool.{Decides}
use Rattle.std.specs.List.{list_all}
use Rattle.std.specs.Prelude.{nat_lt}
use Rattle.std.proofs.lemmas.Bool.{false≢true}
use Rattle.std.proofs.lemmas.Bool.Decides.{Decides-and, Decides-ltb}
use Rattle.std.proofs.lemmas.List.Elements.{All-nil, All-cons, All-head, All-tail}
use Rattle.std.proofs.lemmas.List.Kept.{AllPairs-cons}
use Rattle.lang_base.specs.declared.ty.Super.{Super}
use Rattle.lang_base.specs.Types.{Ordered}
use Rattle.decl_headers.specs.Gathered.{name_number}
use Rattle.decl_table.specs.declared.table.Table.{Table}
use Rattle.decl_table.specs.Table.{supers_of as superclasses}
use Rattle.syntax_tree.specs.declared.class.Program.{Program}
use Rattle.body_exprs.specs.Env.{IsFresh, class_params}
use Rattle.body_exprs.specs.Typed.{AreTaken}
use Rattle.lang_base.specs.declared.refusal.Refusal.{Refusal}
use Rattle.decl_headers.specs.Numbers.{as_number}
use Rattle.syntax_tree.specs.declared.class.Class.{Class}
use Rattle.syntax_tree.specs.declared.class.Member.{Member}
use Rattle.syntax_tree.specs.declared.class.Member.TheVariants as member
use Rattle.syntax_tree.specs.declared.class.Method.{Method}
use Rattle.syntax_tree.specs.Plain.{plain_stmt, plain_stmts}
use Rattle.lang_typed.specs.Plain.{TypedStmt}
use Rattle.body_assembly.specs.Assembled.{PlainBody}
use Rattle.body_exprs.specs.declared.env.Env.{Env}
use Rattle.body_exprs.specs.Env.{table_of, at_class}
use Rattle.body_check.specs.Checking.{check_block}
use Rattle.body_check.specs.Deciding.{has_value}
use Rattle.body_check.specs.Around.{method_around}
use Rattle.body_check.specs.Methods.{own_params, body_begun, after_ok, then_ok, method_judged, check_method, check_member, number_after, bodies_of, PlainBodies, after_bodies, check_members, check_classes, in_order, around_classes, BodiesChecking}
use Rattle.body_check.specs.Walks.{Verdict}

pub data MethodChecking (class_env : Env) (params : List Bool) (number : ℕ) (method : Method) : Result PlainBody Refusal → Type 0 where
  of_method : {u : Verdict (List TypedStmt)} {v : Result PlainBody Refusal} →
      check_block params (method_around (has_value method.result)) (plain_stmts (map plain_stmt method.body)) (body_begun class_env number method) ≡ u →
      method_judged class_env number method u ≡ v → MethodChecking class_env params number method v

abbrev pub is_method : Member → Bool
is_method (member.Regions is_atomic names) = false
is_method (member.Field declared) = false
is_method (member.Method method) = true

-- a member of a class, which has a body or none
pub data MemberChecking (class_env : Env) (params : List Bool) : Member → ℕ → Result (Option PlainBody) Refusal → Type 0 where
  no_method : {m : Member} {number : ℕ} → is_method m ≡ false → MemberChecking class_env params m number (Ok None)
  a_method : {method : Method} {number : ℕ} {r : Result PlainBody Refusal} {v : Result (Option PlainBody) Refusal} →
      MethodChecking class_env (params ++ own_params (table_of class_env) number) number method r → after_ok Some r ≡ v →
      MemberChecking class_env params (member.Method method) number v

-- the members of a class, whose first method has this number
pub data MembersChecking (class_env : Env) (params : List Bool) : List Member → ℕ → Result PlainBodies Refusal → Type 0 where
  no_members : {number : ℕ} → MembersChecking class_env params [] number (Ok (record { next = number; bodies = [] }))
  then_members : {m : Member} {ms : List Member} {number : ℕ} {made : Option PlainBody} {u v : Result PlainBodies Refusal} →
      MemberChecking class_env params m number (Ok made) → MembersChecking class_env params ms (number_after made number) u →
      after_ok (after_bodies (bodies_of made)) u ≡ v → MembersChecking class_env params (m ∷ ms) number v
  is_refused : {ms : List Member} {number : ℕ} {q : Refusal} → MembersChecking class_env params ms number (Err q)

-- the classes from a number on, whose first method has the other number
pub data ClassesChecking (start : Env) : ℕ → List Class → ℕ → Result (List PlainBody) Refusal → Type 0 where
  no_classes : {at number : ℕ} → ClassesChecking start at [] number (Ok [])
  then_classes : {at number : ℕ} {class : Class} {classes : List Class} {made : PlainBodies} {u v : Result (List PlainBody) Refusal} →
      MembersChecking (at_class start (as_number at)) (class_params (table_of start) (as_number at)) class.members number (Ok made) →
      ClassesChecking start (at + 1) classes made.next u → after_ok (λ bodies. made.bodies ++ bodies) u ≡ v →
      ClassesChecking start at (class ∷ classes) number v
  is_refused : {at number : ℕ} {classes : List Class} {q : Refusal} → ClassesChecking start at classes number (Err q)

-- each answer of the functions is one that these steps lead to
method_steps : (class_env : Env) (params : List Bool) (number : ℕ) (method : Method) → MethodChecking class_env params number method (check_method class_env params number method)
method_steps class_env params number method = MethodChecking.of_method refl refl

member_steps : (class_env : Env) (params : List Bool) (m : Member) (number : ℕ) → MemberChecking class_env params m number (check_member class_env params m number)
member_steps class_env params (member.Regions is_atomic names) number = MemberChecking.no_method refl
member_steps class_env params (member.Field declared) number = MemberChecking.no_method refl
member_steps class_env params (member.Method method) number = MemberChecking.a_method (method_steps class_env _ number method) refl

then_made : {T U : Type 0} (R : Result U Refusal → Type 0) (r : Result T Refusal) (next : T → Result U Refusal) → ((q : Refusal) → R (Err q)) → ((made : T) → r ≡ Ok made → R (next made)) → R (then_ok r next)
then_made R (Ok made) next refusing going = going made refl
then_made R (Err q) next refusing going = refusing q

members_steps : (class_env : Env) (params : List Bool) (ms : List Member) (number : ℕ) → MembersChecking class_env params ms number (check_members class_env params ms number)
members_steps class_env params [] number = MembersChecking.no_members
members_steps class_env params (m ∷ ms) number =
    then_made (MembersChecking class_env params (m ∷ ms) number) (check_member class_env params m number) _ (λ q. MembersChecking.is_refused) (λ made is.
    MembersChecking.then_members (subst (MemberChecking class_env params m number) is (member_steps class_env params m number)) (members_steps class_env params ms (number_after made number)) refl)

pub classes_steps : (start : Env) (at : ℕ) (classes : List Class) (number : ℕ) → ClassesChecking start at classes number (check_classes start at classes number)
classes_steps start at [] number = ClassesChecking.no_classes
classes_steps start at (class ∷ classes) number =
    then_made (ClassesChecking start at (class ∷ classes) number) (check_members (at_class start (as_number at)) (class_params (table_of start) (as_number at)) class.members number) _ (λ q. ClassesChecking.is_refused) (λ made is.
    ClassesChecking.then_classes (subst (MembersChecking _ _ class.members number) is (members_steps _ _ class.members number)) (classes_steps start (at + 1) classes made.next) refl)

-- what stands around the bodies of a program before its first class
abbrev pub start_in : Program → Table → Env
start_in program table = around_classes table (name_number program.names (codes "length"))

pub checks_in : (program : Program) (table : Table) {v : Result (List PlainBody) Refusal} → BodiesChecking program table v → ClassesChecking (start_in program table) 0 program.classes 0 v
checks_in program table is = subst (ClassesChecking (start_in program table) 0 program.classes 0) is (classes_steps (start_in program table) 0 program.classes 0)

all_is : {X : Type 0} (test : X → Bool) (P : X → Type 0) → ((x : X) → Decides (test x) (P x)) → (xs : List X) → Decides (list_all test xs) (All P xs)
all_is test P each [] = (λ t. All-nil P, λ h. refl)
all_is test P each (x ∷ xs) =
    let both = Decides-and (test x) (list_all test xs) (each x) (all_is test P each xs) in
    (λ t. All-cons P x xs (both.0 t).0 (both.0 t).1, λ h. both.1 (All-head P x xs h, All-tail P x xs h))

abbrev Before : Super → Super → Type 0
Before row later = row.class < later.class

in_order_is : (rows : List Super) → Decides (in_order rows) (Ordered rows)
in_order_is [] = (λ t i j d order lt. absurd (omega (arith, lt)), λ o. refl)
in_order_is (row ∷ rows) =
    let both = Decides-and (list_all (λ later. nat_lt row.class later.class) rows) (in_order rows) (all_is (λ later. nat_lt row.class later.class) (Before row) (λ later. Decides-ltb row.class later.class) rows) (in_order_is rows) in (
      λ t. AllPairs-cons Before row rows (both.0 t).0 (both.0 t).1,
      λ o. both.1 (λ k d lt. o 0 (suc k) d (omega arith) (omega (arith, lt)), λ i k d order lt. o (suc i) (suc k) d (omega (arith, order)) (omega (arith, lt))),
    )

taken : (rows : List Super) (ordered : Bool) → Decides ordered (Ordered rows) → AreTaken rows (cond ordered rows [])
taken rows true is = inl (is.0 refl, refl)
taken rows false is = inr (λ o. false≢true (is.1 o), refl)

pub fresh_start : (program : Program) (table : Table) → IsFresh table (name_number program.names (codes "length")) (start_in program table)
fresh_start program table = record { table_is = refl; supers_are = taken (superclasses table) (in_order (superclasses table)) (in_order_is (superclasses table)); length_is = refl }
