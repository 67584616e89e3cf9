-- What calls, creations and accesses do, by the rules, and what blocks do, by their first statement.
use Rattle.std.proofs.Common.{◌≡◌, ◌∙◌, ℕ, Bool, List, [], ◌∷◌, ◌++◌, Option, Some, None, refl, ap}
use Rattle.std.specs.Option.{option_and_then}
use Rattle.std.proofs.lemmas.List.{append-nil}
use Rattle.lang_base.specs.declared.region.Rpl.{Rpl}
use Rattle.lang_base.specs.Regions.{substituted}
use Rattle.lang_base.specs.Types.{PlainType, class, array, path_at}
use Rattle.lang_typed.specs.Plain.{PlainProgram, PlainClass, PlainField, PlainMember, TypedExpr, TypedStmt, statement, TypedStmts, no_stmts, more_stmts, TypedBranches, no_branches, more_branches}
use Rattle.lang_typed.specs.Plain.{StmtForm as form}
use Rattle.lang_typed.specs.Scope.{Scope, Local, part, class_at, member_at, field_at, row_at, constructor_of, with_local, Above}
use Rattle.lang_typed.specs.Effects.{Own, summary_with, outside_variable, outside_regions}
use Rattle.lang_typed.specs.Statements.{declared_as, joined, Passes, store, store_field, store_element, store_part, perform, nested, choice, choice_else, while_loop, return_nothing, return_value, print_int, print_boolean, print_text, atomic, cobegin, foreach, foreach_parts}
use Rattle.lang_typed.specs.Typing.{index_elem}
use Rattle.body_infer.specs.Doing.{of_field, of_element, of_local, of_callee, of_constructor, member_in, constructed, effects_of, effects_of_all, effects_of_branches}
use Rattle.sound_infer.proofs.Chains.{Falls, seen_is}

pub field_is : (P : PlainProgram) (t : PlainType) (c k : ℕ) (args : List Rpl) (f : PlainField) (access : Rpl → Own) → t ≡ class c args → field_at P c k ≡ Some f →
    of_field P t (field_at P c k) access ≡ access (substituted args f.region) ∷ []
field_is P t c k args f access e g = ap (λ u. of_field P u (field_at P c k) access) e ∙ ap (λ o. of_field P (class c args) o access) g

pub element_is : (L : Scope) (t u : PlainType) (a : Rpl) (named : Bool) (i : TypedExpr) (access : Rpl → Own) → t ≡ array u a named → of_element L t i access ≡ access (path_at 0 (index_elem L i) a) ∷ []
element_is L t u a named i access e = ap (λ v. of_element L v i access) e

pub local_is : (l : Option Local) (t : PlainType) (a : Rpl) (access : Rpl → Own) → l ≡ Some (part t a) → of_local l access ≡ access a ∷ []
local_is l t a access e = ap (λ o. of_local o access) e

member_is : (P : PlainProgram) (o : Option ℕ) (n : ℕ) (m : PlainMember) → o ≡ Some n → member_at P n ≡ Some m → member_in P o ≡ Some m
member_is P o n m e g = ap (member_in P) e ∙ g

pub callee_is : (P : PlainProgram) (rank : ℕ → ℕ) → Falls P rank → (t : PlainType) (c r n : ℕ) (args owned regions : List Rpl) (m : PlainMember) → t ≡ class c args → row_at P c r ≡ Some n →
    member_at P n ≡ Some m → Above P c args m.class owned → of_callee P t (member_in P (row_at P c r)) regions ≡ summary_with (owned ++ regions) m.summary
callee_is P rank falls t c r n args owned regions m e row is above =
    ap (λ u. of_callee P u (member_in P (row_at P c r)) regions) e ∙ ap (λ o. of_callee P (class c args) o regions) (member_is P (row_at P c r) n m row is)
    ∙ ap (λ seen. summary_with (seen ++ regions) m.summary) (seen_is P rank falls above)

made_is : (P : PlainProgram) (c : ℕ) (k : PlainClass) (o : Option ℕ) → class_at P c ≡ Some k → k.constructor ≡ o → member_in P (constructor_of P c) ≡ member_in P o
made_is P c k o is e = ap (λ class. member_in P (option_and_then (λ k. k.constructor) class)) is ∙ ap (member_in P) e

pub nothing_made : (P : PlainProgram) (c : ℕ) (args : List Rpl) (k : PlainClass) → class_at P c ≡ Some k → k.constructor ≡ None → of_constructor (class c args) (constructed P (class c args)) ≡ []
nothing_made P c args k is none = ap (of_constructor (class c args)) (made_is P c k None is none)

pub constructor_is : (P : PlainProgram) (c n : ℕ) (args : List Rpl) (k : PlainClass) (m : PlainMember) → class_at P c ≡ Some k → k.constructor ≡ Some n → member_at P n ≡ Some m →
    of_constructor (class c args) (constructed P (class c args)) ≡ summary_with args m.summary
constructor_is P c n args k m is e member = ap (of_constructor (class c args)) (made_is P c k (Some n) is e ∙ member)

-- what is in scope behind a statement, and what it does together with what stands behind it

abbrev pub scope_behind : TypedStmt → Scope → Scope
scope_behind (statement at (form.declare x t is_final e)) L = with_local x (declared_as is_final t) L
scope_behind s L = L

abbrev pub together : TypedStmt → List Own → List Own → List Own
together (statement at (form.declare x t is_final e)) E F = E ++ outside_variable x F
together (statement at (form.local_regions rs)) E F = outside_regions rs F
together s E F = E ++ F

pub first_does : (P : PlainProgram) (L : Scope) (s : TypedStmt) (ss : TypedStmts) → effects_of_all P L (more_stmts s ss) ≡ together s (effects_of P L s) (effects_of_all P (scope_behind s L) ss)
first_does P L (statement at (form.declare x t is_final e)) ss = refl
first_does P L (statement at (form.store x e)) ss = refl
first_does P L (statement at (form.store_field o c k e)) ss = refl
first_does P L (statement at (form.store_element a i e)) ss = refl
first_does P L (statement at (form.store_part k i e)) ss = refl
first_does P L (statement at (form.perform e)) ss = refl
first_does P L (statement at (form.block ts)) ss = refl
first_does P L (statement at (form.choice e s)) ss = refl
first_does P L (statement at (form.choice_else e s t)) ss = refl
first_does P L (statement at (form.while_loop e s)) ss = refl
first_does P L (statement at form.return_nothing) ss = refl
first_does P L (statement at (form.return_value e)) ss = refl
first_does P L (statement at (form.print_int e)) ss = refl
first_does P L (statement at (form.print_boolean e)) ss = refl
first_does P L (statement at (form.print_text text)) ss = refl
first_does P L (statement at (form.local_regions rs)) ss = refl
first_does P L (statement at (form.atomic entry ts)) ss = refl
first_does P L (statement at (form.cobegin forking bs)) ss = refl
first_does P L (statement at (form.foreach forking x start count s)) ss = refl
first_does P L (statement at (form.foreach_parts k source count s)) ss = refl

-- a statement by itself
pub alone_does : (P : PlainProgram) (L : Scope) (s : TypedStmt) → effects_of_all P L (more_stmts s no_stmts) ≡ effects_of P L s
alone_does P L (statement at (form.declare x t is_final e)) = append-nil (effects_of P L (statement at (form.declare x t is_final e)))
alone_does P L (statement at (form.store x e)) = append-nil (effects_of P L (statement at (form.store x e)))
alone_does P L (statement at (form.store_field o c k e)) = append-nil (effects_of P L (statement at (form.store_field o c k e)))
alone_does P L (statement at (form.store_element a i e)) = append-nil (effects_of P L (statement at (form.store_element a i e)))
alone_does P L (statement at (form.store_part k i e)) = append-nil (effects_of P L (statement at (form.store_part k i e)))
alone_does P L (statement at (form.perform e)) = append-nil (effects_of P L (statement at (form.perform e)))
alone_does P L (statement at (form.block ts)) = append-nil (effects_of P L (statement at (form.block ts)))
alone_does P L (statement at (form.choice e s)) = append-nil (effects_of P L (statement at (form.choice e s)))
alone_does P L (statement at (form.choice_else e s t)) = append-nil (effects_of P L (statement at (form.choice_else e s t)))
alone_does P L (statement at (form.while_loop e s)) = append-nil (effects_of P L (statement at (form.while_loop e s)))
alone_does P L (statement at form.return_nothing) = refl
alone_does P L (statement at (form.return_value e)) = append-nil (effects_of P L (statement at (form.return_value e)))
alone_does P L (statement at (form.print_int e)) = append-nil (effects_of P L (statement at (form.print_int e)))
alone_does P L (statement at (form.print_boolean e)) = append-nil (effects_of P L (statement at (form.print_boolean e)))
alone_does P L (statement at (form.print_text text)) = refl
alone_does P L (statement at (form.local_regions rs)) = refl
alone_does P L (statement at (form.atomic entry ts)) = append-nil (effects_of P L (statement at (form.atomic entry ts)))
alone_does P L (statement at (form.cobegin forking bs)) = append-nil (effects_of P L (statement at (form.cobegin forking bs)))
alone_does P L (statement at (form.foreach forking x start count s)) = append-nil (effects_of P L (statement at (form.foreach forking x start count s)))
alone_does P L (statement at (form.foreach_parts k source count s)) = append-nil (effects_of P L (statement at (form.foreach_parts k source count s)))

-- a statement that passes declares nothing

pub record DeclaresNothing (s : TypedStmt) : Type 0 where
  pub behind : (L : Scope) → scope_behind s L ≡ L
  pub joins : (E F : List Own) → together s E F ≡ E ++ F

pub declares_nothing : {P : PlainProgram} {L : Scope} {s : TypedStmt} {E : List Own} → Passes P L s E → DeclaresNothing s
declares_nothing (store a b c) = record { behind = λ L. refl; joins = λ E F. refl }
declares_nothing (store_field a b c d e f) = record { behind = λ L. refl; joins = λ E F. refl }
declares_nothing (store_element a b c d e f g) = record { behind = λ L. refl; joins = λ E F. refl }
declares_nothing (store_part a b c d e) = record { behind = λ L. refl; joins = λ E F. refl }
declares_nothing (perform a b) = record { behind = λ L. refl; joins = λ E F. refl }
declares_nothing (nested a) = record { behind = λ L. refl; joins = λ E F. refl }
declares_nothing (choice a b c) = record { behind = λ L. refl; joins = λ E F. refl }
declares_nothing (choice_else a b c d) = record { behind = λ L. refl; joins = λ E F. refl }
declares_nothing (while_loop a b c) = record { behind = λ L. refl; joins = λ E F. refl }
declares_nothing (return_nothing a) = record { behind = λ L. refl; joins = λ E F. refl }
declares_nothing (return_value a b c) = record { behind = λ L. refl; joins = λ E F. refl }
declares_nothing (print_int a b) = record { behind = λ L. refl; joins = λ E F. refl }
declares_nothing (print_boolean a b) = record { behind = λ L. refl; joins = λ E F. refl }
declares_nothing print_text = record { behind = λ L. refl; joins = λ E F. refl }
declares_nothing (atomic a b) = record { behind = λ L. refl; joins = λ E F. refl }
declares_nothing (cobegin a b c) = record { behind = λ L. refl; joins = λ E F. refl }
declares_nothing (foreach a b c d e f g h) = record { behind = λ L. refl; joins = λ E F. refl }
declares_nothing (foreach_parts a b c d e f g) = record { behind = λ L. refl; joins = λ E F. refl }

pub then_does : (P : PlainProgram) (L : Scope) (s : TypedStmt) (ss : TypedStmts) → DeclaresNothing s → effects_of_all P L (more_stmts s ss) ≡ effects_of P L s ++ effects_of_all P L ss
then_does P L s ss n =
    first_does P L s ss ∙ n.joins (effects_of P L s) (effects_of_all P (scope_behind s L) ss) ∙ ap (λ K. effects_of P L s ++ effects_of_all P K ss) (n.behind L)

-- what each branch does
abbrev pub each_branch : PlainProgram → Scope → TypedBranches → List (List Own)
each_branch P L no_branches = []
each_branch P L (more_branches copies s bs) = effects_of P L s ∷ each_branch P L bs

pub branches_join : (P : PlainProgram) (L : Scope) (bs : TypedBranches) → joined (each_branch P L bs) ≡ effects_of_branches P L bs
branches_join P L no_branches = refl
branches_join P L (more_branches copies s bs) = ap (λ F. effects_of P L s ++ F) (branches_join P L bs)
