-- Effects under scopes that agree are the same.
use Rattle.std.proofs.Common.{◌≡◌, ◌∙◌, ℕ, zero, suc, Bool, true, false, ◌==◌, ◌+◌, cond, List, [], ◌∷◌, ◌++◌, Option, Some, None, refl, ap, sym, slice_get}
use Rattle.std.specs.Option.{option_map}
use Rattle.lang_base.specs.declared.elems.Elem.TheVariants.{At, Any}
use Rattle.lang_base.specs.declared.elems.Index.TheVariants.{Variable}
use Rattle.lang_base.specs.declared.region.Rpl.{Rpl}
use Rattle.lang_base.specs.Types.{PlainType, int, boolean, void, null, class, array, path_at}
use Rattle.lang_typed.specs.declared.stmt.Forking.TheVariants.{Deterministic}
use Rattle.lang_typed.specs.Plain.{PlainProgram, PlainClass, PlainMember, TypedExpr, typed, type_of, TypedExprs, no_exprs, more_exprs, Source, of_array, of_part, TypedStmt, statement, TypedStmts, no_stmts, more_stmts, TypedBranches, no_branches, more_branches}
use Rattle.lang_typed.specs.Plain.{ExprForm as expr}
use Rattle.lang_typed.specs.Plain.{StmtForm as form}
use Rattle.lang_typed.specs.Scope.{Scope, Local, variable, frozen, constant, part, reserved, with_local}
use Rattle.lang_typed.specs.Effects.{Own, does, uses, reads, writes, after_block, after_branches, outside_variable, outside_regions, after_parts}
use Rattle.lang_typed.specs.Statements.{declared_as}
use Rattle.lang_typed.specs.Table.{body_scope, first_locals}
use Rattle.lang_typed.specs.Typing.{variable_elem, index_elem}
use Rattle.body_infer.specs.Doing.{of_element, of_local, done_by, done_by_all, done_by_source, part_of_local, part_of, with_parts, effects_of, effects_of_all, effects_of_branches}
use Rattle.body_infer.specs.Walked.{SameUse, Agree, is_constant, part_path, nowhere, local_of, known_as}

pub both_same : {a b c d : List Own} → a ≡ b → c ≡ d → a ++ c ≡ b ++ d
both_same {a} {b} {c} {d} e h = ap (λ x. x ++ c) e ∙ ap (λ x. b ++ x) h

variable_is : (x : ℕ) (l : Option Local) → variable_elem x l ≡ cond (is_constant l) (At (Variable x)) Any
variable_is x None = refl
variable_is x (Some (variable t)) = refl
variable_is x (Some (frozen t)) = refl
variable_is x (Some (part t a)) = refl
variable_is x (Some reserved) = refl
variable_is x (Some (constant int)) = refl
variable_is x (Some (constant boolean)) = refl
variable_is x (Some (constant void)) = refl
variable_is x (Some (constant null)) = refl
variable_is x (Some (constant (class c args))) = refl
variable_is x (Some (constant (array t a named))) = refl

variable_alike : (x : ℕ) (l k : Option Local) → SameUse l k → variable_elem x l ≡ variable_elem x k
variable_alike x l k s = variable_is x l ∙ ap (λ b. cond b (At (Variable x)) Any) s.constant ∙ sym (variable_is x k)

index_alike : (L K : Scope) → Agree L K → (e : TypedExpr) → index_elem L e ≡ index_elem K e
index_alike L K h (typed place t (expr.int k)) = refl
index_alike L K h (typed place t (expr.boolean b)) = refl
index_alike L K h (typed place t expr.null) = refl
index_alike L K h (typed place t (expr.local x)) = variable_alike x (L.local x) (K.local x) (h.local x)
index_alike L K h (typed place t (expr.field of c k)) = refl
index_alike L K h (typed place t (expr.element a i)) = refl
index_alike L K h (typed place t (expr.array_length a)) = refl
index_alike L K h (typed place t (expr.call of c r regions es)) = refl
index_alike L K h (typed place t (expr.create es)) = refl
index_alike L K h (typed place t (expr.create_array n)) = refl
index_alike L K h (typed place t (expr.unary op e)) = refl
index_alike L K h (typed place t (expr.binary op a b)) = refl
index_alike L K h (typed place t (expr.both a b)) = refl
index_alike L K h (typed place t (expr.either a b)) = refl
index_alike L K h (typed place t (expr.part_length k)) = refl
index_alike L K h (typed place t (expr.part_element k i)) = refl

element_alike : (L K : Scope) → Agree L K → (t : PlainType) (i : TypedExpr) (access : Rpl → Own) → of_element L t i access ≡ of_element K t i access
element_alike L K h int i access = refl
element_alike L K h boolean i access = refl
element_alike L K h void i access = refl
element_alike L K h null i access = refl
element_alike L K h (class c args) i access = refl
element_alike L K h (array t a named) i access = ap (λ x. access (path_at 0 x a) ∷ []) (index_alike L K h i)

abbrev of_path : Option Rpl → (Rpl → Own) → List Own
of_path None access = []
of_path (Some a) access = access a ∷ []

local_is : (l : Option Local) (access : Rpl → Own) → of_local l access ≡ of_path (part_path l) access
local_is None access = refl
local_is (Some (variable t)) access = refl
local_is (Some (frozen t)) access = refl
local_is (Some (constant t)) access = refl
local_is (Some (part t a)) access = refl
local_is (Some reserved) access = refl

local_alike : (L K : Scope) → Agree L K → (k : ℕ) (access : Rpl → Own) → of_local (L.local k) access ≡ of_local (K.local k) access
local_alike L K h k access = local_is (L.local k) access ∙ ap (λ p. of_path p access) (SameUse.path (h.local k)) ∙ sym (local_is (K.local k) access)

mutual
  pub done_alike : (P : PlainProgram) (L K : Scope) → Agree L K → (e : TypedExpr) → done_by P L e ≡ done_by P K e
  done_alike P L K h (typed place t (expr.int k)) = refl
  done_alike P L K h (typed place t (expr.boolean b)) = refl
  done_alike P L K h (typed place t expr.null) = refl
  done_alike P L K h (typed place t (expr.local x)) = refl
  done_alike P L K h (typed place t (expr.field of c k)) = both_same (done_alike P L K h of) refl
  done_alike P L K h (typed place t (expr.element a i)) = both_same (done_alike P L K h a) (both_same (done_alike P L K h i) (element_alike L K h (type_of a) i (λ b. does (reads b))))
  done_alike P L K h (typed place t (expr.array_length a)) = done_alike P L K h a
  done_alike P L K h (typed place t (expr.call of c r regions es)) = both_same (done_alike P L K h of) (both_same (done_alike_all P L K h es) refl)
  done_alike P L K h (typed place t (expr.create es)) = both_same (done_alike_all P L K h es) refl
  done_alike P L K h (typed place t (expr.create_array n)) = done_alike P L K h n
  done_alike P L K h (typed place t (expr.unary op e)) = done_alike P L K h e
  done_alike P L K h (typed place t (expr.binary op a b)) = both_same (done_alike P L K h a) (done_alike P L K h b)
  done_alike P L K h (typed place t (expr.both a b)) = both_same (done_alike P L K h a) (done_alike P L K h b)
  done_alike P L K h (typed place t (expr.either a b)) = both_same (done_alike P L K h a) (done_alike P L K h b)
  done_alike P L K h (typed place t (expr.part_length k)) = refl
  done_alike P L K h (typed place t (expr.part_element k i)) = both_same (done_alike P L K h i) (local_alike L K h k (λ a. uses k (reads a)))

  pub done_alike_all : (P : PlainProgram) (L K : Scope) → Agree L K → (es : TypedExprs) → done_by_all P L es ≡ done_by_all P K es
  done_alike_all P L K h no_exprs = refl
  done_alike_all P L K h (more_exprs e es) = both_same (done_alike P L K h e) (done_alike_all P L K h es)

source_alike : (P : PlainProgram) (L K : Scope) → Agree L K → (s : Source) → done_by_source P L s ≡ done_by_source P K s
source_alike P L K h (of_array e) = done_alike P L K h e
source_alike P L K h (of_part k) = refl

pub same_use : (l : Option Local) → SameUse l l
same_use l = record { constant = refl; path = refl }

still_constant : (l : Option Local) → is_constant (Some (part_of_local l)) ≡ is_constant l
still_constant None = refl
still_constant (Some l) = refl

still_part : (l : Option Local) → part_path (Some (part_of_local l)) ≡ part_path l
still_part None = refl
still_part (Some l) = refl

pub part_alike : (L K : Scope) → Agree L K → (s : Source) → SameUse (Some (part_of L s)) (Some (part_of K s))
part_alike L K h (of_array e) = same_use (Some (part_of L (of_array e)))
part_alike L K h (of_part k) = record {
  constant = still_constant (L.local k) ∙ SameUse.constant (h.local k) ∙ sym (still_constant (K.local k));
  path = still_part (L.local k) ∙ SameUse.path (h.local k) ∙ sym (still_part (K.local k));
}

chosen_alike : (b : Bool) (l k p q : Option Local) → SameUse l k → SameUse p q → SameUse (cond b l p) (cond b k q)
chosen_alike true l k p q s r = s
chosen_alike false l k p q s r = r

pub with_alike : (L K : Scope) (x : ℕ) (l k : Local) → Agree L K → SameUse (Some l) (Some k) → Agree (with_local x l L) (with_local x k K)
with_alike L K x l k h s = record { local = λ y. chosen_alike (y == x) (Some l) (Some k) (L.local y) (K.local y) s (h.local y) }

pub with_same : (L K : Scope) (x : ℕ) (l : Local) → Agree L K → Agree (with_local x l L) (with_local x l K)
with_same L K x l h = with_alike L K x l l h (same_use (Some l))

pub parts_alike : (L K : Scope) (k : ℕ) (l m : Local) → Agree L K → SameUse (Some l) (Some m) → Agree (with_parts k l L) (with_parts k m K)
parts_alike L K k l m h s = with_same (with_local k l L) (with_local k m K) (k + 4) (constant int) (with_alike L K k l m h s)

mutual
  pub effects_alike : (P : PlainProgram) (L K : Scope) → Agree L K → (s : TypedStmt) → effects_of P L s ≡ effects_of P K s
  effects_alike P L K h (statement at (form.declare x t is_final e)) = done_alike P L K h e
  effects_alike P L K h (statement at (form.store x e)) = done_alike P L K h e
  effects_alike P L K h (statement at (form.store_field o c k e)) = both_same (done_alike P L K h o) (both_same (done_alike P L K h e) refl)
  effects_alike P L K h (statement at (form.store_element a i e)) =
      both_same (done_alike P L K h a) (both_same (done_alike P L K h i) (both_same (done_alike P L K h e) (element_alike L K h (type_of a) i (λ b. does (writes b)))))
  effects_alike P L K h (statement at (form.store_part k i e)) = both_same (done_alike P L K h i) (both_same (done_alike P L K h e) (local_alike L K h k (λ a. uses k (writes a))))
  effects_alike P L K h (statement at (form.perform e)) = done_alike P L K h e
  effects_alike P L K h (statement at (form.block ss)) = all_alike P L K h ss
  effects_alike P L K h (statement at (form.choice e s)) = both_same (done_alike P L K h e) (effects_alike P L K h s)
  effects_alike P L K h (statement at (form.choice_else e s t)) = both_same (done_alike P L K h e) (both_same (effects_alike P L K h s) (effects_alike P L K h t))
  effects_alike P L K h (statement at (form.while_loop e s)) = both_same (done_alike P L K h e) (effects_alike P L K h s)
  effects_alike P L K h (statement at (form.return_value e)) = done_alike P L K h e
  effects_alike P L K h (statement at (form.print_int e)) = done_alike P L K h e
  effects_alike P L K h (statement at (form.print_boolean e)) = done_alike P L K h e
  effects_alike P L K h (statement at (form.atomic entry ss)) = ap after_block (all_alike P L K h ss)
  effects_alike P L K h (statement at (form.cobegin forking bs)) = ap (after_branches forking) (branches_alike P L K h bs)
  effects_alike P L K h (statement at (form.foreach forking x start count s)) =
      let inner = ap (λ E. outside_variable x (after_branches forking E)) (effects_alike P (with_local x (constant int) L) (with_local x (constant int) K) (with_same L K x (constant int) h) s) in
      both_same (done_alike P L K h start) (both_same (done_alike P L K h count) (inner))
  effects_alike P L K h (statement at (form.foreach_parts k source count s)) =
      let inner = ap (λ E. outside_variable (k + 4) (after_branches Deterministic (after_parts k source E)))
      (effects_alike P (with_parts k (part_of L source) L) (with_parts k (part_of K source) K) (parts_alike L K k (part_of L source) (part_of K source) h (part_alike L K h source)) s) in
      both_same (source_alike P L K h source) (both_same (done_alike P L K h count) (inner))
  effects_alike P L K h s = refl

  pub all_alike : (P : PlainProgram) (L K : Scope) → Agree L K → (ss : TypedStmts) → effects_of_all P L ss ≡ effects_of_all P K ss
  all_alike P L K h no_stmts = refl
  all_alike P L K h (more_stmts (statement at (form.declare x t is_final e)) ss) =
      let later = ap (outside_variable x) (all_alike P (with_local x (declared_as is_final t) L) (with_local x (declared_as is_final t) K) (with_same L K x (declared_as is_final t) h) ss) in
      both_same (done_alike P L K h e) later
  all_alike P L K h (more_stmts (statement at (form.local_regions rs)) ss) = ap (outside_regions rs) (all_alike P L K h ss)
  all_alike P L K h (more_stmts s ss) = both_same (effects_alike P L K h s) (all_alike P L K h ss)

  pub branches_alike : (P : PlainProgram) (L K : Scope) → Agree L K → (bs : TypedBranches) → effects_of_branches P L bs ≡ effects_of_branches P K bs
  branches_alike P L K h no_branches = refl
  branches_alike P L K h (more_branches copies s bs) = both_same (effects_alike P L K h s) (branches_alike P L K h bs)

-- a local that was declared, as the walk keeps it
pub declared_alike : (is_final : Bool) (t : PlainType) → SameUse (Some (local_of (known_as is_final t))) (Some (declared_as is_final t))
declared_alike true int = record { constant = refl; path = refl }
declared_alike true boolean = record { constant = refl; path = refl }
declared_alike true void = record { constant = refl; path = refl }
declared_alike true null = record { constant = refl; path = refl }
declared_alike true (class c args) = record { constant = refl; path = refl }
declared_alike true (array t a named) = record { constant = refl; path = refl }
declared_alike false t = record { constant = refl; path = refl }

formal_alike : (t : Option PlainType) → SameUse None (option_map variable t)
formal_alike None = record { constant = refl; path = refl }
formal_alike (Some t) = record { constant = refl; path = refl }

first_alike : (k : PlainClass) (m : PlainMember) (x : ℕ) → SameUse None (first_locals k m x)
first_alike k m zero = record { constant = refl; path = refl }
first_alike k m (suc x) = formal_alike (slice_get m.formals x)

-- nothing that is in scope at the beginning of a body matters
pub body_alike : (k : PlainClass) (m : PlainMember) → Agree nowhere (body_scope k (λ x. false) 0 m)
body_alike k m = record { local = λ x. first_alike k m x }
