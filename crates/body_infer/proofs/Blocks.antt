-- What a block does, as its loop goes on.
use Rattle.std.proofs.Common.{◌≡◌, ◌∙◌, ◌≤◌, ℕ, false, List, [], ◌∷◌, ◌++◌, length, take, fold, Some, get_or, add-one, drop, drop-cons, ◌+◌, ◌<◌, suc, arith, refl, ap, sym, append_assoc}
use Rattle.std.proofs.lemmas.List.{append-nil, length-append, take-append-le}
use Rattle.std.proofs.lemmas.List.Sums.{fold-append}
use Rattle.lang_typed.specs.Plain.{PlainProgram, PlainClass, PlainMember, TypedStmt, statement, TypedStmts, more_stmts}
use Rattle.lang_typed.specs.Plain.{StmtForm as form}
use Rattle.lang_typed.specs.Scope.{Scope, Local, with_local}
use Rattle.lang_typed.specs.Effects.{outside_variable}
use Rattle.lang_typed.specs.Effects.{Own as Done}
use Rattle.lang_typed.specs.Statements.{declared_as}
use Rattle.lang_typed.specs.Table.{body_scope}
use Rattle.body_infer.specs.declared.scope.Placed.{Placed}
use Rattle.body_infer.specs.Doing.{done_by, with_parts, effects_of, effects_of_all}
use Rattle.body_infer.specs.Walked.{SameUse, nowhere, local_of, known_as, with_placed, scope_of, placed_by, variables_by, regions_by, outside_all}
use Rattle.body_infer.proofs.Alike.{same_use, with_alike, parts_alike, effects_alike, all_alike, declared_alike, body_alike}
use Rattle.body_infer.proofs.Outside.{outside_none, outside_one, outside_some, outside_append, outside_twice}

pub body_agrees : (P : PlainProgram) (k : PlainClass) (m : PlainMember) (ss : TypedStmts) → effects_of_all P nowhere ss ≡ effects_of_all P (body_scope k (λ x. false) 0 m) ss
body_agrees P k m ss = all_alike P nowhere (body_scope k (λ x. false) 0 m) (body_alike k m) ss

-- the first statement of a block, and those after it as they are seen outside of what it declares
block_step : (P : PlainProgram) (L : Scope) (s : TypedStmt) (ss : TypedStmts) →
    effects_of_all P L (more_stmts s ss) ≡ effects_of P L s ++ outside_all (variables_by s) (regions_by s) (effects_of_all P (fold with_placed L (placed_by s)) ss)
block_step P L (statement at (form.declare x t is_final e)) ss =
    let h = with_alike L L x (local_of (known_as is_final t)) (declared_as is_final t) (record { local = λ y. same_use (L.local y) }) (declared_alike is_final t) in
    ap (λ E. done_by P L e ++ E)
    (ap (outside_variable x) (sym (all_alike P (with_local x (local_of (known_as is_final t)) L) (with_local x (declared_as is_final t) L) h ss))
    ∙ sym (outside_one x (effects_of_all P (with_local x (local_of (known_as is_final t)) L) ss)))
block_step P L (statement at (form.local_regions rs)) ss = sym (outside_some rs (effects_of_all P L ss))
block_step P L s ss = ap (λ E. effects_of P L s ++ E) (sym (outside_none (effects_of_all P L ss)))

scope_joined : (ps qs : List Placed) → scope_of (ps ++ qs) ≡ fold with_placed (scope_of ps) qs
scope_joined ps qs = fold-append with_placed nowhere ps qs

-- one statement more
pub block_more : (P : PlainProgram) (ps : List Placed) (vs rs : List ℕ) (s : TypedStmt) (ss : TypedStmts) (out inner new : List Done) →
    inner ≡ effects_of P (scope_of ps) s → new ≡ out ++ outside_all vs rs inner →
    new ++ outside_all (vs ++ variables_by s) (rs ++ regions_by s) (effects_of_all P (scope_of (ps ++ placed_by s)) ss) ≡ out ++ outside_all vs rs (effects_of_all P (scope_of ps) (more_stmts s ss))
block_more P ps vs rs s ss out inner new e h =
    let F = effects_of_all P (fold with_placed (scope_of ps) (placed_by s)) ss in
    let G = outside_all (variables_by s) (regions_by s) F in
    ap (λ E. E ++ outside_all (vs ++ variables_by s) (rs ++ regions_by s) (effects_of_all P (scope_of (ps ++ placed_by s)) ss)) (h ∙ ap (λ E. out ++ outside_all vs rs E) e)
    ∙ append_assoc out (outside_all vs rs (effects_of P (scope_of ps) s)) (outside_all (vs ++ variables_by s) (rs ++ regions_by s) (effects_of_all P (scope_of (ps ++ placed_by s)) ss))
    ∙ ap (λ E. out ++ E)
    (ap (λ L. outside_all vs rs (effects_of P (scope_of ps) s) ++ outside_all (vs ++ variables_by s) (rs ++ regions_by s) (effects_of_all P L ss)) (scope_joined ps (placed_by s))
    ∙ ap (λ E. outside_all vs rs (effects_of P (scope_of ps) s) ++ E) (sym (outside_twice vs rs (variables_by s) (regions_by s) F))
    ∙ sym (outside_append vs rs (effects_of P (scope_of ps) s) G)
    ∙ ap (outside_all vs rs) (sym (block_step P (scope_of ps) s ss)))

-- what was put into scope, and what is in scope again once it is left
pub scope_pushed : (ps : List Placed) (p : Placed) → scope_of (ps ++ p ∷ []) ≡ with_placed (scope_of ps) p
scope_pushed ps p = fold-append with_placed nowhere ps (p ∷ [])

pub scope_left : (ps qs : List Placed) → take (length ps) (ps ++ qs) ≡ ps
scope_left [] qs = refl
scope_left (p ∷ ps) qs = ap (λ more. p ∷ more) (scope_left ps qs)

pub scope_kept : (n : ℕ) (old ps qs : List Placed) → n ≤ length ps → take n ps ≡ old → take n (ps ++ qs) ≡ old
scope_kept n old ps qs h e = take-append-le n ps qs h ∙ e

pub still_long : (n : ℕ) (ps qs : List Placed) → n ≤ length ps → n ≤ length (ps ++ qs)
still_long n ps qs h = omega (arith, length-append ps qs)

-- under the part that the walk keeps, and under that of the definition
pub parts_done : (P : PlainProgram) (L : Scope) (k : ℕ) (l m : Local) (s : TypedStmt) → SameUse (Some l) (Some m) → effects_of P (with_parts k l L) s ≡ effects_of P (with_parts k m L) s
parts_done P L k l m s h = effects_alike P (with_parts k l L) (with_parts k m L) (parts_alike L L k l m (record { local = λ y. same_use (L.local y) }) h) s

pub next_is : {A : Type 0} (all : List A) (i : ℕ) (e : A) → i < length all → e ≡ get_or all i e → drop i all ≡ e ∷ drop (i + 1) all
next_is all i e below is = drop-cons all i e below ∙ ap (λ x. x ∷ drop (suc i) all) (sym is) ∙ ap (λ k. e ∷ drop k all) (sym (add-one i))

pub all_taken : {A : Type 0} (n : ℕ) (xs : List A) → n ≡ length xs → take n xs ≡ xs
all_taken n xs e = ap (λ k. take k xs) e ∙ take_length xs
  where
    take_length : {A : Type 0} (ys : List A) → take (length ys) ys ≡ ys
    take_length [] = refl
    take_length (y ∷ ys) = ap (λ more. y ∷ more) (take_length ys)

pub ruleset scopes = (append_assoc, scope_pushed, scope_left)

pub ruleset blocks = (outside_none, all_taken, append_assoc, append-nil)
