-- What constructs of branches do, one part after the other.
use Rattle.std.proofs.Common.{◌≡◌, ◌∙◌, ℕ, ◌+◌, List, ◌++◌, Some, map, ap, rules, append_assoc}
use Rattle.lang_base.specs.Types.{int}
use Rattle.lang_typed.specs.declared.expr.Expr.{Expr}
use Rattle.lang_typed.specs.declared.ids.Slot.{Slot}
use Rattle.lang_typed.specs.declared.stmt.Branch.{Branch}
use Rattle.lang_typed.specs.declared.stmt.Forking.{Forking}
use Rattle.lang_typed.specs.declared.stmt.Forking.TheVariants.{Deterministic}
use Rattle.lang_typed.specs.declared.stmt.Stmt.{Stmt}
use Rattle.lang_typed.specs.declared.stmt.StmtForm.{StmtForm, fold-StmtForm, the_lemmas}
use Rattle.lang_typed.specs.declared.stmt.StmtForm.TheVariants as kind
use Rattle.lang_typed.specs.Plain.{PlainProgram, plain_expr, TypedExpr, TypedStmt, TypedBranch, statement, plain_stmt, Source, branches_of, stmt_form, branch_node, stmt_node}
use Rattle.lang_typed.specs.Plain.{StmtForm as form}
use Rattle.lang_typed.specs.Scope.{Scope, Local, constant, with_local}
use Rattle.lang_typed.specs.Effects.{after_branches, after_parts, outside_variable}
use Rattle.lang_typed.specs.Effects.{Own as Done}
use Rattle.body_infer.specs.Doing.{done_by, done_by_source, part_of, with_parts, effects_of, effects_of_branches}
use Rattle.body_infer.specs.Walked.{plain_branch, SameUse}
use Rattle.body_infer.proofs.Blocks.{parts_done}

abbrev plain_shape : StmtForm → form
plain_shape = fold-StmtForm form TypedBranch TypedStmt stmt_form branch_node stmt_node

plain_statement : (s : Stmt) → plain_stmt s ≡ statement s.place (plain_shape s.form)
plain_statement s = search (rules, the_lemmas)

of_shape : (s : Stmt) (k : StmtForm) (f : form) → s.form ≡ k → plain_shape k ≡ f → plain_stmt s ≡ statement s.place f
of_shape s k f is same = plain_statement s ∙ ap (λ g. statement s.place g) (ap plain_shape is ∙ same)

shape_Cobegin : (forking : Forking) (branches : List Branch) → plain_shape (kind.Cobegin forking branches) ≡ form.cobegin forking (branches_of (map plain_branch branches))
shape_Cobegin forking branches = search (rules, the_lemmas)

shape_Foreach : (forking : Forking) (slot : Slot) (start count : Expr) (body : Stmt) →
    plain_shape (kind.Foreach forking slot start count body) ≡ form.foreach forking slot.number (plain_expr start) (plain_expr count) (plain_stmt body)
shape_Foreach forking slot start count body = search (rules, the_lemmas)

-- what the code's statements of these forms do
pub effects_of_cobegin : (P : PlainProgram) (L : Scope) (s : Stmt) (forking : Forking) (branches : List Branch) → s.form ≡ kind.Cobegin forking branches →
    effects_of P L (plain_stmt s) ≡ after_branches forking (effects_of_branches P L (branches_of (map plain_branch branches)))
effects_of_cobegin P L s forking branches is = ap (effects_of P L) (of_shape s _ _ is (shape_Cobegin forking branches))

pub effects_of_foreach : (P : PlainProgram) (L : Scope) (s : Stmt) (forking : Forking) (slot : Slot) (start count : Expr) (body : Stmt) → s.form ≡ kind.Foreach forking slot start count body →
    effects_of P L (plain_stmt s)
    ≡ done_by P L (plain_expr start) ++ (done_by P L (plain_expr count) ++ outside_variable slot.number (after_branches forking (effects_of P (with_local slot.number (constant int) L) (plain_stmt body))))
effects_of_foreach P L s forking slot start count body is = ap (effects_of P L) (of_shape s _ _ is (shape_Foreach forking slot start count body))

pub cobegin_done : (P : PlainProgram) (L : Scope) (forking : Forking) (branches : List Branch) (out inner new : List Done) →
    inner ≡ effects_of_branches P L (branches_of (map plain_branch branches)) → new ≡ out ++ after_branches forking inner →
    new ≡ out ++ after_branches forking (effects_of_branches P L (branches_of (map plain_branch branches)))
cobegin_done P L forking branches out inner new e h = h ∙ ap (λ E. out ++ after_branches forking E) e

-- what is done one after the other
three_done : (out A B C a b new : List Done) → a ≡ out ++ A → b ≡ a ++ B → new ≡ b ++ C → new ≡ out ++ (A ++ (B ++ C))
three_done out A B C a b new e h g =
    g ∙ ap (λ x. x ++ C) (h ∙ ap (λ x. x ++ B) e) ∙ append_assoc (out ++ A) B C ∙ append_assoc out A (B ++ C)

pub foreach_done : (P : PlainProgram) (L : Scope) (forking : Forking) (x : ℕ) (start count : TypedExpr) (body : TypedStmt) (out a b inner joined new : List Done) →
    a ≡ out ++ done_by P L start → b ≡ a ++ done_by P L count → inner ≡ effects_of P (with_local x (constant int) L) body →
    joined ≡ after_branches forking inner → new ≡ b ++ outside_variable x joined →
    new ≡ out ++ (done_by P L start ++ (done_by P L count ++ outside_variable x (after_branches forking (effects_of P (with_local x (constant int) L) body))))
foreach_done P L forking x start count body out a b inner joined new e h i j g =
    three_done out (done_by P L start) (done_by P L count) (outside_variable x (after_branches forking (effects_of P (with_local x (constant int) L) body)))
    a b new e h (g ∙ ap (λ E. b ++ outside_variable x E) (j ∙ ap (after_branches forking) i))

pub foreach_parts_done : (P : PlainProgram) (L : Scope) (k : ℕ) (cut : Source) (count : TypedExpr) (body : TypedStmt) (l : Local) (out a b inner joined new : List Done) →
    SameUse (Some l) (Some (part_of L cut)) → a ≡ out ++ done_by_source P L cut → b ≡ a ++ done_by P L count →
    inner ≡ effects_of P (with_parts k l L) body → joined ≡ after_branches Deterministic (after_parts k cut inner) → new ≡ b ++ outside_variable (k + 4) joined →
    new ≡ out ++ (done_by_source P L cut ++ (done_by P L count
    ++ outside_variable (k + 4) (after_branches Deterministic (after_parts k cut (effects_of P (with_parts k (part_of L cut) L) body)))))
foreach_parts_done P L k cut count body l out a b inner joined new alike e h i j g =
    let outer = λ (E : List Done). outside_variable (k + 4) (after_branches Deterministic (after_parts k cut E)) in
    three_done out (done_by_source P L cut) (done_by P L count) (outer (effects_of P (with_parts k (part_of L cut) L) body))
    a b new e h
    (g ∙ ap (λ E. b ++ outside_variable (k + 4) E) j ∙ ap (λ E. b ++ outer E) (i ∙ parts_done P L k l (part_of L cut) body alike))
