-- Statements as the rules see them, of what the code sees: one lemma for each form.
use Rattle.std.proofs.Common.{◌≡◌, ◌∙◌, ℕ, Bool, List, Option, Some, None, Result, option_map, map, ap, sym, subst, rules}
use Rattle.lang_base.specs.declared.refusal.Stop.{Stop}
use Rattle.syntax_tree.specs.declared.region.Named.{Named}
use Rattle.syntax_tree.specs.declared.region.TypeTree.{TypeTree}
use Rattle.syntax_tree.specs.declared.expr.Expr.{Expr}
use Rattle.syntax_tree.specs.declared.stmt.Stmt.{Stmt}
use Rattle.syntax_tree.specs.declared.stmt.StmtKind.{StmtKind, fold-StmtKind, the_lemmas}
use Rattle.syntax_tree.specs.declared.stmt.StmtKind.TheVariants as kind
use Rattle.syntax_tree.specs.Plain.{PlainStmt, statement, StmtForm, stmt_form, stmt_node, choice_form, return_form, plain_expr, plain_stmt, plain_stmts}
use Rattle.syntax_tree.specs.Plain.{StmtForm as form}
use Rattle.lang_typed.specs.Plain.{TypedStmt}
use Rattle.body_exprs.specs.Answer.{Says}
use Rattle.body_check.specs.declared.node.Around.{Around}
use Rattle.body_check.specs.declared.node.Node.{Node}
use Rattle.body_check.specs.Checking.{check_form, check_stmt}
use Rattle.body_check.specs.Noting.{node_at}
use Rattle.body_check.specs.Walks.{Walk, Verdict, refused}

abbrev pub plain_kind : StmtKind → StmtForm
plain_kind = fold-StmtKind StmtForm PlainStmt stmt_form stmt_node

pub plain_node : (s : Stmt) → plain_stmt s ≡ statement s.place (plain_kind s.kind)
plain_node s = search (rules, the_lemmas)

of_kind : (s : Stmt) (k : StmtKind) (f : StmtForm) → s.kind ≡ k → plain_kind k ≡ f → plain_stmt s ≡ statement s.place f
of_kind s k f is same = plain_node s ∙ ap (λ z. statement s.place z) (ap plain_kind is ∙ same)

kind_Block : (all : List Stmt) → plain_kind (kind.Block all) ≡ form.block (plain_stmts (map plain_stmt all))
kind_Block all = search (rules, the_lemmas)

pub at_Block : (s : Stmt) (all : List Stmt) → s.kind ≡ kind.Block all → plain_stmt s ≡ statement s.place (form.block (plain_stmts (map plain_stmt all)))
at_Block s all is = of_kind s (kind.Block all) (form.block (plain_stmts (map plain_stmt all))) is (kind_Block all)

kind_Declare : (is_final : Bool) (t : TypeTree) (name : ℕ) (value : Expr) →
    plain_kind (kind.Declare is_final t name value) ≡ form.declare is_final t name (plain_expr value)
kind_Declare is_final t name value = search (rules, the_lemmas)

pub at_Declare : (s : Stmt) (is_final : Bool) (t : TypeTree) (name : ℕ) (value : Expr) → s.kind ≡ kind.Declare is_final t name value →
    plain_stmt s ≡ statement s.place (form.declare is_final t name (plain_expr value))
at_Declare s is_final t name value is = of_kind s (kind.Declare is_final t name value) (form.declare is_final t name (plain_expr value)) is
    (kind_Declare is_final t name value)

kind_AssignLocal : (target : Named) (value : Expr) → plain_kind (kind.AssignLocal target value) ≡ form.assign_local target (plain_expr value)
kind_AssignLocal target value = search (rules, the_lemmas)

pub at_AssignLocal : (s : Stmt) (target : Named) (value : Expr) → s.kind ≡ kind.AssignLocal target value →
    plain_stmt s ≡ statement s.place (form.assign_local target (plain_expr value))
at_AssignLocal s target value is = of_kind s (kind.AssignLocal target value) (form.assign_local target (plain_expr value)) is (kind_AssignLocal target value)

kind_AssignField : (target value : Expr) → plain_kind (kind.AssignField target value) ≡ form.assign_field (plain_expr target) (plain_expr value)
kind_AssignField target value = search (rules, the_lemmas)

pub at_AssignField : (s : Stmt) (target value : Expr) → s.kind ≡ kind.AssignField target value →
    plain_stmt s ≡ statement s.place (form.assign_field (plain_expr target) (plain_expr value))
at_AssignField s target value is = of_kind s (kind.AssignField target value) (form.assign_field (plain_expr target) (plain_expr value)) is
    (kind_AssignField target value)

kind_AssignElement : (target value : Expr) → plain_kind (kind.AssignElement target value) ≡ form.assign_element (plain_expr target) (plain_expr value)
kind_AssignElement target value = search (rules, the_lemmas)

pub at_AssignElement : (s : Stmt) (target value : Expr) → s.kind ≡ kind.AssignElement target value →
    plain_stmt s ≡ statement s.place (form.assign_element (plain_expr target) (plain_expr value))
at_AssignElement s target value is = of_kind s (kind.AssignElement target value) (form.assign_element (plain_expr target) (plain_expr value)) is
    (kind_AssignElement target value)

kind_Do : (value : Expr) → plain_kind (kind.Do value) ≡ form.perform (plain_expr value)
kind_Do value = search (rules, the_lemmas)

pub at_Do : (s : Stmt) (value : Expr) → s.kind ≡ kind.Do value → plain_stmt s ≡ statement s.place (form.perform (plain_expr value))
at_Do s value is = of_kind s (kind.Do value) (form.perform (plain_expr value)) is (kind_Do value)

kind_Print : (value : Expr) → plain_kind (kind.Print value) ≡ form.print (plain_expr value)
kind_Print value = search (rules, the_lemmas)

pub at_Print : (s : Stmt) (value : Expr) → s.kind ≡ kind.Print value → plain_stmt s ≡ statement s.place (form.print (plain_expr value))
at_Print s value is = of_kind s (kind.Print value) (form.print (plain_expr value)) is (kind_Print value)

kind_PrintText : (text : List ℕ) → plain_kind (kind.PrintText text) ≡ form.print_text text
kind_PrintText text = search (rules, the_lemmas)

pub at_PrintText : (s : Stmt) (text : List ℕ) → s.kind ≡ kind.PrintText text → plain_stmt s ≡ statement s.place (form.print_text text)
at_PrintText s text is = of_kind s (kind.PrintText text) (form.print_text text) is (kind_PrintText text)

kind_Region : (names : List Named) → plain_kind (kind.Region names) ≡ form.local_regions names
kind_Region names = search (rules, the_lemmas)

pub at_Region : (s : Stmt) (names : List Named) → s.kind ≡ kind.Region names → plain_stmt s ≡ statement s.place (form.local_regions names)
at_Region s names is = of_kind s (kind.Region names) (form.local_regions names) is (kind_Region names)

kind_Cobegin : (nd : Bool) (branches : List Stmt) → plain_kind (kind.Cobegin nd branches) ≡ form.cobegin nd (plain_stmts (map plain_stmt branches))
kind_Cobegin nd branches = search (rules, the_lemmas)

pub at_Cobegin : (s : Stmt) (nd : Bool) (branches : List Stmt) → s.kind ≡ kind.Cobegin nd branches →
    plain_stmt s ≡ statement s.place (form.cobegin nd (plain_stmts (map plain_stmt branches)))
at_Cobegin s nd branches is = of_kind s (kind.Cobegin nd branches) (form.cobegin nd (plain_stmts (map plain_stmt branches))) is (kind_Cobegin nd branches)

kind_Atomic : (all : List Stmt) → plain_kind (kind.Atomic all) ≡ form.atomic (plain_stmts (map plain_stmt all))
kind_Atomic all = search (rules, the_lemmas)

pub at_Atomic : (s : Stmt) (all : List Stmt) → s.kind ≡ kind.Atomic all → plain_stmt s ≡ statement s.place (form.atomic (plain_stmts (map plain_stmt all)))
at_Atomic s all is = of_kind s (kind.Atomic all) (form.atomic (plain_stmts (map plain_stmt all))) is (kind_Atomic all)

kind_If : (test : Expr) (part : Stmt) (other : Option Stmt) →
    plain_kind (kind.If test part other) ≡ choice_form (plain_expr test) (plain_stmt part) (option_map plain_stmt other)
kind_If test part None = search (rules, the_lemmas)
kind_If test part (Some other) = search (rules, the_lemmas)

pub at_If : (s : Stmt) (test : Expr) (part : Stmt) (other : Option Stmt) → s.kind ≡ kind.If test part other →
    plain_stmt s ≡ statement s.place (choice_form (plain_expr test) (plain_stmt part) (option_map plain_stmt other))
at_If s test part other is = of_kind s (kind.If test part other) (choice_form (plain_expr test) (plain_stmt part) (option_map plain_stmt other)) is
    (kind_If test part other)

kind_While : (test : Expr) (body : Stmt) → plain_kind (kind.While test body) ≡ form.while_loop (plain_expr test) (plain_stmt body)
kind_While test body = search (rules, the_lemmas)

pub at_While : (s : Stmt) (test : Expr) (body : Stmt) → s.kind ≡ kind.While test body →
    plain_stmt s ≡ statement s.place (form.while_loop (plain_expr test) (plain_stmt body))
at_While s test body is = of_kind s (kind.While test body) (form.while_loop (plain_expr test) (plain_stmt body)) is (kind_While test body)

kind_Foreach : (nd : Bool) (var : Named) (start count : Expr) (body : Stmt) →
    plain_kind (kind.Foreach nd var start count body) ≡ form.foreach nd var (plain_expr start) (plain_expr count) (plain_stmt body)
kind_Foreach nd var start count body = search (rules, the_lemmas)

pub at_Foreach : (s : Stmt) (nd : Bool) (var : Named) (start count : Expr) (body : Stmt) → s.kind ≡ kind.Foreach nd var start count body →
    plain_stmt s ≡ statement s.place (form.foreach nd var (plain_expr start) (plain_expr count) (plain_stmt body))
at_Foreach s nd var start count body is =
    of_kind s (kind.Foreach nd var start count body) (form.foreach nd var (plain_expr start) (plain_expr count) (plain_stmt body)) is
    (kind_Foreach nd var start count body)

kind_Parts : (view var : Named) (array count : Expr) (body : Stmt) →
    plain_kind (kind.ForeachParts view var array count body) ≡ form.foreach_parts view var (plain_expr array) (plain_expr count) (plain_stmt body)
kind_Parts view var array count body = search (rules, the_lemmas)

pub at_Parts : (s : Stmt) (view var : Named) (array count : Expr) (body : Stmt) → s.kind ≡ kind.ForeachParts view var array count body →
    plain_stmt s ≡ statement s.place (form.foreach_parts view var (plain_expr array) (plain_expr count) (plain_stmt body))
at_Parts s view var array count body is =
    of_kind s (kind.ForeachParts view var array count body) (form.foreach_parts view var (plain_expr array) (plain_expr count) (plain_stmt body)) is
    (kind_Parts view var array count body)

kind_Return : (value : Option Expr) → plain_kind (kind.Return value) ≡ return_form value
kind_Return value = search (rules, the_lemmas)

pub at_Return : (s : Stmt) (value : Option Expr) → s.kind ≡ kind.Return value → plain_stmt s ≡ statement s.place (return_form value)
at_Return s value is = of_kind s (kind.Return value) (return_form value) is (kind_Return value)

-- what is said of the form of a statement, with the node that the code made of it, is said of the statement
pub as_said : {T : Type 0} (params : List Bool) (around : Around) (follows : Bool) (node : Node) (s : Stmt) (f : StmtForm) (w : Walk)
    (r : Result T Stop) (made : T → Verdict TypedStmt) → plain_stmt s ≡ statement s.place f → node ≡ node_at s.place follows →
    Says r made refused (λ v. check_form params around node f w ≡ v) → Says r made refused (λ v. check_stmt params around follows (plain_stmt s) w ≡ v)
as_said params around follows node s f w r made is node_is said =
    subst (λ (z : PlainStmt). Says r made refused (λ v. check_stmt params around follows z w ≡ v)) (sym is)
    (subst (λ (z : Node). Says r made refused (λ v. check_form params around z f w ≡ v)) node_is said)
