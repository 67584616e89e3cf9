-- The forms of the statements of the code's trees.
use Rattle.std.proofs.Common.{◌≡◌, ℕ, Bool, List, Some, None, map, rules}
use Rattle.syntax_tree.specs.declared.region.Named.{Named}
use Rattle.syntax_tree.specs.declared.region.TypeTree.{TypeTree}
use Rattle.syntax_tree.specs.declared.expr.Expr.{Expr}
use Rattle.syntax_tree.specs.declared.stmt.Stmt.{Stmt}
use Rattle.syntax_tree.specs.declared.stmt.StmtKind.{the_lemmas}
use Rattle.syntax_tree.specs.declared.stmt.StmtKind.TheVariants as kind
use Rattle.syntax_tree.specs.Plain.{block, declare, assign_local, assign_field, assign_element, perform, choice, choice_else, while_loop, return_nothing, return_value, print, print_text, cobegin, foreach, foreach_parts, atomic, local_regions, plain_expr, plain_stmt, plain_stmts}
use Rattle.syntax_grammar.specs.Reading.{plain_stmt_kind}

pub kind_Block : (all : List Stmt) → plain_stmt_kind (kind.Block all) ≡ block (plain_stmts (map plain_stmt all))
kind_Block all = search (rules, the_lemmas)

pub kind_Declare : (is_final : Bool) (ty : TypeTree) (name : ℕ) (value : Expr) → plain_stmt_kind (kind.Declare is_final ty name value) ≡ declare is_final ty name (plain_expr value)
kind_Declare is_final ty name value = search (rules, the_lemmas)

pub kind_AssignLocal : (target : Named) (value : Expr) → plain_stmt_kind (kind.AssignLocal target value) ≡ assign_local target (plain_expr value)
kind_AssignLocal target value = search (rules, the_lemmas)

pub kind_AssignField : (target value : Expr) → plain_stmt_kind (kind.AssignField target value) ≡ assign_field (plain_expr target) (plain_expr value)
kind_AssignField target value = search (rules, the_lemmas)

pub kind_AssignElement : (target value : Expr) → plain_stmt_kind (kind.AssignElement target value) ≡ assign_element (plain_expr target) (plain_expr value)
kind_AssignElement target value = search (rules, the_lemmas)

pub kind_Do : (target : Expr) → plain_stmt_kind (kind.Do target) ≡ perform (plain_expr target)
kind_Do target = search (rules, the_lemmas)

pub kind_If_alone : (test : Expr) (body : Stmt) → plain_stmt_kind (kind.If test body None) ≡ choice (plain_expr test) (plain_stmt body)
kind_If_alone test body = search (rules, the_lemmas)

pub kind_If_else : (test : Expr) (body other : Stmt) → plain_stmt_kind (kind.If test body (Some other)) ≡ choice_else (plain_expr test) (plain_stmt body) (plain_stmt other)
kind_If_else test body other = search (rules, the_lemmas)

pub kind_While : (test : Expr) (body : Stmt) → plain_stmt_kind (kind.While test body) ≡ while_loop (plain_expr test) (plain_stmt body)
kind_While test body = search (rules, the_lemmas)

pub kind_Return_nothing : plain_stmt_kind (kind.Return None) ≡ return_nothing
kind_Return_nothing = search (rules, the_lemmas)

pub kind_Return_value : (value : Expr) → plain_stmt_kind (kind.Return (Some value)) ≡ return_value (plain_expr value)
kind_Return_value value = search (rules, the_lemmas)

pub kind_Print : (value : Expr) → plain_stmt_kind (kind.Print value) ≡ print (plain_expr value)
kind_Print value = search (rules, the_lemmas)

pub kind_PrintText : (bytes : List ℕ) → plain_stmt_kind (kind.PrintText bytes) ≡ print_text bytes
kind_PrintText bytes = search (rules, the_lemmas)

pub kind_Cobegin : (nd : Bool) (all : List Stmt) → plain_stmt_kind (kind.Cobegin nd all) ≡ cobegin nd (plain_stmts (map plain_stmt all))
kind_Cobegin nd all = search (rules, the_lemmas)

pub kind_Foreach : (nd : Bool) (var : Named) (start count : Expr) (body : Stmt) →
    plain_stmt_kind (kind.Foreach nd var start count body) ≡ foreach nd var (plain_expr start) (plain_expr count) (plain_stmt body)
kind_Foreach nd var start count body = search (rules, the_lemmas)

pub kind_ForeachParts : (view var : Named) (array count : Expr) (body : Stmt) →
    plain_stmt_kind (kind.ForeachParts view var array count body) ≡ foreach_parts view var (plain_expr array) (plain_expr count) (plain_stmt body)
kind_ForeachParts view var array count body = search (rules, the_lemmas)

pub kind_Atomic : (all : List Stmt) → plain_stmt_kind (kind.Atomic all) ≡ atomic (plain_stmts (map plain_stmt all))
kind_Atomic all = search (rules, the_lemmas)

pub kind_Region : (names : List Named) → plain_stmt_kind (kind.Region names) ≡ local_regions names
kind_Region names = search (rules, the_lemmas)
