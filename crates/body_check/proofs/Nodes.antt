-- Typed expressions of the code, as the rules see them.
use Rattle.std.proofs.Common.{◌≡◌, ◌∙◌, ℕ, Bool, Option, sym, ap, rules}
use Rattle.lang_base.specs.declared.place.Place.{Place}
use Rattle.syntax_tree.specs.declared.expr.Expr.{Expr as Tree}
use Rattle.syntax_tree.specs.declared.expr.ExprKind.{ExprKind, fold-ExprKind}
use Rattle.syntax_tree.specs.declared.expr.ExprKind.{the_lemmas as tree_lemmas}
use Rattle.syntax_tree.specs.Plain as tree
use Rattle.lang_typed.specs.declared.expr.Expr.{Expr}
use Rattle.lang_typed.specs.declared.expr.ExprForm.{the_lemmas}
use Rattle.lang_typed.specs.Plain.{TypedExpr, TypedStmt, Source, statement, choice_form, foreach, foreach_parts}
use Rattle.lang_typed.specs.Plain.{plain_expr as typed_expr}
use Rattle.body_exprs.specs.Typed.{plain_node, node_at}
use Rattle.body_check.specs.Checking.{forking_of}
use Rattle.body_check.specs.Simple.{place_of, node_of}

pub node_is : (e : Expr) → typed_expr e ≡ plain_node e
node_is e = search (rules, the_lemmas)

abbrev plain_kind : ExprKind → tree.ExprForm
plain_kind = fold-ExprKind tree.ExprForm tree.PlainExpr tree.expr_form tree.expr_node

tree_is : (e : Tree) → tree.plain_expr e ≡ tree.expression e.place (plain_kind e.kind)
tree_is e = search (rules, tree_lemmas)

pub place_is : (e : Tree) → place_of (tree.plain_expr e) ≡ e.place
place_is e = ap place_of (tree_is e)

-- the typed expression that was made of an expression
pub node_made : (e : Tree) (made : Expr) (t : Option TypedExpr) → plain_node made ≡ node_at e.place t → plain_node made ≡ node_of (tree.plain_expr e) t
node_made e made t is = is ∙ ap (λ (p : Place). node_at p t) (sym (place_is e))

-- what was made of an `if`, by what was made of its condition
pub choice_made : (e : Tree) (test : Expr) (t : Option TypedExpr) (place : Place) (first : TypedStmt) (other : Option TypedStmt) (whole : TypedStmt) →
    plain_node test ≡ node_at e.place t → whole ≡ statement place (choice_form (plain_node test) first other) →
    whole ≡ statement place (choice_form (node_of (tree.plain_expr e) t) first other)
choice_made e test t place first other whole given is =
    is ∙ ap (λ (z : TypedExpr). statement place (choice_form z first other)) (node_made e test t given)

-- what was made of a `foreach` and of a `foreach_parts`
pub foreach_made : (e d : Tree) (start count : Expr) (t u : Option TypedExpr) (place : Place) (nd : Bool) (slot at : ℕ) (body whole : TypedStmt) →
    plain_node start ≡ node_at e.place t → plain_node count ≡ node_at d.place u → slot ≡ at →
    whole ≡ statement place (foreach (forking_of nd) slot (plain_node start) (plain_node count) body) →
    whole ≡ statement place (foreach (forking_of nd) at (node_of (tree.plain_expr e) t) (node_of (tree.plain_expr d) u) body)
foreach_made e d start count t u place nd slot at body whole starts counts slot_is is =
    is ∙ ap (λ (z : ℕ). statement place (foreach (forking_of nd) z (plain_node start) (plain_node count) body)) slot_is
    ∙ ap (λ (z : TypedExpr). statement place (foreach (forking_of nd) at z (plain_node count) body)) (node_made e start t starts)
    ∙ ap (λ (z : TypedExpr). statement place (foreach (forking_of nd) at (node_of (tree.plain_expr e) t) z body)) (node_made d count u counts)

pub parts_formed : (e : Tree) (count : Expr) (t : Option TypedExpr) (place : Place) (part at : ℕ) (source : Source) (body whole : TypedStmt) →
    plain_node count ≡ node_at e.place t → part ≡ at → whole ≡ statement place (foreach_parts part source (plain_node count) body) →
    whole ≡ statement place (foreach_parts at source (node_of (tree.plain_expr e) t) body)
parts_formed e count t place part at source body whole given part_is is =
    is ∙ ap (λ (z : ℕ). statement place (foreach_parts z source (plain_node count) body)) part_is
    ∙ ap (λ (z : TypedExpr). statement place (foreach_parts at source z body)) (node_made e count t given)
