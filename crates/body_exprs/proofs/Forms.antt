-- The forms of the code's expressions.
use Rattle.std.proofs.Common.{◌≡◌, ◌∙◌, ℕ, ℤ, Bool, List, map, ap, rules}
use Rattle.syntax_tree.specs.declared.expr.Expr.{Expr}
use Rattle.syntax_tree.specs.declared.expr.ExprKind.{ExprKind, fold-ExprKind, the_lemmas}
use Rattle.syntax_tree.specs.declared.expr.ExprKind.TheVariants as kind
use Rattle.syntax_tree.specs.declared.region.RplTree.{RplTree}
use Rattle.syntax_tree.specs.Plain.{PlainExpr, expression, ExprForm, int, boolean, null, this, local, field, element, call, expr_form, expr_node, plain_expr, plain_exprs}

abbrev pub plain_kind : ExprKind → ExprForm
plain_kind = fold-ExprKind ExprForm PlainExpr expr_form expr_node

pub plain_node : (e : Expr) → plain_expr e ≡ expression e.place (plain_kind e.kind)
plain_node e = search (rules, the_lemmas)

of_kind : (e : Expr) (k : ExprKind) (form : ExprForm) → e.kind ≡ k → plain_kind k ≡ form → plain_expr e ≡ expression e.place form
of_kind e k form is same = plain_node e ∙ ap (λ f. expression e.place f) (ap plain_kind is ∙ same)

kind_Int : (n : ℤ) → plain_kind (kind.Int n) ≡ int n
kind_Int n = search (rules, the_lemmas)

kind_Bool : (b : Bool) → plain_kind (kind.Bool b) ≡ boolean b
kind_Bool b = search (rules, the_lemmas)

kind_Null : plain_kind kind.Null ≡ null
kind_Null = search (rules, the_lemmas)

kind_This : plain_kind kind.This ≡ this
kind_This = search (rules, the_lemmas)

kind_Local : (name : ℕ) → plain_kind (kind.Local name) ≡ local name
kind_Local name = search (rules, the_lemmas)

kind_Field : (of : Expr) (name : ℕ) → plain_kind (kind.Field of name) ≡ field (plain_expr of) name
kind_Field of name = search (rules, the_lemmas)

kind_Element : (of at : Expr) → plain_kind (kind.Element of at) ≡ element (plain_expr of) (plain_expr at)
kind_Element of at = search (rules, the_lemmas)

kind_Call : (of : Expr) (regions : List RplTree) (name : ℕ) (actuals : List Expr) →
    plain_kind (kind.Call of regions name actuals) ≡ call (plain_expr of) regions name (plain_exprs (map plain_expr actuals))
kind_Call of regions name actuals = search (rules, the_lemmas)

pub at_Int : (e : Expr) (n : ℤ) → e.kind ≡ kind.Int n → plain_expr e ≡ expression e.place (int n)
at_Int e n is = of_kind e (kind.Int n) (int n) is (kind_Int n)

pub at_Bool : (e : Expr) (b : Bool) → e.kind ≡ kind.Bool b → plain_expr e ≡ expression e.place (boolean b)
at_Bool e b is = of_kind e (kind.Bool b) (boolean b) is (kind_Bool b)

pub at_Null : (e : Expr) → e.kind ≡ kind.Null → plain_expr e ≡ expression e.place null
at_Null e is = of_kind e kind.Null null is kind_Null

pub at_This : (e : Expr) → e.kind ≡ kind.This → plain_expr e ≡ expression e.place this
at_This e is = of_kind e kind.This this is kind_This

pub at_Local : (e : Expr) (name : ℕ) → e.kind ≡ kind.Local name → plain_expr e ≡ expression e.place (local name)
at_Local e name is = of_kind e (kind.Local name) (local name) is (kind_Local name)

pub at_Field : (e of : Expr) (name : ℕ) → e.kind ≡ kind.Field of name → plain_expr e ≡ expression e.place (field (plain_expr of) name)
at_Field e of name is = of_kind e (kind.Field of name) (field (plain_expr of) name) is (kind_Field of name)

pub at_Element : (e of at : Expr) → e.kind ≡ kind.Element of at → plain_expr e ≡ expression e.place (element (plain_expr of) (plain_expr at))
at_Element e of at is = of_kind e (kind.Element of at) (element (plain_expr of) (plain_expr at)) is (kind_Element of at)

pub at_Call : (e of : Expr) (regions : List RplTree) (name : ℕ) (actuals : List Expr) → e.kind ≡ kind.Call of regions name actuals →
    plain_expr e ≡ expression e.place (call (plain_expr of) regions name (plain_exprs (map plain_expr actuals)))
at_Call e of regions name actuals is = of_kind e (kind.Call of regions name actuals) (call (plain_expr of) regions name (plain_exprs (map plain_expr actuals))) is (kind_Call of regions name actuals)
