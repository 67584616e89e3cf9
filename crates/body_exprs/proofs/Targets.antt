-- Targets, over the code's expressions.
use Rattle.std.proofs.Common.{◌≡◌, ℕ, false, refl, sym, subst}
use Rattle.lang_base.specs.declared.place.Place.{Place}
use Rattle.lang_base.specs.declared.refusal.Kind.TheVariants as kind
use Rattle.lang_base.specs.declared.refusal.Stop.{Stop}
use Rattle.lang_base.specs.Refused.{IfRefused}
use Rattle.decl_headers.specs.Passes.{fault}
use Rattle.syntax_tree.specs.declared.expr.Expr.{Expr}
use Rattle.syntax_tree.specs.declared.expr.ExprKind.TheVariants as form
use Rattle.syntax_tree.specs.Plain.{PlainExpr, expression, ExprForm, field, element, plain_expr}
use Rattle.body_exprs.specs.declared.env.Env.{Env}
use Rattle.body_exprs.specs.declared.found.Found.{Found}
use Rattle.body_exprs.specs.Refusing.{refusal_at}
use Rattle.body_exprs.specs.Shape.{form_of, is_access}
use Rattle.body_exprs.specs.Targeting.{TargetAnswer, misses, Targeting}
use Rattle.body_exprs.proofs.Forms.{plain_kind, plain_node, at_Field, at_Element}

-- what is so of a field or an element is so of the expression
pub of_field : (env : Env) (e of x : Expr) (name : ℕ) (f : Found) (a : TargetAnswer) → e.kind ≡ form.Field of name → x ≡ of →
    Targeting env (expression e.place (field (plain_expr x) name)) f a → Targeting env (plain_expr e) f a
of_field env e of x name f a is same d =
    subst (λ (z : PlainExpr). Targeting env z f a) (sym (at_Field e of name is))
    (subst (λ (z : Expr). Targeting env (expression e.place (field (plain_expr z) name)) f a) same d)

pub of_element : (env : Env) (e array at x y : Expr) (f : Found) (a : TargetAnswer) → e.kind ≡ form.Element array at → x ≡ array → y ≡ at →
    Targeting env (expression e.place (element (plain_expr x) (plain_expr y))) f a → Targeting env (plain_expr e) f a
of_element env e array at x y f a is same also d =
    subst (λ (z : PlainExpr). Targeting env z f a) (sym (at_Element e array at is))
    (subst (λ (z : Expr). Targeting env (expression e.place (element (plain_expr z) (plain_expr at))) f a) same
    (subst (λ (z : Expr). Targeting env (expression e.place (element (plain_expr x) (plain_expr z))) f a) also d))

-- what is no field and no element
no_target : (env : Env) (place : Place) (other : ExprForm) (f : Found) → is_access other ≡ false → Targeting env (expression place other) f (misses (fault kind.Type place))
no_target env place (field of name) f is = cc
no_target env place (element array index) f is = cc
no_target env place other f is = refl

pub of_none : (e : Expr) (s : Stop) → is_access (form_of (plain_expr e)) ≡ false → s ≡ refusal_at kind.Type e.place →
    IfRefused s (λ q. (env : Env) (f : Found) → Targeting env (plain_expr e) f (misses q))
of_none e s other is =
    subst (λ (z : Stop). IfRefused z (λ q. (env : Env) (f : Found) → Targeting env (plain_expr e) f (misses q))) (sym is)
    (λ env f. rw (plain_node e) (no_target env e.place (plain_kind e.kind) f (subst (λ (z : PlainExpr). is_access (form_of z) ≡ false) (plain_node e) other)))
