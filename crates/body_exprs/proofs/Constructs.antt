-- What the code says of an expression: of its form, of what it says of the parts, and passed on.
use Rattle.std.proofs.Common.{◌≡◌, List, Option, Result, subst}
use Rattle.std.specs.Result.{IsErrAnd}
use Rattle.lang_base.specs.declared.place.Place.{Place}
use Rattle.lang_base.specs.declared.refusal.Refusal.{Refusal}
use Rattle.lang_base.specs.declared.refusal.Stop.{Stop}
use Rattle.lang_base.specs.Refused.{IfRefused}
use Rattle.syntax_tree.specs.declared.expr.Expr.{Expr}
use Rattle.syntax_tree.specs.declared.region.BaseTree.{BaseTree}
use Rattle.syntax_tree.specs.declared.region.Named.{Named}
use Rattle.syntax_tree.specs.declared.region.RplTree.{RplTree}
use Rattle.syntax_tree.specs.declared.region.Suffix.{Suffix}
use Rattle.syntax_tree.specs.Plain.{expression, ExprForm, create_array, plain_expr}
use Rattle.lang_typed.specs.Plain.{TypedExpr}
use Rattle.body_exprs.specs.declared.env.Env.{Env}
use Rattle.body_exprs.specs.declared.found.Found.{Found}
use Rattle.body_exprs.specs.declared.typed.Typed.{Typed}
use Rattle.body_exprs.specs.Answer.{Answer, gives, refused, Says}
use Rattle.body_exprs.specs.Typed.{plain_typed}
use Rattle.body_exprs.specs.Typing.{answer, type_form, Typing}
use Rattle.body_exprs.proofs.Passing.{passed_on, says_all}

-- an expression is refused
abbrev pub Refuses : Env → Expr → Found → Refusal → Type 0
Refuses env e f q = Typing env (plain_expr e) f (refused q)

-- what the code says where so much is found after it
abbrev pub Reported : Result Typed Stop → Found → (Answer → Type 0) → Type 0
Reported r g Q = Says r (λ t. gives (plain_typed t) g) refused Q

-- at the exit of a `?`, and at a call that says it all
pub exits : (Q : Answer → Type 0) (g : Found) (P : Refusal → Type 0) (r : Result Typed Stop) (s : Stop) →
    IsErrAnd r (λ x. x ≡ s) → ((q : Refusal) → P q → Q (refused q)) → IfRefused s P → Reported r g Q
exits Q g P r s is next h = passed_on P Q (λ t. gives (plain_typed t) g) refused r s is next h

pub ends : (Q : Answer → Type 0) (g : Found) (P : Answer → Type 0) (r : Result Typed Stop) → ((a : Answer) → P a → Q a) → Reported r g P → Reported r g Q
ends Q g P r next h = says_all P Q (λ t. gives (plain_typed t) g) refused r next h

-- what has no expressions in it
pub of_leaf : (env : Env) (e : Expr) (k : ExprForm) (f : Found) (reported : Result TypedExpr Refusal) (r : Result Typed Stop) → plain_expr e ≡ expression e.place k →
    type_form env e.place k f ≡ answer reported f → Reported r f (λ a. answer reported f ≡ a) → Reported r f (Typing env (plain_expr e) f)
of_leaf env e k f reported r is leaf h = ends (Typing env (plain_expr e) f) f (λ a. answer reported f ≡ a) r (λ a same. rw (is, leaf) same) h

-- an array creation whose parts are those that the code reaches
pub array_parts : {shown suffixes : List Suffix} {x len : Expr} {given rpl : Option RplTree} (env : Env) (place : Place) (base : BaseTree) (index : Option Named) (f : Found) (a : Answer) →
    shown ≡ suffixes → x ≡ len → given ≡ rpl → Typing env (expression place (create_array base shown (plain_expr x) given index)) f a →
    Typing env (expression place (create_array base suffixes (plain_expr len) rpl index)) f a
array_parts {suffixes = suffixes} {x} {len} {given} env place base index f a shows same gave d =
    subst (λ (z : Option RplTree). Typing env (expression place (create_array base suffixes (plain_expr len) z index)) f a) gave
    (subst (λ (z : Expr). Typing env (expression place (create_array base suffixes (plain_expr z) given index)) f a) same
    (subst (λ (z : List Suffix). Typing env (expression place (create_array base z (plain_expr x) given index)) f a) shows d))
