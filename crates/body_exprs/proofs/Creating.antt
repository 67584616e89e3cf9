-- Creations of objects whose parts are read: of what is reported of a use with region arguments, what is so of the creation.
use Rattle.std.proofs.Common.{◌≡◌, ◌∙◌, ℕ, List, Bool, false, Option, Some, None, Result, map, ap, sym, subst}
use Rattle.lang_base.specs.declared.place.Place.{Place}
use Rattle.lang_base.specs.declared.refusal.Kind.TheVariants as kind
use Rattle.lang_base.specs.declared.refusal.Refusal.{Refusal}
use Rattle.lang_base.specs.declared.refusal.Stop.{Stop}
use Rattle.lang_base.specs.declared.refusal.Stop.TheVariants as stop
use Rattle.lang_base.specs.declared.region.Rpl.{Rpl}
use Rattle.lang_base.specs.declared.ty.Ty.{Ty}
use Rattle.lang_base.specs.Refused.{IfRefused}
use Rattle.lang_base.specs.Types.{PlainType, plain_type}
use Rattle.lang_base.specs.Types.{PlainType as ty}
use Rattle.decl_headers.specs.declared.faults.Faults.{Faults}
use Rattle.decl_headers.specs.declared.header.Headers.{Headers}
use Rattle.decl_headers.specs.declared.header.ParamRow.{ParamRow}
use Rattle.decl_headers.specs.Headers.{class_of}
use Rattle.decl_resolve.specs.declared.args.ReadArgs.{ReadArgs}
use Rattle.decl_resolve.specs.Args.{args_given}
use Rattle.decl_resolve.specs.Classes.{params_in}
use Rattle.decl_resolve.specs.Constraints.{all_hold}
use Rattle.decl_table.specs.Table.{headers_of, constructor_of, given_of}
use Rattle.syntax_tree.specs.declared.region.Named.{Named}
use Rattle.lang_typed.specs.declared.expr.Expr.{Expr}
use Rattle.lang_typed.specs.Plain.{TypedExpr, typed, TypedExprs, exprs_of, create}
use Rattle.body_exprs.specs.declared.env.Env.{Env}
use Rattle.body_exprs.specs.declared.found.Found.{Found}
use Rattle.body_exprs.specs.Answer.{gives, refused, Says}
use Rattle.body_exprs.specs.Env.{table_of, given_in}
use Rattle.body_exprs.specs.Refusing.{refusal_at}
use Rattle.body_exprs.specs.Shapes.{shapes_fit}
use Rattle.body_exprs.specs.declared.typed.Typed.{Typed}
use Rattle.body_exprs.specs.Typed.{plain_node, plain_typed, type_in, value_type, nodes_at}
use Rattle.body_exprs.specs.Uses.{args_noted, formals_of, use_reported, unknown_reported, with_constructor, type_creation_of, type_creation}
use Rattle.body_exprs.proofs.Built.{types_in}
use Rattle.body_exprs.proofs.Passing.{says_all}

abbrev pub params_at : Env → ℕ → List ParamRow
params_at env at = params_in (headers_of (table_of env)) at

-- what is reported of the creation of an object of a class with these region arguments, after these faults
abbrev pub CreationReported : Env → ℕ → List (Option PlainType) → Place → Option Refusal → List Rpl → Faults → Type 0
CreationReported env at actuals place reported_one regions before =
    use_reported env before regions actuals (formals_of (table_of env) at) false (all_hold (given_in env) regions (given_of (table_of env) at)) place ≡ reported_one

types_for : (actuals shown : List Typed) → shown ≡ actuals → map value_type shown ≡ map type_in (map plain_typed actuals)
types_for actuals shown shows = ap (map value_type) shows ∙ types_in actuals

reported_for : (env : Env) (at : ℕ) (args : ReadArgs) (actuals shown : List Typed) (place : Place) (regions : List Rpl) (before : Faults) (reported_one : Option Refusal) →
    before ≡ args_noted args (params_at env at) place → shown ≡ actuals → CreationReported env at (map value_type shown) place reported_one regions before →
    CreationReported env at (map type_in (map plain_typed actuals)) place reported_one regions (args_noted args (params_at env at) place)
reported_for env at args actuals shown place regions before reported_one b shows reported =
    subst (λ (z : List (Option PlainType)). CreationReported env at z place reported_one regions (args_noted args (params_at env at) place)) (types_for actuals shown shows)
    (subst (λ (z : Faults). CreationReported env at (map value_type shown) place reported_one regions z) b reported)

-- a creation that fits, and one that is faulty
pub of_used : (env : Env) (at : ℕ) (args : ReadArgs) (actuals shown : List Typed) (place : Place) (f g : Found) (regions : List Rpl) (before : Faults)
    (t : Ty) (passed : List Expr) (made : TypedExpr) →
    args_given args.written args.paths (params_at env at) ≡ Some regions → before ≡ args_noted args (params_at env at) place → shown ≡ actuals →
    CreationReported env at (map value_type shown) place None regions before → plain_type t ≡ ty.class at regions →
    g ≡ with_constructor (table_of env) f (constructor_of (table_of env) at) regions → exprs_of (map plain_node passed) ≡ nodes_at place (map plain_typed actuals) →
    made ≡ typed place (plain_type t) (create (exprs_of (map plain_node passed))) → type_creation_of env at args (map plain_typed actuals) place f ≡ gives (Some made) g
of_used env at args actuals shown place f g regions before t passed made given b shows reported is found nodes makes =
    let all = map plain_typed actuals in
    let same : made ≡ typed place (ty.class at regions) (create (nodes_at place all)) =
    makes ∙ ap (λ (z : PlainType). typed place z (create (exprs_of (map plain_node passed)))) is
    ∙ ap (λ (z : TypedExprs). typed place (ty.class at regions) (create z)) nodes in
    rw (given, reported_for env at args actuals shown place regions before None b shows reported)
    (sym (ap (λ (z : TypedExpr). gives (Some z) g) same ∙ ap (gives (Some (typed place (ty.class at regions) (create (nodes_at place all))))) found))

pub of_faulty : (env : Env) (at : ℕ) (args : ReadArgs) (actuals shown : List Typed) (place : Place) (f : Found) (regions : List Rpl) (before : Faults) (q : Refusal) →
    args_given args.written args.paths (params_at env at) ≡ Some regions → before ≡ args_noted args (params_at env at) place → shown ≡ actuals →
    CreationReported env at (map value_type shown) place (Some q) regions before → type_creation_of env at args (map plain_typed actuals) place f ≡ refused q
of_faulty env at args actuals shown place f regions before q given b shows reported =
    rw (given, reported_for env at args actuals shown place regions before (Some q) b shows reported)

pub of_unknown : (env : Env) (at : ℕ) (args : ReadArgs) (actuals shown : List Typed) (place : Place) (f : Found) (before : Faults) (fit : Bool) (s : Stop) →
    args_given args.written args.paths (params_at env at) ≡ None → before ≡ args_noted args (params_at env at) place → shown ≡ actuals →
    fit ≡ shapes_fit (headers_of (table_of env)) (map value_type shown) (formals_of (table_of env) at) →
    s ≡ stop.Refused (unknown_reported before fit place) → IfRefused s (λ q. type_creation_of env at args (map plain_typed actuals) place f ≡ refused q)
of_unknown env at args actuals shown place f before fit s given b shows fits is =
    rw is (rw (given, b, fits ∙ ap (λ (z : List (Option PlainType)). shapes_fit (headers_of (table_of env)) z (formals_of (table_of env) at)) (types_for actuals shown shows)))

-- the class of a name, as it is looked up
pub class_for : (headers others : Headers) (name : ℕ) (seen reported : Option ℕ) → seen ≡ class_of headers name → headers ≡ others → seen ≡ reported → class_of others name ≡ reported
class_for headers others name seen reported s h t = subst (λ (z : Headers). class_of z name ≡ reported) h (sym s ∙ t)

pub of_class : (env : Env) (class : Named) (at : ℕ) (args : ReadArgs) (actuals : List (Option TypedExpr)) (place : Place) (f g : Found) (r : Result Typed Stop) →
    class_of (headers_of (table_of env)) class.name ≡ Some at →
    Says r (λ t. gives (plain_typed t) g) refused (λ a. type_creation_of env at args actuals place f ≡ a) →
    Says r (λ t. gives (plain_typed t) g) refused (λ a. type_creation env class args actuals place f ≡ a)
of_class env class at args actuals place f g r is h =
    says_all (λ a. type_creation_of env at args actuals place f ≡ a) (λ a. type_creation env class args actuals place f ≡ a) (λ t. gives (plain_typed t) g) refused r
    (λ a d. rw is d) h

pub of_no_class : (env : Env) (class : Named) (args : ReadArgs) (actuals : List (Option TypedExpr)) (place : Place) (f : Found) (s : Stop) →
    class_of (headers_of (table_of env)) class.name ≡ None → s ≡ refusal_at kind.Unknown class.place → IfRefused s (λ q. type_creation env class args actuals place f ≡ refused q)
of_no_class env class args actuals place f s none is = rw is (rw none)
