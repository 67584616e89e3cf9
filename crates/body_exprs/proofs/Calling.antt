-- Calls whose parts are read: of what is reported of a use with region arguments, what is so of the call.
use Rattle.std.proofs.Common.{◌≡◌, ◌∙◌, ℕ, List, ◌++◌, Bool, Option, Some, None, cond, Result, Ok, map, sym, subst, ap}
use Rattle.std.specs.List.{list_all}
use Rattle.lang_base.specs.declared.place.Place.{Place}
use Rattle.lang_base.specs.declared.refusal.Kind.TheVariants as kind
use Rattle.lang_base.specs.declared.refusal.Refusal.{Refusal}
use Rattle.lang_base.specs.declared.refusal.Stop.{Stop}
use Rattle.lang_base.specs.declared.refusal.Stop.TheVariants as stop
use Rattle.lang_base.specs.declared.region.Rpl.{Rpl}
use Rattle.lang_base.specs.declared.ty.Ty.{Ty}
use Rattle.lang_base.specs.Refused.{IfRefused}
use Rattle.lang_base.specs.Types.{PlainType, plain_type, type_with}
use Rattle.decl_headers.specs.declared.faults.Faults.{Faults}
use Rattle.decl_headers.specs.declared.faults.Order.TheVariants as order
use Rattle.decl_headers.specs.declared.header.Headers.{Headers}
use Rattle.decl_headers.specs.declared.header.ParamRow.{ParamRow}
use Rattle.decl_headers.specs.Faults.{none_by, all_noted}
use Rattle.decl_resolve.specs.declared.args.ReadArgs.{ReadArgs}
use Rattle.decl_resolve.specs.Args.{args_given, args_faults}
use Rattle.decl_resolve.specs.Constraints.{all_hold}
use Rattle.decl_table.specs.declared.rows.MethodRow.{MethodRow}
use Rattle.decl_table.specs.Table.{headers_of, row_of}
use Rattle.decl_headers.specs.Passes.{fault}
use Rattle.lang_typed.specs.declared.expr.Expr.{Expr}
use Rattle.lang_typed.specs.Plain.{TypedExpr, typed, TypedExprs, exprs_of, call}
use Rattle.body_exprs.specs.declared.env.Env.{Env}
use Rattle.body_exprs.specs.declared.found.Found.{Found}
use Rattle.body_exprs.specs.Answer.{Answer, gives, refused, with_call, Says}
use Rattle.body_exprs.specs.Env.{table_of, given_in}
use Rattle.body_exprs.specs.Partial.{is_partial_call}
use Rattle.body_exprs.specs.Shapes.{shapes_fit}
use Rattle.body_exprs.specs.declared.typed.Typed.{Typed}
use Rattle.body_exprs.specs.declared.typed.Typed.TheVariants.{Known, Any}
use Rattle.body_exprs.specs.Typed.{plain_node, plain_typed, type_in, value_type, nodes_at, may_be, is_value}
use Rattle.body_exprs.specs.Uses.{args_noted, use_reported, unknown_reported, method_through, called, type_call_of, type_call_on, type_call}
use Rattle.body_exprs.proofs.Built.{types_in}
use Rattle.body_exprs.proofs.Passing.{says_all}

-- the region arguments, and the faults of their list, for the parameters of the row
pub given_for : (args : ReadArgs) (params rows : List ParamRow) (given seen : Option (List Rpl)) →
    given ≡ args_given args.written args.paths params → given ≡ seen → params ≡ rows → args_given args.written args.paths rows ≡ seen
given_for args params rows given seen g s p =
    subst (λ (z : List ParamRow). args_given args.written args.paths z ≡ seen) p (sym g ∙ s)

pub noted_for : (args : ReadArgs) (params rows : List ParamRow) (place : Place) (none before : Faults) →
    before ≡ all_noted none (args_faults args.local args.written params place) → none ≡ none_by order.Kind → params ≡ rows → before ≡ args_noted args rows place
noted_for args params rows place none before b n p =
    subst (λ (z : List ParamRow). before ≡ args_noted args z place) p
    (subst (λ (z : Faults). before ≡ all_noted z (args_faults args.local args.written params place)) n b)

pub all_for : (owned regions shown made all : List Rpl) → all ≡ made → made ≡ owned ++ shown → shown ≡ regions → all ≡ owned ++ regions
all_for owned regions shown made all a m s = a ∙ m ∙ ap (λ (z : List Rpl). owned ++ z) s

pub fit_for : (headers others : Headers) (actuals : List (Option PlainType)) (declared shown : List Ty) (fit : Bool) →
    fit ≡ shapes_fit headers actuals declared → headers ≡ others → declared ≡ shown → fit ≡ shapes_fit others actuals shown
fit_for headers others actuals declared shown fit f h d =
    subst (λ (z : List Ty). fit ≡ shapes_fit others actuals z) d (subst (λ (z : Headers). fit ≡ shapes_fit z actuals declared) h f)

-- what is reported of a call with these region arguments, after these faults, through a partial receiver or not
abbrev pub CallReported : Env → MethodRow → List (Option PlainType) → Place → Option Refusal → List Rpl → Faults → Bool → Type 0
CallReported env row actuals place reported_one all before partial =
    use_reported env before all actuals row.params partial (all_hold (given_in env) all row.given) place ≡ reported_one

reported_same : (env : Env) (row : MethodRow) (actuals : List (Option PlainType)) (place : Place) (reported_one : Option Refusal) (all all' : List Rpl) (before before' : Faults) (partial partial' : Bool) →
    all ≡ all' → before ≡ before' → partial ≡ partial' → CallReported env row actuals place reported_one all before partial → CallReported env row actuals place reported_one all' before' partial'
reported_same env row actuals place reported_one all all' before before' partial partial' e f p h =
    subst (λ (z : Bool). CallReported env row actuals place reported_one all' before' z) p
    (subst (λ (z : Faults). CallReported env row actuals place reported_one all' z partial) f
    (subst (λ (z : List Rpl). CallReported env row actuals place reported_one z before partial) e h))

-- as what several expressions give, and as their types
types_for : (actuals shown : List Typed) → shown ≡ actuals → map value_type shown ≡ map type_in (map plain_typed actuals)
types_for actuals shown shows = ap (map value_type) shows ∙ types_in actuals

reported_for : (env : Env) (row : MethodRow) (owned : List Rpl) (args : ReadArgs) (actuals shown : List Typed) (place : Place) (regions all : List Rpl) (before : Faults) (partial : Bool)
    (reported_one : Option Refusal) → all ≡ owned ++ regions → before ≡ args_noted args row.regions place → partial ≡ is_partial_call owned row → shown ≡ actuals →
    CallReported env row (map value_type shown) place reported_one all before partial →
    CallReported env row (map type_in (map plain_typed actuals)) place reported_one (owned ++ regions) (args_noted args row.regions place) (is_partial_call owned row)
reported_for env row owned args actuals shown place regions all before partial reported_one e b p shows reported =
    subst (λ (z : List (Option PlainType)). CallReported env row z place reported_one (owned ++ regions) (args_noted args row.regions place) (is_partial_call owned row))
    (types_for actuals shown shows)
    (reported_same env row (map value_type shown) place reported_one all (owned ++ regions) before (args_noted args row.regions place) partial (is_partial_call owned row) e b p reported)

-- a call that fits, and one that is faulty
pub of_used : (env : Env) (e : TypedExpr) (class : ℕ) (row : MethodRow) (owned : List Rpl) (args : ReadArgs) (actuals shown : List Typed) (place : Place) (f g : Found)
    (regions all : List Rpl) (before : Faults) (partial : Bool) (t : Ty) (number : ℕ) (passed : List Expr) (made : TypedExpr) →
    args_given args.written args.paths row.regions ≡ Some regions → all ≡ owned ++ regions → before ≡ args_noted args row.regions place → partial ≡ is_partial_call owned row →
    shown ≡ actuals → CallReported env row (map value_type shown) place None all before partial → plain_type t ≡ type_with all (plain_type row.result) →
    g ≡ with_call (table_of env) f row all → number ≡ row_of (table_of env) row.id → exprs_of (map plain_node passed) ≡ nodes_at place (map plain_typed actuals) →
    made ≡ typed place (plain_type t) (call e class number regions (exprs_of (map plain_node passed))) →
    type_call_of env e class row owned args (map plain_typed actuals) place f ≡ gives (Some made) g
of_used env e class row owned args actuals shown place f g regions all before partial t number passed made given a b p shows reported is found numbers nodes makes =
    let result : PlainType = type_with (owned ++ regions) (plain_type row.result) in
    let same : made ≡ called env e class row owned regions (map plain_typed actuals) place =
    makes
    ∙ ap (λ (z : PlainType). typed place z (call e class number regions (exprs_of (map plain_node passed)))) (is ∙ ap (λ (z : List Rpl). type_with z (plain_type row.result)) a)
    ∙ ap (λ (z : ℕ). typed place result (call e class z regions (exprs_of (map plain_node passed)))) numbers
    ∙ ap (λ (z : TypedExprs). typed place result (call e class (row_of (table_of env) row.id) regions z)) nodes in
    let after : g ≡ with_call (table_of env) f row (owned ++ regions) = found ∙ ap (λ (z : List Rpl). with_call (table_of env) f row z) a in
    rw (given, reported_for env row owned args actuals shown place regions all before partial None a b p shows reported)
    (sym (ap (λ (z : TypedExpr). gives (Some z) g) same ∙ ap (gives (Some (called env e class row owned regions (map plain_typed actuals) place))) after))

pub of_faulty : (env : Env) (e : TypedExpr) (class : ℕ) (row : MethodRow) (owned : List Rpl) (args : ReadArgs) (actuals shown : List Typed) (place : Place) (f : Found)
    (regions all : List Rpl) (before : Faults) (partial : Bool) (q : Refusal) →
    args_given args.written args.paths row.regions ≡ Some regions → all ≡ owned ++ regions → before ≡ args_noted args row.regions place → partial ≡ is_partial_call owned row →
    shown ≡ actuals → CallReported env row (map value_type shown) place (Some q) all before partial → type_call_of env e class row owned args (map plain_typed actuals) place f ≡ refused q
of_faulty env e class row owned args actuals shown place f regions all before partial q given a b p shows reported =
    rw (given, reported_for env row owned args actuals shown place regions all before partial (Some q) a b p shows reported)

pub of_unknown : (env : Env) (e : TypedExpr) (class : ℕ) (row : MethodRow) (owned : List Rpl) (args : ReadArgs) (actuals shown : List Typed) (place : Place) (f : Found) (before : Faults) (fit : Bool) (s : Stop) →
    args_given args.written args.paths row.regions ≡ None → before ≡ args_noted args row.regions place → shown ≡ actuals → fit ≡ shapes_fit (headers_of (table_of env)) (map value_type shown) row.params →
    s ≡ stop.Refused (unknown_reported before fit place) → IfRefused s (λ q. type_call_of env e class row owned args (map plain_typed actuals) place f ≡ refused q)
of_unknown env e class row owned args actuals shown place f before fit s given b shows fits is =
    rw is (rw (given, b, fits ∙ ap (λ (z : List (Option PlainType)). shapes_fit (headers_of (table_of env)) z row.params) (types_for actuals shown shows)))

-- a call on what has a type, and on what fits everywhere
pub on_known : (env : Env) (of : Typed) (e : Expr) (name : ℕ) (args : ReadArgs) (actuals : List (Option TypedExpr)) (place : Place) (f : Found) (a : Answer) →
    of ≡ Known e → type_call_on env (plain_node e) name args actuals place f ≡ a → type_call env (plain_typed of) name args actuals place f ≡ a
on_known env of e name args actuals place f a is d = rw is d

-- a call of the method that is found, on what has a type
pub of_found : (env : Env) (of : Typed) (e : Expr) (name : ℕ) (args : ReadArgs) (actuals : List (Option TypedExpr)) (place : Place) (f g : Found)
    (class : ℕ) (row : MethodRow) (owned shown : List Rpl) (r : Result Typed Stop) → of ≡ Known e →
    method_through (table_of env) (plain_type e.ty) name place ≡ Ok (class, row, owned) → shown ≡ owned →
    Says r (λ u. gives (plain_typed u) g) refused (λ a. type_call_of env (plain_node e) class row shown args actuals place f ≡ a) →
    Says r (λ u. gives (plain_typed u) g) refused (λ a. type_call env (plain_typed of) name args actuals place f ≡ a)
of_found env of e name args actuals place f g class row owned shown r known through is h =
    says_all (λ a. type_call_of env (plain_node e) class row shown args actuals place f ≡ a) (λ a. type_call env (plain_typed of) name args actuals place f ≡ a)
    (λ u. gives (plain_typed u) g) refused r (λ a d. on_known env of e name args actuals place f a known (rw (through, ← is) d)) h

pub on_any : (env : Env) (of : Typed) (name : ℕ) (args : ReadArgs) (actuals shown : List Typed) (place : Place) (f : Found) (values : Bool) →
    of ≡ Any → shown ≡ actuals → values ≡ list_all (may_be is_value) (map value_type shown) →
    type_call env (plain_typed of) name args (map plain_typed actuals) place f ≡ cond values (gives None f) (refused (fault kind.Type place))
on_any env of name args actuals shown place f values is shows reported =
    rw (is, reported ∙ ap (list_all (may_be is_value)) (types_for actuals shown shows))
