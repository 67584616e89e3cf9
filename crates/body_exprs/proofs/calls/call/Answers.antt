use Rattle.std.proofs.Common.{◌≡◌, ◌∙◌, Err, map}
use Rattle.lang_base.specs.Types.{plain_type}
use Rattle.body_exprs.specs.Answer.{gives, refused}
use Rattle.body_exprs.specs.Env.{table_of}
use Rattle.body_exprs.specs.Typed.{plain_typed}
use Rattle.body_exprs.specs.Uses.{method_through, type_call}
use Rattle.body_exprs.proofs.Calling.{of_found, on_known, on_any}
use Rattle.body_exprs.proofs.Passing.{passed_on}
use Rattle.body_exprs.proofs.calls.call.Goals as goal

pub returns-in_err-class-in-Known : goal.returns-in_err-class-in-Known
returns-in_err-class-in-Known c =
    let env = c.args.env.now in
    let all = map plain_typed c.args.actuals in
    passed_on
    (λ q. method_through (table_of env) (plain_type c.in-Known.of.ty) c.args.name c.args.place ≡ Err q)
    (λ a. type_call env (plain_typed c.args.of) c.args.name c.args.regions all c.args.place c.args.found.now ≡ a)
    (λ t. gives (plain_typed t) c.args.found.now) refused
    c.from_residual.result c.in_err-class-in-Known.field-0.0 c.from_residual.ensures.1
    (λ q d. on_known env c.args.of c.in-Known.of c.args.name c.args.regions all c.args.place c.args.found.now (refused q) c.in-Known.is (rw d))
    c.in_err-class-in-Known.ensures

pub returns-in-Known : goal.returns-in-Known
returns-in-Known c =
    of_found c.args.env.now c.args.of c.in-Known.of c.args.name c.args.regions (map plain_typed c.args.actuals) c.args.place c.args.found.now c.call_of.new.found
    c.in_ok-class-in-Known.class c.in_ok-class-in-Known.row.now c.in_ok-class-in-Known.owned c.as_slice-owned.result.now c.call_of.result c.in-Known.is
    c.in_ok-class-in-Known.ensures c.as_slice-owned.ensures c.call_of.ensures

pub returns-then-all_values : goal.returns-then-all_values
returns-then-all_values c =
    on_any c.args.env.now c.args.of c.args.name c.args.regions c.args.actuals c.as_slice.result.now c.args.place c.args.found.now
    c.all_values.result c.in-Any.is c.as_slice.ensures c.all_values.ensures
    ∙ rw c.if-all_values.true

pub returns : goal.returns
returns c =
    rw c.refused.ensures
    (on_any c.args.env.now c.args.of c.args.name c.args.regions c.args.actuals c.as_slice.result.now c.args.place c.args.found.now
    c.all_values.result c.in-Any.is c.as_slice.ensures c.all_values.ensures
    ∙ rw c.if-all_values.false)
