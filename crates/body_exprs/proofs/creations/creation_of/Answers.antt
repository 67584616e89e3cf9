use Rattle.std.proofs.Common.{◌≡◌, ◌∙◌, Some, map, ap}
use Rattle.decl_table.specs.Table.{headers_of}
use Rattle.body_exprs.specs.Answer.{gives, refused}
use Rattle.body_exprs.specs.Typed.{plain_typed, value_type}
use Rattle.body_exprs.specs.Uses.{type_creation_of}
use Rattle.body_exprs.proofs.Built.{create_built}
use Rattle.body_exprs.proofs.Calling.{given_for, noted_for, fit_for}
use Rattle.body_exprs.proofs.Creating.{params_at, CreationReported, of_used, of_faulty, of_unknown}
use Rattle.body_exprs.proofs.Passing.{passed_on}
use Rattle.body_exprs.proofs.creations.creation_of.Goals as goal

pub returns-in_err-ty-in-Some : goal.returns-in_err-ty-in-Some
returns-in_err-ty-in-Some c =
    let env = c.args.env.now in
    let params = params_at env c.args.class in
    let shown = c.as_slice-shown.result.now in
    passed_on (λ q. CreationReported env c.args.class (map value_type shown) c.args.place (Some q) c.in-Some.args c.fit_args.new.faults)
    (λ a. type_creation_of env c.args.class c.args.regions (map plain_typed c.args.actuals) c.args.place c.args.found.now ≡ a)
    (λ t. gives (plain_typed t) c.creation_with.new.found) refused
    c.from_residual-in_err-ty-in-Some.result c.in_err-ty-in-Some.field-0.0 c.from_residual-in_err-ty-in-Some.ensures.1
    (λ q d. of_faulty env c.args.class c.args.regions c.args.actuals shown c.args.place c.args.found.now c.in-Some.args c.fit_args.new.faults q
    (given_for c.args.regions c.class_params.result.now params c.in_ok-args.field-0 _ c.in_ok-args.ensures.given c.in-Some.is c.class_params.ensures)
    (noted_for c.args.regions c.class_params.result.now params c.args.place c.by_kind-faults.result c.fit_args.new.faults
    c.fit_args.ensures.faults c.by_kind-faults.ensures c.class_params.ensures)
    c.as_slice-shown.ensures d)
    c.in_err-ty-in-Some.ensures.reported

pub returns-in_ok-actuals-in-Some : goal.returns-in_ok-actuals-in-Some
returns-in_ok-actuals-in-Some c =
    let params = params_at c.args.env.now c.args.class in
    of_used c.args.env.now c.args.class c.args.regions c.args.actuals c.as_slice-shown.result.now c.args.place c.args.found.now c.creation_with.new.found
    c.in-Some.args c.fit_args.new.faults c.in_ok-ty-in-Some.ty c.in_ok-actuals-in-Some.actuals _
    (given_for c.args.regions c.class_params.result.now params c.in_ok-args.field-0 _ c.in_ok-args.ensures.given c.in-Some.is c.class_params.ensures)
    (noted_for c.args.regions c.class_params.result.now params c.args.place c.by_kind-faults.result c.fit_args.new.faults
    c.fit_args.ensures.faults c.by_kind-faults.ensures c.class_params.ensures)
    c.as_slice-shown.ensures c.in_ok-ty-in-Some.ensures.reported c.in_ok-ty-in-Some.ensures.ty c.in_ok-ty-in-Some.ensures.found c.in_ok-actuals-in-Some.ensures
    (create_built c.args.place c.in_ok-ty-in-Some.ty c.in_ok-actuals-in-Some.actuals)

pub returns-in-None : goal.returns-in-None
returns-in-None c =
    let params = params_at c.args.env.now c.args.class in
    of_unknown c.args.env.now c.args.class c.args.regions c.args.actuals c.as_slice.result.now c.args.place c.args.found.now
    c.fit_args.new.faults c.shapes_fit-fit.result c.unknown_args.result
    (given_for c.args.regions c.class_params.result.now params c.in_ok-args.field-0 _ c.in_ok-args.ensures.given c.in-None.is c.class_params.ensures)
    (noted_for c.args.regions c.class_params.result.now params c.args.place c.by_kind-faults.result c.fit_args.new.faults
    c.fit_args.ensures.faults c.by_kind-faults.ensures c.class_params.ensures)
    c.as_slice.ensures
    (fit_for c.headers.result.now _ (map value_type c.as_slice.result.now) c.formals.result.now _
    c.shapes_fit-fit.result c.shapes_fit-fit.ensures (c.headers.ensures ∙ ap headers_of c.table.ensures) c.formals.ensures)
    c.unknown_args.ensures
