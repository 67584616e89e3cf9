use Rattle.std.proofs.Common.{◌≡◌, ◌∙◌, Some, map, ap}
use Rattle.decl_table.specs.declared.table.Table.{Table}
use Rattle.decl_table.specs.Table.{headers_of, row_of}
use Rattle.body_exprs.specs.Answer.{gives, refused}
use Rattle.body_exprs.specs.Typed.{plain_node, plain_typed, value_type}
use Rattle.body_exprs.specs.Uses.{type_call_of}
use Rattle.body_exprs.proofs.Built.{call_built}
use Rattle.body_exprs.proofs.Calling.{CallReported, given_for, noted_for, all_for, fit_for, of_used, of_faulty, of_unknown}
use Rattle.body_exprs.proofs.Passing.{passed_on}
use Rattle.body_exprs.proofs.calls.call_of.Goals as goal

pub returns-in_err-ty-in-Some : goal.returns-in_err-ty-in-Some
returns-in_err-ty-in-Some c =
    let env = c.args.env.now in
    let row = c.args.row.now in
    let shown = c.as_slice-in-Some-2.result.now in
    passed_on (λ q. CallReported env row (map value_type shown) c.args.place (Some q) c.as_slice-args.result.now c.fit_args.new.faults c.is_partial-partial.result)
    (λ a. type_call_of env (plain_node c.args.of) c.args.class row c.args.owned.now c.args.regions (map plain_typed c.args.actuals) c.args.place c.args.found.now ≡ a)
    (λ t. gives (plain_typed t) c.call_with.new.found) refused
    c.from_residual-in_err-ty-in-Some.result c.in_err-ty-in-Some.field-0.0 c.from_residual-in_err-ty-in-Some.ensures.1
    (λ q d. of_faulty env (plain_node c.args.of) c.args.class row c.args.owned.now c.args.regions c.args.actuals shown c.args.place c.args.found.now
    c.in-Some.regions c.as_slice-args.result.now c.fit_args.new.faults c.is_partial-partial.result q
    (given_for c.args.regions c.as_slice.result.now row.regions c.in_ok-regions.field-0 _ c.in_ok-regions.ensures.given c.in-Some.is c.as_slice.ensures)
    (all_for c.args.owned.now c.in-Some.regions c.as_slice-in-Some.result.now c.in_ok-args-in-Some.args c.as_slice-args.result.now
    c.as_slice-args.ensures c.in_ok-args-in-Some.ensures c.as_slice-in-Some.ensures)
    (noted_for c.args.regions c.as_slice.result.now row.regions c.args.place c.by_kind-faults.result c.fit_args.new.faults
    c.fit_args.ensures.faults c.by_kind-faults.ensures c.as_slice.ensures)
    c.is_partial-partial.ensures c.as_slice-in-Some-2.ensures d)
    c.in_err-ty-in-Some.ensures.reported

pub returns-in_ok-of-in-Some : goal.returns-in_ok-of-in-Some
returns-in_ok-of-in-Some c =
    let env = c.args.env.now in
    let row = c.args.row.now in
    of_used env (plain_node c.args.of) c.args.class row c.args.owned.now c.args.regions c.args.actuals c.as_slice-in-Some-2.result.now c.args.place c.args.found.now c.call_with.new.found
    c.in-Some.regions c.as_slice-args.result.now c.fit_args.new.faults c.is_partial-partial.result c.in_ok-ty-in-Some.ty c.row-number.result
    c.in_ok-actuals-in-Some.actuals _
    (given_for c.args.regions c.as_slice.result.now row.regions c.in_ok-regions.field-0 _ c.in_ok-regions.ensures.given c.in-Some.is c.as_slice.ensures)
    (all_for c.args.owned.now c.in-Some.regions c.as_slice-in-Some.result.now c.in_ok-args-in-Some.args c.as_slice-args.result.now
    c.as_slice-args.ensures c.in_ok-args-in-Some.ensures c.as_slice-in-Some.ensures)
    (noted_for c.args.regions c.as_slice.result.now row.regions c.args.place c.by_kind-faults.result c.fit_args.new.faults
    c.fit_args.ensures.faults c.by_kind-faults.ensures c.as_slice.ensures)
    c.is_partial-partial.ensures c.as_slice-in-Some-2.ensures c.in_ok-ty-in-Some.ensures.reported c.in_ok-ty-in-Some.ensures.ty c.in_ok-ty-in-Some.ensures.found
    (c.row-number.ensures ∙ ap (λ (z : Table). row_of z row.id) c.table.ensures) c.in_ok-actuals-in-Some.ensures
    (call_built c.args.place c.in_ok-ty-in-Some.ty c.call-form.result c.in_ok-of-in-Some.of c.args.of c.args.class c.row-number.result c.in-Some.regions
    c.in_ok-actuals-in-Some.actuals c.call-form.ensures c.in_ok-of-in-Some.ensures)

pub returns-in-None : goal.returns-in-None
returns-in-None c =
    let row = c.args.row.now in
    of_unknown c.args.env.now (plain_node c.args.of) c.args.class row c.args.owned.now c.args.regions c.args.actuals c.as_slice-in-None.result.now c.args.place c.args.found.now
    c.fit_args.new.faults c.shapes_fit-fit.result c.unknown_args.result
    (given_for c.args.regions c.as_slice.result.now row.regions c.in_ok-regions.field-0 _ c.in_ok-regions.ensures.given c.in-None.is c.as_slice.ensures)
    (noted_for c.args.regions c.as_slice.result.now row.regions c.args.place c.by_kind-faults.result c.fit_args.new.faults
    c.fit_args.ensures.faults c.by_kind-faults.ensures c.as_slice.ensures)
    c.as_slice-in-None.ensures
    (fit_for c.headers.result.now _ (map value_type c.as_slice-in-None.result.now) c.as_slice-in-None-2.result.now row.params
    c.shapes_fit-fit.result c.shapes_fit-fit.ensures (c.headers.ensures ∙ ap headers_of c.table-in-None.ensures) c.as_slice-in-None-2.ensures)
    c.unknown_args.ensures
