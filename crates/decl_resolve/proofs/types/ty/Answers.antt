use Rattle.std.proofs.Common.{◌≡◌, ◌∙◌, Some, sym}
use Rattle.lang_base.specs.Refused.{IfRefused}
use Rattle.decl_resolve.specs.Scopes.{plain_scope}
use Rattle.decl_resolve.specs.Telling.{reported_at, parts_reported}
use Rattle.decl_resolve.specs.Written.{type_faults}
use Rattle.decl_resolve.proofs.Reported.{settled_ok, settled_err, refused_map, passed_on}
use Rattle.decl_resolve.proofs.Whole.{type_reported, type_refused}
use Rattle.decl_resolve.proofs.types.ty.Goals as goal

pub returns-in_err-read-clause-reported : goal.returns-in_err-read-clause-reported
returns-in_err-read-clause-reported c =
    let site = c.args.scope.now.site in
    let faults = c.args.faults.now in
    passed_on c.from_residual.result c.in_err-read.field-0.0 (λ e. IfRefused e (λ refusal. parts_reported site faults (type_faults (plain_scope c.args.scope.now) c.args.tree.now) ≡ Some refusal))
    c.from_residual.ensures.1
    (type_refused (plain_scope c.args.scope.now) c.args.tree.now c.as_slice.result.now c.as_slice.ensures site faults c.in_err-read.field-0.0 c.in_err-read.ensures.reported)

pub returns-in_err-settle-clause-reported : goal.returns-in_err-settle-clause-reported
returns-in_err-settle-clause-reported c =
    let site = c.args.scope.now.site in
    let faults = c.args.faults.now in
    let reported : parts_reported site faults (type_faults (plain_scope c.args.scope.now) c.args.tree.now) ≡ reported_at site c.type_made.new.faults =
    type_reported (plain_scope c.args.scope.now) c.args.tree.now c.as_slice.result.now c.as_slice.ensures site faults c.read_type.new.faults c.type_made.new.faults c.in_ok-read.read
    c.in_ok-read.ensures.meant c.in_ok-read.ensures.unreported c.in_ok-read.ensures.noted c.in_ok-made.ensures.faults in
    passed_on c.from_residual-in_err-settle.result c.in_err-settle.field-0.0 (λ e. IfRefused e (λ refusal. parts_reported site faults (type_faults (plain_scope c.args.scope.now) c.args.tree.now) ≡ Some refusal))
    c.from_residual-in_err-settle.ensures.1
    (refused_map c.in_err-settle.field-0.0 (settled_err (reported_at site c.type_made.new.faults) c.in_err-settle.field-0.0 (sym c.in_err-settle.ensures.result)) (λ refusal here. reported ∙ here))

pub returns-clause-unreported : goal.returns-clause-unreported
returns-clause-unreported c =
    let site = c.args.scope.now.site in
    let faults = c.args.faults.now in
    type_reported (plain_scope c.args.scope.now) c.args.tree.now c.as_slice.result.now c.as_slice.ensures site faults c.read_type.new.faults c.type_made.new.faults c.in_ok-read.read
    c.in_ok-read.ensures.meant c.in_ok-read.ensures.unreported c.in_ok-read.ensures.noted c.in_ok-made.ensures.faults
    ∙ settled_ok (reported_at site c.type_made.new.faults) tt (sym c.in_ok-settle.ensures.result)
