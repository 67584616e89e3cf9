use Rattle.std.proofs.Common.{◌≡◌, Some}
use Rattle.lang_base.specs.Refused.{IfRefused}
use Rattle.decl_resolve.specs.Index.{plain_index}
use Rattle.decl_resolve.specs.Scopes.{plain_scope}
use Rattle.decl_resolve.specs.Telling.{parts_reported}
use Rattle.decl_resolve.specs.Written.{base_parts, parts_from, type_parts}
use Rattle.decl_resolve.proofs.Reported.{refused_first, refused_later, passed_on, unreported_parts}
use Rattle.decl_resolve.proofs.types.read_type.Goals as goal

pub returns-in_err-base-clause-reported : goal.returns-in_err-base-clause-reported
returns-in_err-base-clause-reported c =
    let scope = plain_scope c.args.scope.now in
    let around = plain_index c.args.around in
    passed_on c.from_residual.result c.in_err-base.field-0.0 (λ e. IfRefused e (λ refusal. parts_reported c.args.scope.now.site c.args.faults.now (type_parts scope around c.args.base.now) ≡ Some refusal))
    c.from_residual.ensures.1
    (refused_first c.in_err-base.field-0.0 c.args.scope.now.site c.args.faults.now (base_parts scope around c.args.base.now) (parts_from scope around 0 around.suffixes) c.in_err-base.ensures.reported)

pub returns-in_err-read-clause-reported : goal.returns-in_err-read-clause-reported
returns-in_err-read-clause-reported c =
    let scope = plain_scope c.args.scope.now in
    let around = plain_index c.args.around in
    passed_on c.from_residual-in_err-read.result c.in_err-read.field-0.0 (λ e. IfRefused e (λ refusal. parts_reported c.args.scope.now.site c.args.faults.now (type_parts scope around c.args.base.now) ≡ Some refusal))
    c.from_residual-in_err-read.ensures.1
    (refused_later c.in_err-read.field-0.0 c.args.scope.now.site c.args.faults.now c.read_base.new.faults (base_parts scope around c.args.base.now) (parts_from scope around 0 around.suffixes)
    c.in_ok-base.ensures.unreported c.in_ok-base.ensures.noted c.in_err-read.ensures.reported)

pub returns-clause-unreported : goal.returns-clause-unreported
returns-clause-unreported c =
    let scope = plain_scope c.args.scope.now in
    let around = plain_index c.args.around in
    unreported_parts c.args.scope.now.site c.args.faults.now c.read_base.new.faults (base_parts scope around c.args.base.now) (parts_from scope around 0 around.suffixes)
    c.in_ok-base.ensures.unreported c.in_ok-base.ensures.noted c.in_ok-read.ensures.unreported
