use Rattle.std.proofs.Common.{◌≡◌, Err, Ok}
use Rattle.body_assembly.specs.Assembled.{plain_body}
use Rattle.body_exprs.specs.Env.{at_class, table_of, class_params}
use Rattle.body_check.specs.Methods.{check_member, check_method, atomic_params}
use Rattle.body_check.proofs.Methodic.{begun_in, member_so, no_body, stopped_at}
use Rattle.body_check.proofs.bodies.check_member.Goals as goal

pub returns-in_err-check_method-in-Method-clause-checks :
    goal.returns-in_err-check_method-in-Method-clause-checks
returns-in_err-check_method-in-Method-clause-checks c start class within =
    stopped_at (λ q. check_method (at_class start class) (atomic_params c.enter_method.new.self) c.args.number c.in-Method.method ≡ Err q)
    (λ v. check_member (at_class start class) (class_params (table_of start) class) c.args.member.now c.args.number ≡ v)
    c.from_residual-in_err-check_method-in-Method.result _ c.in_err-check_method-in-Method.field-0.0
    c.from_residual-in_err-check_method-in-Method.ensures.1
    (λ q d.
    member_so start class c.args.number c.enter_method.new.self c.args.member.now c.in-Method.method (Err q) c.in-Method.is
    (begun_in start class c.args.number c.args.env.now c.enter_method.new.self within c.in_ok-enter_method-in-Method.ensures) d)
    (c.in_err-check_method-in-Method.ensures.checks (at_class start class)
    (begun_in start class c.args.number c.args.env.now c.enter_method.new.self within c.in_ok-enter_method-in-Method.ensures))

pub returns-in_ok-check_method-in-Method-clause-checks :
    goal.returns-in_ok-check_method-in-Method-clause-checks
returns-in_ok-check_method-in-Method-clause-checks c start class within =
    member_so start class c.args.number c.enter_method.new.self c.args.member.now c.in-Method.method
    (Ok (plain_body c.in_ok-check_method-in-Method.field-0)) c.in-Method.is
    (begun_in start class c.args.number c.args.env.now c.enter_method.new.self within c.in_ok-enter_method-in-Method.ensures)
    (c.in_ok-check_method-in-Method.ensures.checks (at_class start class)
    (begun_in start class c.args.number c.args.env.now c.enter_method.new.self within c.in_ok-enter_method-in-Method.ensures))

pub returns-in-Regions-clause-checks : goal.returns-in-Regions-clause-checks
returns-in-Regions-clause-checks c start class within =
    no_body (at_class start class) (class_params (table_of start) class) c.args.member.now c.args.number c.in-Regions.is
