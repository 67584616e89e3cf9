use Rattle.std.proofs.Common.{◌≡◌, Some, None, option_map, subst}
use Rattle.syntax_tree.specs.Plain.{plain_expr}
use Rattle.body_exprs.specs.Answer.{refused}
use Rattle.body_exprs.specs.Targeting.{Targeting, misses, aims, plain_target}
use Rattle.body_exprs.specs.Typed.{node_at, plain_typed, value_type}
use Rattle.body_exprs.specs.Typing.{Typing}
use Rattle.body_check.specs.Simple.{assign_place, put_in_place}
use Rattle.body_check.specs.Walks.{walk_of}
use Rattle.body_check.proofs.Nodes.{place_is}
use Rattle.body_check.proofs.Passing.{says_all, stopped}
use Rattle.body_check.proofs.simple.assign_place.Goals as goal

pub returns-in_err-target-clause-checks : goal.returns-in_err-target-clause-checks
returns-in_err-target-clause-checks c =
    stopped (λ q. Targeting c.args.env.now (plain_expr c.args.written.now) c.args.out.now (misses q))
    (λ v. assign_place c.args.node (plain_expr c.args.written.now) (plain_expr c.args.value.now) (walk_of c.args.env.now c.args.out.now) ≡ v)
    c.from_residual.result _ c.in_err-target.field-0.0 c.from_residual.ensures.1 (λ q d. rw d) c.in_err-target.ensures

pub returns-in_err-given-clause-checks : goal.returns-in_err-given-clause-checks
returns-in_err-given-clause-checks c =
    stopped (λ q. Typing c.args.env.now (plain_expr c.args.value.now) c.read_target.new.found (refused q))
    (λ v. assign_place c.args.node (plain_expr c.args.written.now) (plain_expr c.args.value.now) (walk_of c.args.env.now c.args.out.now) ≡ v)
    c.from_residual-in_err-given.result _ c.in_err-given.field-0.0 c.from_residual-in_err-given.ensures.1
    (λ q d. rw (c.in_ok-target.ensures, d)) c.in_err-given.ensures

pub returns-in-Some-clause-checks : goal.returns-in-Some-clause-checks
returns-in-Some-clause-checks c =
    let aimed : Targeting c.args.env.now (plain_expr c.args.written.now) c.args.out.now (aims (Some (plain_target c.in-Some.target)) c.read_target.new.found) =
    subst (λ z. Targeting c.args.env.now (plain_expr c.args.written.now) c.args.out.now (aims (option_map plain_target z) c.read_target.new.found))
    c.in-Some.is c.in_ok-target.ensures in
    says_all
    (λ v.
    put_in_place c.args.node c.args.written.now.place (Some (plain_target c.in-Some.target)) (node_at c.args.value.now.place (plain_typed c.in_ok-given.given))
    (value_type c.in_ok-given.given) (walk_of c.args.env.now c.expr.new.found) ≡ v)
    (λ v. assign_place c.args.node (plain_expr c.args.written.now) (plain_expr c.args.value.now) (walk_of c.args.env.now c.args.out.now) ≡ v)
    c.assign_target.result _ (λ v d. rw (aimed, c.in_ok-given.ensures, place_is c.args.written.now, place_is c.args.value.now) d)
    c.assign_target.ensures.checks

pub returns-in-None-clause-checks : goal.returns-in-None-clause-checks
returns-in-None-clause-checks c =
    let aimed : Targeting c.args.env.now (plain_expr c.args.written.now) c.args.out.now (aims None c.read_target.new.found) =
    subst (λ z. Targeting c.args.env.now (plain_expr c.args.written.now) c.args.out.now (aims (option_map plain_target z) c.read_target.new.found))
    c.in-None.is c.in_ok-target.ensures in
    says_all
    (λ v.
    put_in_place c.args.node c.args.written.now.place None (node_at c.args.value.now.place (plain_typed c.in_ok-given.given))
    (value_type c.in_ok-given.given) (walk_of c.args.env.now c.expr.new.found) ≡ v)
    (λ v. assign_place c.args.node (plain_expr c.args.written.now) (plain_expr c.args.value.now) (walk_of c.args.env.now c.args.out.now) ≡ v)
    c.assign_anything.result _ (λ v d. rw (aimed, c.in_ok-given.ensures, place_is c.args.written.now, place_is c.args.value.now) d)
    (c.assign_anything.ensures.checks (walk_of c.args.env.now c.expr.new.found))
