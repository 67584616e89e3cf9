use Rattle.std.proofs.Common.{◌≡◌, Ok, Err, option_map}
use Rattle.syntax_tree.specs.Plain.{expression, field, plain_expr}
use Rattle.body_exprs.specs.Targeting.{plain_target, aims, misses, aimed, field_target, Targeting}
use Rattle.body_exprs.specs.Typed.{plain_typed}
use Rattle.body_exprs.proofs.Constructs.{Refuses}
use Rattle.body_exprs.proofs.Passing.{says_to, passed_on, refuses}
use Rattle.body_exprs.proofs.assigned.field_target.Goals as goal

pub returns-in-Some : goal.returns-in-Some
returns-in-Some c =
    refuses (Targeting c.args.env.now (expression c.args.place (field (plain_expr c.args.of.now) c.args.name)) c.args.found.now)
    (λ t. aims (option_map plain_target t) c.args.found.now) misses c.refused.result _ c.refused.ensures
    (rw (← c.in-Some.ensures))

pub returns-in_err-of-in-None : goal.returns-in_err-of-in-None
returns-in_err-of-in-None c =
    passed_on (Refuses c.args.env.now c.args.of.now c.args.found.now)
    (Targeting c.args.env.now (expression c.args.place (field (plain_expr c.args.of.now) c.args.name)) c.args.found.now)
    (λ t. aims (option_map plain_target t) c.expr.new.found) misses c.from_residual.result c.in_err-of-in-None.field-0.0 c.from_residual.ensures.1
    (λ q d. rw (← c.in-None.ensures, d))
    c.in_err-of-in-None.ensures

pub returns-in_ok-of-in-None : goal.returns-in_ok-of-in-None
returns-in_ok-of-in-None c =
    says_to (λ r. field_target c.args.env.now (plain_typed c.in_ok-of-in-None.of) c.args.name c.args.place ≡ r)
    (Targeting c.args.env.now (expression c.args.place (field (plain_expr c.args.of.now) c.args.name)) c.args.found.now)
    (λ r. aimed r c.expr.new.found) (λ t. Ok (option_map plain_target t)) Err c.through.result
    (λ r d. rw (← c.in-None.ensures, c.in_ok-of-in-None.ensures, d))
    c.through.ensures
