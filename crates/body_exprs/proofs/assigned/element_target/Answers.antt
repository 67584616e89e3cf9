use Rattle.std.proofs.Common.{◌≡◌, Ok, Err, option_map}
use Rattle.syntax_tree.specs.Plain.{expression, element, plain_expr}
use Rattle.body_exprs.specs.Targeting.{plain_target, aims, misses, aimed, element_target, part_target, Targeting}
use Rattle.body_exprs.specs.Typed.{plain_typed}
use Rattle.body_exprs.proofs.Constructs.{Refuses}
use Rattle.body_exprs.proofs.Passing.{says_to, passed_on}
use Rattle.body_exprs.proofs.assigned.element_target.Goals as goal

pub returns-in_err-at-in-Some : goal.returns-in_err-at-in-Some
returns-in_err-at-in-Some c =
    passed_on (Refuses c.args.env.now c.args.index.now c.args.found.now)
    (Targeting c.args.env.now (expression c.args.place (element (plain_expr c.args.array.now) (plain_expr c.args.index.now))) c.args.found.now)
    (λ t. aims (option_map plain_target t) c.expr.new.found) misses c.from_residual.result c.in_err-at-in-Some.field-0.0 c.from_residual.ensures.1
    (λ q d. rw (← c.in-Some.ensures, d))
    c.in_err-at-in-Some.ensures

pub returns-in_err-array-in-None : goal.returns-in_err-array-in-None
returns-in_err-array-in-None c =
    passed_on (Refuses c.args.env.now c.args.array.now c.args.found.now)
    (Targeting c.args.env.now (expression c.args.place (element (plain_expr c.args.array.now) (plain_expr c.args.index.now))) c.args.found.now)
    (λ t. aims (option_map plain_target t) c.expr-in-None.new.found) misses
    c.from_residual-in_err-array-in-None.result c.in_err-array-in-None.field-0.0 c.from_residual-in_err-array-in-None.ensures.1
    (λ q d. rw (← c.in-None.ensures, d))
    c.in_err-array-in-None.ensures

pub returns-in_err-at-in-None : goal.returns-in_err-at-in-None
returns-in_err-at-in-None c =
    passed_on (Refuses c.args.env.now c.args.index.now c.expr-in-None.new.found)
    (Targeting c.args.env.now (expression c.args.place (element (plain_expr c.args.array.now) (plain_expr c.args.index.now))) c.args.found.now)
    (λ t. aims (option_map plain_target t) c.expr-in-None-2.new.found) misses
    c.from_residual-in_err-at-in-None.result c.in_err-at-in-None.field-0.0 c.from_residual-in_err-at-in-None.ensures.1
    (λ q d. rw (← c.in-None.ensures, c.in_ok-array-in-None.ensures, d))
    c.in_err-at-in-None.ensures

pub returns-in_ok-at-in-Some : goal.returns-in_ok-at-in-Some
returns-in_ok-at-in-Some c =
    says_to (λ r. part_target c.in-Some.row.now (plain_typed c.in_ok-at-in-Some.at) c.args.place ≡ r)
    (Targeting c.args.env.now (expression c.args.place (element (plain_expr c.args.array.now) (plain_expr c.args.index.now))) c.args.found.now)
    (λ r. aimed r c.expr.new.found) (λ t. Ok (option_map plain_target t)) Err c.in_part.result
    (λ r d. rw (← c.in-Some.ensures, c.in_ok-at-in-Some.ensures, d))
    c.in_part.ensures

pub returns-in_ok-at-in-None : goal.returns-in_ok-at-in-None
returns-in_ok-at-in-None c =
    says_to (λ r. element_target c.args.env.now (plain_typed c.in_ok-array-in-None.array) (plain_expr c.args.index.now) (plain_typed c.in_ok-at-in-None.at) c.args.place ≡ r)
    (Targeting c.args.env.now (expression c.args.place (element (plain_expr c.args.array.now) (plain_expr c.args.index.now))) c.args.found.now)
    (λ r. aimed r c.expr-in-None-2.new.found) (λ t. Ok (option_map plain_target t)) Err c.in_array.result
    (λ r d. rw (← c.in-None.ensures, c.in_ok-array-in-None.ensures, c.in_ok-at-in-None.ensures, d))
    c.in_array.ensures
