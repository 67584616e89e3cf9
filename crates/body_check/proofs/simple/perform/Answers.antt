use Rattle.std.proofs.Common.{◌≡◌}
use Rattle.syntax_tree.specs.Plain.{plain_expr}
use Rattle.body_exprs.specs.Answer.{refused}
use Rattle.body_exprs.specs.Typed.{plain_typed}
use Rattle.body_exprs.specs.Typing.{Typing}
use Rattle.body_check.specs.Simple.{perform}
use Rattle.body_check.specs.Walks.{walk_of}
use Rattle.body_check.proofs.Making.{made_Perform}
use Rattle.body_check.proofs.Nodes.{node_made}
use Rattle.body_check.proofs.Passing.{judged_so, stopped}
use Rattle.body_check.proofs.simple.perform.Goals as goal

pub returns-in_err-given-clause-checks : goal.returns-in_err-given-clause-checks
returns-in_err-given-clause-checks c =
    stopped (λ q. Typing c.args.env.now (plain_expr c.args.e.now) c.args.out.now (refused q))
    (λ v. perform c.args.node (plain_expr c.args.e.now) (walk_of c.args.env.now c.args.out.now) ≡ v)
    c.from_residual.result _ c.in_err-given.field-0.0 c.from_residual.ensures.1 (λ q d. rw d) c.in_err-given.ensures

pub returns-clause-checks : goal.returns-clause-checks
returns-clause-checks c =
    judged_so (perform c.args.node (plain_expr c.args.e.now) (walk_of c.args.env.now c.args.out.now)) _ _ _ c.judge.result _
    (rw (
      c.in_ok-given.ensures,
      made_Perform c.args.node.place c.into_node.result,
      node_made c.args.e.now c.into_node.result (plain_typed c.in_ok-given.given) c.into_node.ensures,
    ))
    (c.judge.ensures.checks (walk_of c.args.env.now c.expr.new.found))
