use Rattle.std.proofs.Common.{◌≡◌, Some}
use Rattle.syntax_tree.specs.Plain.{plain_expr}
use Rattle.body_exprs.specs.Answer.{refused}
use Rattle.body_exprs.specs.Typed.{plain_typed}
use Rattle.body_exprs.specs.Typing.{Typing}
use Rattle.body_check.specs.Simple.{declare, declared_reported}
use Rattle.body_check.specs.Walks.{walk_of}
use Rattle.body_check.proofs.Making.{made_Declare}
use Rattle.body_check.proofs.Nodes.{node_made}
use Rattle.body_check.proofs.Passing.{anyhow, judged_so, stopped}
use Rattle.body_check.proofs.Types.{came_back}
use Rattle.body_check.proofs.simple.declare.Goals as goal

pub returns-in_err-declared-clause-checks : goal.returns-in_err-declared-clause-checks
returns-in_err-declared-clause-checks c =
    stopped (λ q. declared_reported c.args.env.now c.args.tree.now ≡ Some q)
    (λ v. declare c.args.node c.args.is_final c.args.tree.now c.args.name (plain_expr c.args.value.now) (walk_of c.args.env.now c.args.out.now) ≡ v)
    c.from_residual.result _ c.in_err-declared.field-0.0 c.from_residual.ensures.1 (λ q d. rw d) c.in_err-declared.ensures.reported

pub returns-in_err-given-clause-checks : goal.returns-in_err-given-clause-checks
returns-in_err-given-clause-checks c =
    stopped (λ q. Typing c.args.env.now (plain_expr c.args.value.now) c.args.out.now (refused q))
    (λ v. declare c.args.node c.args.is_final c.args.tree.now c.args.name (plain_expr c.args.value.now) (walk_of c.args.env.now c.args.out.now) ≡ v)
    c.from_residual-in_err-given.result _ c.in_err-given.field-0.0 c.from_residual-in_err-given.ensures.1
    (λ q d. rw (c.in_ok-declared.ensures.unreported, d)) c.in_err-given.ensures

pub returns-clause-checks : goal.returns-clause-checks
returns-clause-checks c =
    judged_so (declare c.args.node c.args.is_final c.args.tree.now c.args.name (plain_expr c.args.value.now) (walk_of c.args.env.now c.args.out.now)) _ _ _ c.judge.result _
    (rw (
      c.in_ok-declared.ensures.unreported,
      c.in_ok-given.ensures,
      ← c.in_ok-declared.ensures.ty,
      ← c.in_ok-fit.ensures,
      ← c.note_declaration.ensures.node,
      ← c.note_if.ensures.node,
      came_back c.in_ok-declared.declared,
      made_Declare c.args.node.place (record { number = c.slots-slot.result }) c.in_ok-declared.declared c.args.is_final c.into_node.result,
      node_made c.args.value.now c.into_node.result (plain_typed c.in_ok-given.given) c.into_node.ensures,
      c.slots-slot.ensures,
      c.in_ok-declare.ensures.whole,
      c.in_ok-ty.ensures,
    ))
    (c.judge.ensures.checks (walk_of c.declare.new.self c.expr.new.found))

pub returns-clause-home : goal.returns-clause-home
returns-clause-home c = anyhow c.judge.result c.in_ok-declare.ensures.home
