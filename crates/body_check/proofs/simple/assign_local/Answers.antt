use Rattle.std.proofs.Common.{◌≡◌, ◌∙◌, Some, None, sym, ap}
use Rattle.std.specs.Option.{option_copied}
use Rattle.lang_base.specs.declared.refusal.Kind.TheVariants as kind
use Rattle.syntax_tree.specs.Plain.{plain_expr}
use Rattle.body_exprs.specs.Answer.{refused}
use Rattle.body_exprs.specs.Env.{local_of}
use Rattle.body_exprs.specs.Typed.{plain_typed}
use Rattle.body_exprs.specs.Typing.{Typing}
use Rattle.body_check.specs.Noting.{fault_of, with_fault}
use Rattle.body_check.specs.Simple.{assign_local}
use Rattle.body_check.specs.Walks.{walk_of}
use Rattle.body_check.specs.Walks.{Verdict as verdict}
use Rattle.body_check.proofs.Making.{made_Store}
use Rattle.body_check.proofs.Nodes.{node_made}
use Rattle.body_check.proofs.Noting.{the_reported}
use Rattle.body_check.proofs.Passing.{judged_so, said_of, stopped}
use Rattle.body_check.proofs.simple.assign_local.Goals as goal

pub returns-in_err-given-clause-checks : goal.returns-in_err-given-clause-checks
returns-in_err-given-clause-checks c =
    stopped (λ q. Typing c.args.env.now (plain_expr c.args.value.now) c.args.out.now (refused q))
    (λ v. assign_local c.args.node c.args.target (plain_expr c.args.value.now) (walk_of c.args.env.now c.args.out.now) ≡ v)
    c.from_residual.result _ c.in_err-given.field-0.0 c.from_residual.ensures.1 (λ q d. rw d) c.in_err-given.ensures

pub returns-in_default-clause-checks : goal.returns-in_default-clause-checks
returns-in_default-clause-checks c =
    let missing : local_of c.args.env.now c.args.target.name ≡ None = sym c.local.ensures ∙ ap option_copied c.in_default.is in
    said_of (λ q. fault_of (with_fault c.args.node kind.Unknown c.args.target.place) ≡ Some q)
    (λ q. assign_local c.args.node c.args.target (plain_expr c.args.value.now) (walk_of c.args.env.now c.args.out.now) ≡ verdict.refused q) c.refused_at.result
    (λ q reported. rw (c.in_ok-given.ensures, missing) (ap verdict.refused (the_reported c.args.node kind.Unknown c.args.target.place q reported)))
    c.refused_at.ensures

pub returns-clause-checks : goal.returns-clause-checks
returns-clause-checks c =
    let found : local_of c.args.env.now c.args.target.name ≡ Some c.in-Some.row.now = sym c.local.ensures ∙ ap option_copied c.in-Some.is in
    judged_so (assign_local c.args.node c.args.target (plain_expr c.args.value.now) (walk_of c.args.env.now c.args.out.now)) _ _ _ c.judge.result _
    (rw (
      c.in_ok-given.ensures,
      found,
      ← c.in_ok-fits.ensures,
      ← c.local_fault.ensures,
      ← c.note_found.ensures,
      made_Store c.args.target.place (record { number = c.in-Some.row.now.slot }) c.into_node.result,
      node_made c.args.value.now c.into_node.result (plain_typed c.in_ok-given.given) c.into_node.ensures,
    ))
    (c.judge.ensures.checks (walk_of c.args.env.now c.expr.new.found))
