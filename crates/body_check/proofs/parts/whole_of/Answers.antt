use Rattle.std.proofs.Common.{◌≡◌, ◌∙◌, None, sym}
use Rattle.syntax_tree.specs.Plain.{plain_expr}
use Rattle.body_exprs.specs.Answer.{refused}
use Rattle.body_exprs.specs.Env.{part_of}
use Rattle.body_exprs.specs.Typing.{Typing}
use Rattle.body_check.specs.Checking.{cut}
use Rattle.body_check.specs.Walks.{walk_of}
use Rattle.body_check.proofs.Parting.{no_part, part_cut}
use Rattle.body_check.proofs.Passing.{stopped}
use Rattle.body_check.proofs.parts.whole_of.Goals as goal

pub returns-in-Some : goal.returns-in-Some
returns-in-Some c = record {
  cut =
      part_cut (plain_expr c.args.array.now) (walk_of c.args.env.now c.args.out.now) c.in_ok-whole.field-0 c.in-Some.whole c.in_ok-whole.ensures c.in-Some.is;
}

pub returns-in_err-given : goal.returns-in_err-given
returns-in_err-given c = record {
  cut =
      let none : part_of c.args.env.now (plain_expr c.args.array.now) ≡ None = no_part _ (sym c.in_ok-whole.ensures ∙ c.in_default.is) in
      stopped (λ q. Typing c.args.env.now (plain_expr c.args.array.now) c.args.out.now (refused q))
      (λ v. cut (plain_expr c.args.array.now) (walk_of c.args.env.now c.args.out.now) ≡ v)
      c.from_residual-in_err-given.result _ c.in_err-given.field-0.0 c.from_residual-in_err-given.ensures.1 (λ q d. rw (none, d)) c.in_err-given.ensures;
}

pub returns : goal.returns
returns c = record {
  cut =
      let none : part_of c.args.env.now (plain_expr c.args.array.now) ≡ None = no_part _ (sym c.in_ok-whole.ensures ∙ c.in_default.is) in
      rw (none, c.in_ok-given.ensures, c.in_ok-array_whole.ensures);
}
