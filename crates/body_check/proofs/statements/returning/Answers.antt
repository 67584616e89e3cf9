use Rattle.std.proofs.Common.{◌≡◌, sym, subst}
use Rattle.std.specs.Option.{option_copied}
use Rattle.syntax_tree.specs.Plain.{return_form}
use Rattle.body_exprs.specs.Answer.{Says}
use Rattle.lang_typed.specs.Plain.{plain_stmt as typed_stmt}
use Rattle.body_check.specs.Checking.{check_form}
use Rattle.body_check.specs.Walks.{walk_of, passes, refused}
use Rattle.body_check.proofs.statements.returning.Goals as goal

pub returns-in-None-clause-checks : goal.returns-in-None-clause-checks
returns-in-None-clause-checks c params =
    subst
    (λ o. Says c.leave.result (λ made. passes (typed_stmt made.stmt) (walk_of c.args.env.now c.args.out.now)) refused
    (λ v. check_form params c.args.around c.args.node (return_form (option_copied o)) (walk_of c.args.env.now c.args.out.now) ≡ v))
    (sym c.in-None.is) (c.leave.ensures.checks c.args.out.now)

pub returns-in-Some-clause-checks : goal.returns-in-Some-clause-checks
returns-in-Some-clause-checks c params =
    subst
    (λ o. Says c.leave_with.result (λ made. passes (typed_stmt made.stmt) (walk_of c.args.env.now c.leave_with.new.out)) refused
    (λ v. check_form params c.args.around c.args.node (return_form (option_copied o)) (walk_of c.args.env.now c.args.out.now) ≡ v))
    (sym c.in-Some.is) c.leave_with.ensures.checks
