use Rattle.std.proofs.Common.{◌≡◌, Option, Some, None, subst}
use Rattle.lang_base.specs.declared.refusal.Refusal.{Refusal}
use Rattle.decl_resolve.specs.Index.{plain_index}
use Rattle.decl_resolve.specs.Scopes.{plain_scope}
use Rattle.body_exprs.specs.Answer.{Says}
use Rattle.body_exprs.proofs.Own.{reported_there, reported_here}
use Rattle.body_exprs.proofs.Passing.{reported_says}
use Rattle.body_exprs.proofs.arrays.read_path.Goals as goal

pub returns-clause-reported : goal.returns-clause-reported
returns-clause-reported c =
    let scope = plain_scope c.scope.result in
    let index = plain_index c.at_suffix-around.result in
    let faults = c.by_kind-faults.result in
    subst (λ (z : Option Refusal). Says c.path.result (λ rpl. None) Some (λ t. z ≡ t))
    (reported_here c.args.env.now scope (plain_index c.args.around) index faults c.args.tree.now c.scope.ensures c.at_suffix-around.ensures c.by_kind-faults.ensures)
    (reported_says (reported_there scope index faults c.args.tree.now) c.path.result c.path.ensures.unreported c.path.ensures.reported)
