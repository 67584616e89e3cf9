use Rattle.std.proofs.Common.{◌≡◌, true}
use Rattle.std.proofs.lemmas.Result.{on_ok_weaker, IfErr-weaker}
use Rattle.syntax_exprs.specs.Targets.{begins_assignment}
use Rattle.syntax_parse.proofs.Performing.{assigned_completed, assigned_refused}
use Rattle.syntax_parse.proofs.stmts.simple.Goals as goal

pub returns-in_default-2-clause-reads : goal.returns-in_default-2-clause-reads
returns-in_default-2-clause-reads c =
    let is : begins_assignment c.args.cursor.now.rest.now ≡ true = let found = c.assigns.ensures in let yes = c.if-assigns.true in cc in
    on_ok_weaker c.assignment.result (λ w. assigned_completed c.args.cursor.now c.assignment.new.cursor is w) c.assignment.ensures.reads

pub returns-in_default-2-clause-stops : goal.returns-in_default-2-clause-stops
returns-in_default-2-clause-stops c =
    let is : begins_assignment c.args.cursor.now.rest.now ≡ true = let found = c.assigns.ensures in let yes = c.if-assigns.true in cc in
    IfErr-weaker c.assignment.result _ _ (λ stop r. assigned_refused _ c.args.cursor.now.rest.now c.args.cursor.now.end stop is r) c.assignment.ensures.stops
