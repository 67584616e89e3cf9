use Rattle.std.proofs.Common.{◌∙◌, ap, subst, arith, Err, w32}
use Rattle.std.proofs.lemmas.Int.{to_z-of_z}
use Rattle.std.proofs.lemmas.Result.{err_from_is_err_and}
use Rattle.lang_typed.specs.Plain.{plain_program}
use Rattle.lang_meaning.specs.Elision.{elided}
use Rattle.exec_walker.specs.Outcome.{Walked}
use Rattle.exec_walker.proofs.Starting.{reached_first, reached_next, limited_first, limited_next, over_next}
use Rattle.exec_walker.proofs.whole.walked.Goals as goal
use Rattle.lang_meaning.specs.Reported.{reported}

pub returns-in_err-walker : goal.returns-in_err-walker
returns-in_err-walker c =
    let P = plain_program c.args.program.now in
    let L = c.args.limits in
    let out = err_from_is_err_and c.from_residual.result c.from_residual.ensures.1 in
    rw (out.1, out.2) (limited_first P c.args.argument L c.law_walk.ensures.ends c.law_walk.ensures.limited c.in_err-walker.field-0.0 c.in_err-walker.ensures)

pub loop-walker-init : goal.loop-walker-init
loop-walker-init c = reached_first (plain_program c.args.program.now) _ c.args.limits c.in_ok-walker.walker c.in_ok-walker.ensures

pub to_next_cost-requires : goal.to_next_cost-requires
to_next_cost-requires c = (c.args.limits, c.loop-walker.invariant.1, c.loop-walker.invariant.3)

pub returns-in_err-over : goal.returns-in_err-over
returns-in_err-over c =
    let P = plain_program c.args.program.now in
    let L = c.args.limits in
    let x = c.in_err-over.field-0.0 in
    let same = to_z-of_z w32 c.args.argument c.ranges.argument in
    let out = err_from_is_err_and c.from_residual-in_err-over.result c.from_residual-in_err-over.ensures.1 in
    rw (out.1, out.2) (subst (λ a. Walked P a L (Err x)) same
    (limited_next P _ L c.law_walk.ensures.ends c.law_walk.ensures.limited x c.loop-walker.walker c.to_next_cost.new.self c.loop-walker.invariant c.in_err-over.ensures.walks))

pub returns-in-Some : goal.returns-in-Some
returns-in-Some c =
    let P = plain_program c.args.program.now in
    let L = c.args.limits in
    let same = to_z-of_z w32 c.args.argument c.ranges.argument in
    c.outcome.ensures
    ∙ over_next P _ L c.law_walk.ensures.ends c.in-Some.over c.loop-walker.walker c.to_next_cost.new.self c.loop-walker.invariant
    (rw c.in-Some.is at c.in_ok-over.ensures.walks) c.to_next_cost.new.self.store.within
    ∙ ap (λ a. reported (elided P a L)) same

pub loop-walker-smaller : goal.loop-walker-smaller
loop-walker-smaller c =
    let P = plain_program c.args.program.now in
    let costs = rw c.in_default.is at c.in_ok-over.ensures.costs in
    let old = c.loop-walker.invariant.3.steps_limit in
    let new = reached_next P _ c.args.limits c.loop-walker.walker c.to_next_cost.new.self c.loop-walker.invariant (rw c.in_default.is at c.in_ok-over.ensures.walks) in
    let limit = new.3.steps_limit in
    omega (arith, costs, old, limit, c.to_next_cost.new.self.store.within)

pub loop-walker-preserved : goal.loop-walker-preserved
loop-walker-preserved c =
    reached_next (plain_program c.args.program.now) _ c.args.limits c.loop-walker.walker c.to_next_cost.new.self c.loop-walker.invariant
    (rw c.in_default.is at c.in_ok-over.ensures.walks)
