use Rattle.std.proofs.Common.{◌≤◌, refl, suc, map, arith, Ok, Err, Some, None}
use Rattle.std.proofs.lemmas.Result.{err_from_is_err_and}
use Rattle.lang_typed.specs.Plain.{plain_program}
use Rattle.exec_walker.specs.States.{plain_level, plain_waiting}
use Rattle.exec_walker.specs.Work.{work_left}
use Rattle.exec_walker.proofs.Lessening.{less_work, no_less, step_less}
use Rattle.exec_walker.proofs.Walking.{stands_is, walks_more}
use Rattle.exec_walker.proofs.walker.Walker.to_next_cost.Goals as goal

pub loop-over-init : goal.loop-over-init
loop-over-init c = record { same = refl; walks = λ L w h. (0, (refl, refl, h)) }

pub returns-in_err-over-clause-walks : goal.returns-in_err-over-clause-walks
returns-in_err-over-clause-walks c = λ L w h.
    let before = c.loop-over.invariant.walks L w h in
    let out = err_from_is_err_and c.from_residual.result c.from_residual.ensures.1 in
    rw (out.1, out.2) (
      suc before.0,
      walks_more (plain_program c.args.program.now) L (Err c.in_err-over.field-0.0) c.loop-over.self c.step.new.self before.0 _ before.1
          (λ v x. c.in_err-over.ensures L v x),
    )

pub returns-in-Some-clause-walks : goal.returns-in-Some-clause-walks
returns-in-Some-clause-walks c = λ L w h.
    let before = c.loop-over.invariant.walks L w h in (
      suc before.0,
      walks_more (plain_program c.args.program.now) L (Ok (Some c.in-Some.over)) c.loop-over.self c.step.new.self before.0 _ before.1
          (λ v x. rw c.in-Some.is at (c.in_ok-over.ensures L v x)),
    )

pub returns-then-self-before-clause-walks : goal.returns-then-self-before-clause-walks
returns-then-self-before-clause-walks c = λ L w h.
    let before = c.loop-over.invariant.walks L w h in (
      suc before.0,
      walks_more (plain_program c.args.program.now) L (Ok None) c.loop-over.self c.step.new.self before.0 _ before.1
          (λ v x. rw c.in_default.is at (c.in_ok-over.ensures L v x)),
    )

pub loop-over-smaller : goal.loop-over-smaller
loop-over-smaller c =
    let P = plain_program c.args.program.now in
    let k = c.loop-over.self in
    let j = c.step.new.self in
    let L = c.requires.0 in
    let before = c.loop-over.invariant.walks L c.requires.1 c.requires.2 in
    let at = stands_is L k _ before.1 in
    let came = rw c.in_default.is at (c.in_ok-over.ensures L at.0 at.2) in
    let steps = at.2.steps in
    let same = c.loop-over.invariant.same in
    let few : j.store.steps ≤ at.0.steps = omega (arith, steps, same, c.if-self-before.false) in
    less_work L j _ (work_left k) at.0 came (step_less P (plain_level k.level) (map plain_waiting k.waiting) at.0) few

pub loop-over-preserved : goal.loop-over-preserved
loop-over-preserved c =
    let P = plain_program c.args.program.now in
    let k = c.loop-over.self in
    let j = c.step.new.self in
    let L = c.requires.0 in
    let before = c.loop-over.invariant.walks L c.requires.1 c.requires.2 in
    let at = stands_is L k _ before.1 in
    let came = rw c.in_default.is at (c.in_ok-over.ensures L at.0 at.2) in
    let steps = at.2.steps in
    let same = c.loop-over.invariant.same in
    let more = no_less L j _ (work_left k) at.0 came (step_less P (plain_level k.level) (map plain_waiting k.waiting) at.0) in
    record {
      same = omega (arith, steps, same, more, c.if-self-before.false);
      walks = λ L w h.
          let before = c.loop-over.invariant.walks L w h in
          (suc before.0, walks_more P L (Ok None) k j before.0 _ before.1 (λ v x. rw c.in_default.is at (c.in_ok-over.ensures L v x)));
    }
