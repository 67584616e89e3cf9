use Rattle.std.proofs.Common.{◌<◌, ◌∙◌, arith, rules, subst, sym}
use Rattle.code_instrs.specs.Plain.{plain_code}
use Rattle.exec_task.specs.declared.action.Action.TheVariants as action
use Rattle.exec_task.specs.declared.action.Own.TheVariants as own
use Rattle.exec_task.specs.Advances.{step_at, Advances}
use Rattle.exec_task.specs.Halts.{Reaches, Halts, front_of, stands, IsActionOf, IsAsking}
use Rattle.exec_task.specs.StepsLocally.{IsAtOther}
use Rattle.exec_task.proofs.RunningLocally.{reaches_on}
use Rattle.exec_task.proofs.RunningToAction.{next_less, not_stuck, least_after, action_at_front, halts_front, halts_rest, action_at_rest, reaches_next}
use Rattle.exec_task.proofs.run_to_action.run_to_action.Goals as goal
use Rattle.exec_task.proofs.run_to_action.run_to_action.Goals.{After-run_local-in-loop-running}

pub advance-requires-clause-alive : goal.advance-requires-clause-alive
advance-requires-clause-alive c = not_stuck (plain_code c.loop-running.running.code.now) c.loop-running.running.task c.loop-running-test.true c.loop-running.running.ends

pub advance-requires-clause-other : goal.advance-requires-clause-other
advance-requires-clause-other c = c.loop-running.invariant.other c.loop-running-test.true

pub invariant_of-running : goal.invariant_of-running
invariant_of-running c = record {
  ends = least_after (plain_code c.loop-running.running.code.now) c.loop-running.running.task c.advance.new.self c.advance.result c.advance.ensures.ok c.advance.ensures.err
      c.loop-running-test.true c.loop-running.running.ends;
}

pub returns-in-Some-clause-halts : goal.returns-in-Some-clause-halts
returns-in-Some-clause-halts c =
    let o = rw c.in-Some.is at c.in_ok-action.ensures.ok in
    subst (λ k. Halts (plain_code k) c.advance.new.self (front_of (plain_code k) c.advance.new.self)) c.loop-running.invariant.code
    (subst (λ t. Halts (plain_code c.loop-running.running.code.now) t (front_of (plain_code c.loop-running.running.code.now) t)) (sym o.1)
    (halts_front (plain_code c.loop-running.running.code.now) c.loop-running.running.task c.in-Some.action c.loop-running-test.true
    (o.0 c.loop-running.running.task.ticks c.loop-running.running.task.made)))

pub returns-in-Some-clause-is_action : goal.returns-in-Some-clause-is_action
returns-in-Some-clause-is_action c =
    let o = rw c.in-Some.is at c.in_ok-action.ensures.ok in
    subst (λ k. IsActionOf (plain_code k) c.in-Some.action (front_of (plain_code k) c.advance.new.self)) c.loop-running.invariant.code
    (subst (λ t. IsActionOf (plain_code c.loop-running.running.code.now) c.in-Some.action (front_of (plain_code c.loop-running.running.code.now) t)) (sym o.1)
    (action_at_front (plain_code c.loop-running.running.code.now) c.loop-running.running.task c.in-Some.action c.loop-running-test.true
    (o.0 c.loop-running.running.task.ticks c.loop-running.running.task.made)))

pub loop-running-smaller : goal.loop-running-smaller
loop-running-smaller c =
    let o = rw c.in_default.is at c.in_ok-action.ensures.ok in
    let less = next_less (plain_code c.loop-running.running.code.now) c.loop-running.running.task c.advance.new.self c.loop-running-test.true o c.loop-running.running.ends c.running-1.given.0 in
    let near = c.run_local-in-loop-running.ensures.nearer in
    let both : c.run_local-in-loop-running.new.running.ends.0 < c.loop-running.running.ends.0 = omega (arith, less, near) in
    search (rules, both)

-- a step, and the stretch after it
goes_on : (c : After-run_local-in-loop-running) → Reaches (plain_code c.args.running.now.code.now) c.args.running.now.task c.run_local-in-loop-running.new.running.task
goes_on c =
    let o = rw c.in_default.is at c.in_ok-action.ensures.ok in
    let m = rw c.in_default.is at c.in_ok-action.ensures.moved in
    let r = reaches_next (plain_code c.args.running.now.code.now) c.args.running.now.task c.loop-running.running.task c.advance.new.self c.loop-running.invariant.reaches
    c.loop-running-test.true (subst (λ k. Advances (plain_code k) c.loop-running.running.task c.advance.new.self) c.loop-running.invariant.code o)
    c.advance.ensures.number c.advance.ensures.paced
    (subst (λ k. IsAsking (stands c.loop-running.running.task.ticks c.loop-running.running.task.made (step_at (plain_code k) c.loop-running.running.task)) → ⊥)
    c.loop-running.invariant.code m) in
    reaches_on (plain_code c.args.running.now.code.now) c.args.running.now.task c.advance.new.self c.run_local-in-loop-running.new.running.task r
    (subst (λ k. Reaches (plain_code k) c.advance.new.self c.run_local-in-loop-running.new.running.task) c.loop-running.invariant.code c.run_local-in-loop-running.ensures.reaches)

pub loop-running-preserved : goal.loop-running-preserved
loop-running-preserved c = record {
  reaches = goes_on (goal.at.loop-running-preserved c).After-run_local-in-loop-running;
  code = c.run_local-in-loop-running.ensures.code ∙ c.loop-running.invariant.code;
  other = subst (λ k. c.run_local-in-loop-running.new.running.task.ticks < 4096 → IsAtOther (plain_code k) c.run_local-in-loop-running.new.running.task)
      (sym c.run_local-in-loop-running.ensures.code) c.in_ok-run_local-2.ensures.other;
}

pub returns-in_err-run_local-2-clause-reaches : goal.returns-in_err-run_local-2-clause-reaches
returns-in_err-run_local-2-clause-reaches c = goes_on (goal.at.returns-in_err-run_local-2-clause-reaches c).After-run_local-in-loop-running

pub returns-clause-halts : goal.returns-clause-halts
returns-clause-halts c =
    subst (λ k. Halts (plain_code k) c.loop-running.running.task (front_of (plain_code k) c.loop-running.running.task)) c.loop-running.invariant.code
    (halts_rest (plain_code c.loop-running.running.code.now) c.loop-running.running.task c.loop-running-test.false c.loop-running.invariant.reaches.paced.ticks)

pub returns-clause-is_action : goal.returns-clause-is_action
returns-clause-is_action c =
    subst (λ k. IsActionOf (plain_code k) (action.Do own.Rest) (front_of (plain_code k) c.loop-running.running.task)) c.loop-running.invariant.code
    (action_at_rest (plain_code c.loop-running.running.code.now) c.loop-running.running.task c.loop-running-test.false c.loop-running.invariant.reaches.paced.ticks)
