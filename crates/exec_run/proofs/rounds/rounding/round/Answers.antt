-- A round is the turns of the ready tasks.
use Rattle.std.proofs.Common.{length, reverse, arith, subst, ap, ◌∙◌}
use Rattle.std.proofs.lemmas.Result.{err_from_is_err_and}
use Rattle.exec_run.specs.rounds.Rounds.{at_once, HadTurns, TurnsBreakOff}
use Rattle.exec_run.proofs.rounds.Turning.{turns_grow}
use Rattle.exec_run.proofs.rounds.Whole.{round_made, round_broken, idle}
use Rattle.exec_run.proofs.rounds.rounding.round.Goals as goal

pub returns-in_err-tasks-clause-why : goal.returns-in_err-tasks-clause-why
returns-in_err-tasks-clause-why g c =
    let q = err_from_is_err_and c.from_residual.result c.from_residual.ensures.1 in
    rw (q.1, q.2, c.in_err-tasks.ensures.same) at_once

pub returns-in_err-turns-clause-why : goal.returns-in_err-turns-clause-why
returns-in_err-turns-clause-why g c =
    let q = err_from_is_err_and c.from_residual-in_err-turns.result c.from_residual-in_err-turns.ensures.1 in
    let h = c.in_err-turns.field-0.0 in
    rw (q.1, q.2)
    (round_broken c.args.machine.now c.turns.new.machine (reverse c.in_ok-tasks.tasks) c.in_ok-tasks.ensures.ready h
    (subst (λ p. TurnsBreakOff p (reverse c.in_ok-tasks.tasks) c.turns.new.machine h) (c.prepare.ensures ∙ c.in_ok-tasks.ensures.same) c.in_err-turns.ensures.why))

pub overflow_sub-result : goal.overflow_sub-result
overflow_sub-result g c =
    let turns = subst (λ p. HadTurns p (reverse c.in_ok-tasks.tasks) c.turns.new.machine) (c.prepare.ensures ∙ c.in_ok-tasks.ensures.same) c.in_ok-turns.ensures.turns in
    let grown = turns_grow c.args.machine.now c.turns.new.machine (reverse c.in_ok-tasks.tasks) turns in
    omega (arith, grown, ap length c.schedule.ensures.schedule, ap length c.schedule-2.ensures.schedule)

pub returns-clause-round : goal.returns-clause-round
returns-clause-round g c =
    round_made c.args.machine.now c.turns.new.machine (reverse c.in_ok-tasks.tasks) c.in_ok-tasks.ensures.ready c.requires.unfinished
    (subst (λ p. HadTurns p (reverse c.in_ok-tasks.tasks) c.turns.new.machine) (c.prepare.ensures ∙ c.in_ok-tasks.ensures.same) c.in_ok-turns.ensures.turns)

pub returns-clause-length : goal.returns-clause-length
returns-clause-length g c =
    let turns = subst (λ p. HadTurns p (reverse c.in_ok-tasks.tasks) c.turns.new.machine) (c.prepare.ensures ∙ c.in_ok-tasks.ensures.same) c.in_ok-turns.ensures.turns in
    let grown = turns_grow c.args.machine.now c.turns.new.machine (reverse c.in_ok-tasks.tasks) turns in
    omega (arith, grown, ap length c.schedule.ensures.schedule, ap length c.schedule-2.ensures.schedule)

pub returns-clause-idle : goal.returns-clause-idle
returns-clause-idle g c =
    let turns = subst (λ p. HadTurns p (reverse c.in_ok-tasks.tasks) c.turns.new.machine) (c.prepare.ensures ∙ c.in_ok-tasks.ensures.same) c.in_ok-turns.ensures.turns in
    let grown = turns_grow c.args.machine.now c.turns.new.machine (reverse c.in_ok-tasks.tasks) turns in
    let round = round_made c.args.machine.now c.turns.new.machine (reverse c.in_ok-tasks.tasks) c.in_ok-tasks.ensures.ready c.requires.unfinished turns in
    idle c.args.machine.now c.turns.new.machine _ round
    (omega (arith, grown, ap length c.schedule.ensures.schedule, ap length c.schedule-2.ensures.schedule))
