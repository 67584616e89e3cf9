-- The last of those that are left has its turn.
use Rattle.std.proofs.Common.{reverse}
use Rattle.std.proofs.lemmas.Result.{err_from_is_err_and}
use Rattle.exec_run.proofs.rounds.Turning.{none_turned, one_turned, all_turned, not_turned}
use Rattle.exec_run.proofs.rounds.rounding.turns.Goals as goal

pub loop-task-init : goal.loop-task-init
loop-task-init c = none_turned c.args.machine.now (reverse c.args.tasks)

pub loop-task-preserved : goal.loop-task-preserved
loop-task-preserved c =
    one_turned c.args.machine.now (reverse c.args.tasks) c.loop-task.machine c.loop-task.left c.loop-task.invariant c.pop.new.self c.in-Some.task
    c.turn.new.machine c.in-Some.ensures c.in_ok-turn.ensures.turn

pub returns-clause-turns : goal.returns-clause-turns
returns-clause-turns c =
    all_turned c.args.machine.now (reverse c.args.tasks) c.loop-task.machine c.loop-task.left c.loop-task.invariant c.in_default.ensures.0

pub returns-in_err-turn-clause-why : goal.returns-in_err-turn-clause-why
returns-in_err-turn-clause-why c =
    let q = err_from_is_err_and c.from_residual.result c.from_residual.ensures.1 in
    rw (q.1, q.2)
    (not_turned c.args.machine.now (reverse c.args.tasks) c.loop-task.machine c.loop-task.left c.loop-task.invariant c.pop.new.self c.in-Some.task
    c.turn.new.machine c.in_err-turn.field-0.0 c.in-Some.ensures c.in_err-turn.ensures.err c.in_err-turn.ensures.why)
