use Rattle.std.proofs.lemmas.Bool.{iff_false}
use Rattle.exec_run.specs.history.Replaying.{WhyStopped}
use Rattle.exec_run.proofs.history.Continuing.{handed-on, ends-early, not-some}
use Rattle.exec_run.proofs.history.replaying.replay.Goals as goal

pub returns-in_err-follow-clause-why : goal.returns-in_err-follow-clause-why
returns-in_err-follow-clause-why c =
    let why = WhyStopped c.args.machine.now.code c.args.machine.now.limits c.args.machine.now.argument c.args.schedule.now in
    handed-on c.from_residual.result c.in_err-follow.field-0.0 why c.from_residual.ensures.1 c.in_err-follow.ensures.why

pub returns-else-finished-clause-why : goal.returns-else-finished-clause-why
returns-else-finished-clause-why c =
    ends-early c.args.machine.now.code c.args.machine.now.limits c.args.machine.now.argument c.args.schedule.now c.follow.new.machine c.in_ok-follow.ensures.made
    (not-some c.follow.new.machine.outcome (iff_false c.finished.ensures c.if-finished.false))
