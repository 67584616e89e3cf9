use Rattle.std.proofs.Common.{refl}
use Rattle.exec_run.specs.history.Replaying.{WhyStopped}
use Rattle.exec_run.proofs.history.Continuing.{made-next, stopped-here, handed-on}
use Rattle.exec_run.proofs.history.replaying.follow.Goals as goal

pub returns-in_err-make-clause-why : goal.returns-in_err-make-clause-why
returns-in_err-make-clause-why c =
    let why = WhyStopped c.args.machine.now.code c.args.machine.now.limits c.args.machine.now.argument c.args.schedule.now in
    handed-on c.from_residual.result c.in_err-make.field-0.0 why c.from_residual.ensures.1
    (stopped-here c.args.machine.now.code c.args.machine.now.limits c.args.machine.now.argument c.args.schedule.now c.loop-at.at _ c.loop-at.machine
    c.in_err-make.field-0.0 c.loop-at.invariant c.loop-at-test.true refl c.in_err-make.ensures.why)

pub loop-at-preserved : goal.loop-at-preserved
loop-at-preserved c =
    made-next c.args.machine.now.code c.args.machine.now.limits c.args.machine.now.argument c.args.schedule.now c.loop-at.at _ c.loop-at.machine c.make.new.machine
    c.loop-at.invariant c.loop-at-test.true refl c.in_ok-make.ensures.made
