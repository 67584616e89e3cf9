use Rattle.std.proofs.Common.{refl}
use Rattle.exec_run.specs.history.Replaying.{WhyStopped}
use Rattle.exec_run.proofs.history.Continuing.{made-next, stopped-here, handed-on}
use Rattle.exec_run.proofs.history.showing.follow.Goals as goal

pub returns-in_err-at_work-clause-why : goal.returns-in_err-at_work-clause-why
returns-in_err-at_work-clause-why c =
    let first = c.args.machine.played in
    let why = WhyStopped first.code first.limits first.argument c.args.schedule.now in
    handed-on c.from_residual.result c.in_err-at_work.field-0.0 why c.from_residual.ensures.1
    (stopped-here first.code first.limits first.argument c.args.schedule.now c.loop-at.at _ c.loop-at.at_work.played
    c.in_err-at_work.field-0.0 c.loop-at.invariant c.loop-at-test.true refl c.in_err-at_work.ensures.why)

pub loop-at-preserved : goal.loop-at-preserved
loop-at-preserved c =
    let first = c.args.machine.played in
    made-next first.code first.limits first.argument c.args.schedule.now c.loop-at.at _ c.loop-at.at_work.played c.in_ok-at_work.at_work.played
    c.loop-at.invariant c.loop-at-test.true refl c.in_ok-at_work.ensures.made
