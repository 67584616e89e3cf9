-- Event by event.
use Rattle.std.proofs.Common.{arith, subst, sym}
use Rattle.exec_run.specs.desk.Bursts.{GoesOnBy, further}
use Rattle.exec_run.proofs.desk.Bursts.{first}
use Rattle.exec_run.proofs.desk.burst.make_burst.Goals as goal

pub loop-events-init : goal.loop-events-init
loop-events-init c = (omega (arith), first c.args.machine.now c.args.task c.step.new.self c.in_ok-step.ensures.stepped)

pub returns-in-Some-clause-ok : goal.returns-in-Some-clause-ok
returns-in-Some-clause-ok c =
    let same = c.in-Some.ensures in
    record {
      some = c.loop-events.invariant.0;
      most = omega (arith, c.loop-events-test.true);
      goes_on = subst (λ now. GoesOnBy c.args.machine.now c.args.task c.loop-events.events now) (sym same.0) c.loop-events.invariant.1;
      why = same.1 c.loop-events.events;
    }

pub loop-events-preserved : goal.loop-events-preserved
loop-events-preserved c =
    (omega (arith), further c.loop-events.events c.loop-events.machine c.one_more.new.machine c.loop-events.invariant.1 c.in_default.ensures)
