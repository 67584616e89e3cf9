-- The last of the run queue below a bound that is ready.
use Rattle.std.proofs.Common.{arith, refl}
use Rattle.exec_world.proofs.Places.{all_kept, run_again}
use Rattle.exec_world.proofs.Freely.{passed, none_left, greatest_is}
use Rattle.exec_world.proofs.queues.Queues.ready_below.Goals as goal

pub is_ready-requires : goal.is_ready-requires
is_ready-requires c =
    all_kept c.args.world.now c.loop-task.self _ (run_again c.loop-task.self _ c.last_below.ensures.same refl) c.loop-task.invariant.places

pub loop-task-preserved : goal.loop-task-preserved
loop-task-preserved c = record {
  places = c.is_ready.ensures.places;
  within = omega (arith, c.in-Some.ensures.last.below, c.loop-task.invariant.within);
  none =
      passed c.args.world.now c.loop-task.self c.args.bound c.loop-task.rest c.in-Some.task c.loop-task.invariant.places c.in-Some.ensures.last
      (c.is_ready.ensures.no c.if-is_ready.false) c.loop-task.invariant.none;
}

pub returns-then-is_ready-clause-next : goal.returns-then-is_ready-clause-next
returns-then-is_ready-clause-next c =
    greatest_is c.args.world.now c.loop-task.self c.args.bound c.loop-task.rest c.in-Some.task c.loop-task.invariant.within c.loop-task.invariant.places
    c.in-Some.ensures.last (c.is_ready.ensures.yes c.if-is_ready.true) c.loop-task.invariant.none

pub returns-clause-next : goal.returns-clause-next
returns-clause-next c =
    none_left c.args.world.now c.loop-task.self c.args.bound c.loop-task.rest c.loop-task.invariant.places c.in_default.ensures.last c.loop-task.invariant.none

pub returns-clause-places : goal.returns-clause-places
returns-clause-places c =
    all_kept c.args.world.now c.loop-task.self _ (run_again c.loop-task.self _ c.last_below.ensures.same refl) c.loop-task.invariant.places
