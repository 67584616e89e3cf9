-- The greatest of those that are lacking comes next.
use Rattle.std.proofs.Common.{ℕ, List, MatchOption, reverse, subst, sym, ◌∙◌}
use Rattle.exec_machine.specs.Keeping.{Played}
use Rattle.exec_world.specs.Ready.{NoneReadyBelow, IsGreatestBelow}
use Rattle.exec_run.proofs.rounds.Collecting.{Collected, none_yet, pushed}
use Rattle.exec_run.proofs.rounds.ready.ready_tasks.Goals as goal

pub loop-next-init : goal.loop-next-init
loop-next-init c = record {
  same = c.next_ready-next.ensures.same;
  collected =
      subst (λ (tasks : List ℕ). Collected c.args.machine.now.world c.next_ready-next.result (reverse tasks)) (sym c.new-tasks.ensures)
      (none_yet c.args.machine.now.world c.next_ready-next.result c.next_ready-next.ensures.next);
}

pub loop-next-preserved : goal.loop-next-preserved
loop-next-preserved c = record {
  same = c.ready_below-next.ensures.same ∙ c.loop-next.invariant.same;
  collected =
      pushed c.args.machine.now.world c.in-Some.task c.loop-next.tasks c.push.new.self c.ready_below-next.result
      (subst (λ o. Collected c.args.machine.now.world o (reverse c.loop-next.tasks)) c.in-Some.is c.loop-next.invariant.collected) c.in_ok-push.ensures.ok
      (subst (λ (m : Played). MatchOption c.ready_below-next.result (NoneReadyBelow m.world c.in-Some.task) (IsGreatestBelow m.world c.in-Some.task))
      c.loop-next.invariant.same c.ready_below-next.ensures.next);
}
