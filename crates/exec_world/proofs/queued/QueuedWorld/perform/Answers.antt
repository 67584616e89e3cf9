-- Each task has a place after the event, since what may become ready by it was put into the run queue.
use Rattle.std.proofs.Common.{sym, subst, ◌∙◌}
use Rattle.exec_world.specs.Queues.{AllHavePlaces}
use Rattle.exec_world.specs.World.{Fits, world_after}
use Rattle.exec_world.specs.declared.world.World.{World}
use Rattle.exec_world.proofs.Places.{all_kept, acted_places, ended, forgotten, on_ok}
use Rattle.exec_world.proofs.queued.QueuedWorld.perform.Goals as goal

pub invariant_of-self : goal.invariant_of-self
invariant_of-self c = all_kept c.self.inside.world c.self.inside.queues c.admit.new.self c.admit.ensures.kept c.self.invariant

pub invariant_of-self-in_err-answer : goal.invariant_of-self-in_err-answer
invariant_of-self-in_err-answer c =
    subst (λ (w : World). AllHavePlaces w c.admit.new.self) (sym c.in_err-answer.ensures.err)
    (all_kept c.self.inside.world c.self.inside.queues c.admit.new.self c.admit.ensures.kept c.self.invariant)

pub invariant_of-self-then-ends : goal.invariant_of-self-then-ends
invariant_of-self-then-ends c =
    subst (λ (w : World). AllHavePlaces w c.forget.new.self) (sym c.in_ok-answer.ensures.after)
    (λ q. forgotten (world_after c.args.code.now c.self.inside.world c.args.event).tree (world_after c.args.code.now c.self.inside.world c.args.event).locks
    (world_after c.args.code.now c.self.inside.world c.args.event).waits c.admit.new.self c.forget.new.self q c.args.event.task c.forget.ensures
    (ended c.args.code.now c.self.inside.world c.args.event.task c.args.event.wants c.args.event.action (sym c.if-ends.ensures))
    (acted_places c.args.code.now c.self.inside.world c.self.inside.queues c.admit.new.self c.args.event
    (subst (λ (w : World). Fits w c.args.event) (sym c.self.view_is) c.requires) c.admit.ensures.kept
    (on_ok c.admit.result _ (sym c.is_err.ensures.value ∙ c.if-is_err.false) c.admit.ensures.admitted) c.self.invariant q))

pub invariant_of-self-else-ends : goal.invariant_of-self-else-ends
invariant_of-self-else-ends c =
    subst (λ (w : World). AllHavePlaces w c.admit.new.self) (sym c.in_ok-answer.ensures.after)
    (acted_places c.args.code.now c.self.inside.world c.self.inside.queues c.admit.new.self c.args.event
    (subst (λ (w : World). Fits w c.args.event) (sym c.self.view_is) c.requires) c.admit.ensures.kept
    (on_ok c.admit.result _ (sym c.is_err.ensures.value ∙ c.if-is_err.false) c.admit.ensures.admitted) c.self.invariant)
