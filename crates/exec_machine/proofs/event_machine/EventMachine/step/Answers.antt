-- A machine makes a step, and keeps its event.
use mir.Val.{SFits}
use Rattle.std.proofs.Common.{rules, ap, sym, subst, ◌∙◌}
use Rattle.std.proofs.lemmas.Int.{to_z-of_z}
use Rattle.std.proofs.lemmas.Result.{err_from_is_err_and}
use Rattle.std.specs.Int.{w32}
use Rattle.exec_world.specs.Ready.{IsReady}
use Rattle.exec_machine.specs.Keeping.{IsAfter, WhyHaltedAt}
use Rattle.exec_machine.specs.MadeEvents.{PlayedEvents, PlaysEvents}
use Rattle.exec_machine.proofs.Playing.{played}
use Rattle.exec_machine.proofs.MadeEvents.{can_make, plays_on, after_step, why_none}
use Rattle.exec_machine.proofs.event_machine.EventMachine.step.Goals as goal

pub step_with_event-requires-clause-can : goal.step_with_event-requires-clause-can
step_with_event-requires-clause-can c =
    let p = c.self.invariant in
    let can = can_make c.self.inside.code c.self.inside.limits c.self.inside.argument c.self.inside.run c.self.inside.made p c.args.task
    (ap (λ (t : PlayedEvents). t.played.outcome) c.self.view_is ∙ c.requires.unfinished)
    (subst (λ w. IsReady w c.args.task) (sym (ap (λ (t : PlayedEvents). t.played.world) c.self.view_is)) c.requires.ready) in
    (p.moment, can)

pub returns-in_err-event-clause-why : goal.returns-in_err-event-clause-why
returns-in_err-event-clause-why c =
    let p = c.self.invariant in
    let can = can_make c.self.inside.code c.self.inside.limits c.self.inside.argument c.self.inside.run c.self.inside.made p c.args.task
    (ap (λ (t : PlayedEvents). t.played.outcome) c.self.view_is ∙ c.requires.unfinished)
    (subst (λ w. IsReady w c.args.task) (sym (ap (λ (t : PlayedEvents). t.played.world) c.self.view_is)) c.requires.ready) in
    let q = err_from_is_err_and c.from_residual.result c.from_residual.ensures.1 in
    rw (q.1, q.2)
    (subst (λ (t : PlayedEvents). WhyHaltedAt t.played c.args.task c.in_err-event.field-0.0) c.self.view_is
    (why_none c.self.inside.code c.self.inside.limits c.self.inside.argument c.self.inside.run c.self.inside.made p c.args.task c.in_err-event.field-0.0
    (c.in_err-event.ensures.why p.moment can)))

pub invariant_of-result : goal.invariant_of-result
invariant_of-result c =
    let p = c.self.invariant in
    let can = can_make c.self.inside.code c.self.inside.limits c.self.inside.argument c.self.inside.run c.self.inside.made p c.args.task
    (ap (λ (t : PlayedEvents). t.played.outcome) c.self.view_is ∙ c.requires.unfinished)
    (subst (λ w. IsReady w c.args.task) (sym (ap (λ (t : PlayedEvents). t.played.world) c.self.view_is)) c.requires.ready) in
    let fits : SFits w32 c.self.inside.argument = search rules in
    subst (λ a. PlaysEvents c.self.inside.code c.self.inside.limits a c.step_with_event.new.self c.keep.new.made) (sym (to_z-of_z w32 c.self.inside.argument fits))
    (subst (PlaysEvents c.self.inside.code c.self.inside.limits c.self.inside.argument c.step_with_event.new.self) (sym c.in_ok-keep.ensures)
    (plays_on c.self.inside.code c.self.inside.limits c.self.inside.argument c.self.inside.run c.step_with_event.new.self c.self.inside.made p c.args.task
    c.in_ok-event.ensures.noted c.in_ok-event.event (c.in_ok-event.ensures.steps p.moment can)))

pub returns-clause-stepped : goal.returns-clause-stepped
returns-clause-stepped c =
    let p = c.self.invariant in
    let can = can_make c.self.inside.code c.self.inside.limits c.self.inside.argument c.self.inside.run c.self.inside.made p c.args.task
    (ap (λ (t : PlayedEvents). t.played.outcome) c.self.view_is ∙ c.requires.unfinished)
    (subst (λ w. IsReady w c.args.task) (sym (ap (λ (t : PlayedEvents). t.played.world) c.self.view_is)) c.requires.ready) in
    let fits : SFits w32 c.self.inside.argument = search rules in
    subst (λ a. IsAfter c.args.self.played c.args.task (played c.self.inside.code c.self.inside.limits a c.step_with_event.new.self)) (sym (to_z-of_z w32 c.self.inside.argument fits))
    (subst (λ (t : PlayedEvents). IsAfter t.played c.args.task (played c.self.inside.code c.self.inside.limits c.self.inside.argument c.step_with_event.new.self)) c.self.view_is
    (after_step c.self.inside.code c.self.inside.limits c.self.inside.argument c.self.inside.run c.step_with_event.new.self c.self.inside.made p c.args.task
    c.in_ok-event.ensures.noted c.in_ok-event.event (c.in_ok-event.ensures.steps p.moment can)))
