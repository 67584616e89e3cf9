-- An event is made, and given back.
use Rattle.std.proofs.Common.{sym, ap, subst, ◌∙◌, ◌≡◌, Some, None}
use Rattle.std.proofs.lemmas.Result.{err_from_is_err_and}
use Rattle.std.specs.FinMap.{get}
use Rattle.code_instrs.specs.Plain.{plain_code}
use Rattle.exec_task.specs.Tasks.{state_of}
use Rattle.exec_machine.specs.Events.{place_at}
use Rattle.exec_machine.specs.Keeping.{WhyHalted}
use Rattle.exec_machine.specs.Running.{OfSlot}
use Rattle.exec_machine.specs.MadeEvents.{StepsWith, answer_in}
use Rattle.exec_machine.proofs.Stepping.{can_after}
use Rattle.exec_machine.proofs.MadeEvents.{steps_with_event, steps_over_limit}
use Rattle.exec_machine.proofs.run.Run.step_with_event.Goals as goal

pub make-requires-clause-can : goal.make-requires-clause-can
make-requires-clause-can c = (
  c.requires.can.0,
  can_after c.args.code.now c.args.limits c.args.self.now c.next_event.new.self c.requires.can.0 c.args.task c.in_ok-event.event.task c.requires.can.1
      (c.next_event.ensures.has_next c.requires.can.0 c.requires.can.1.has_next) c.in_ok-event.ensures.task,
)

pub returns-in_err-make-clause-why : goal.returns-in_err-make-clause-why
returns-in_err-make-clause-why c = λ m can.
    let now = can_after c.args.code.now c.args.limits c.args.self.now c.next_event.new.self m c.args.task c.in_ok-event.event.task can
    (c.next_event.ensures.has_next m can.has_next) c.in_ok-event.ensures.task in
    let q = err_from_is_err_and c.from_residual-in_err-make.result c.from_residual-in_err-make.ensures.1 in
    rw (q.1, q.2)
    (subst (λ k. WhyHalted (plain_code c.args.code.now) m k c.in_err-make.field-0.0) c.in_ok-event.ensures.task (c.in_err-make.ensures.why m now))

pub returns-then-met_limit-clause-steps : goal.returns-then-met_limit-clause-steps
returns-then-met_limit-clause-steps c = λ m can.
    let now = can_after c.args.code.now c.args.limits c.args.self.now c.next_event.new.self m c.args.task c.in_ok-event.event.task can
    (c.next_event.ensures.has_next m can.has_next) c.in_ok-event.ensures.task in
    subst (λ k. StepsWith c.args.code.now c.args.limits m k c.make.new.self None) c.in_ok-event.ensures.task
    (steps_over_limit c.args.code.now c.args.limits m c.in_ok-event.event c.make.new.self (get c.next_event.new.self.slots c.in_ok-event.event.task)
    (c.in_ok-make.ensures.makes m now) (sym c.met_limit.ensures ∙ c.if-met_limit.true))

pub returns-clause-steps : goal.returns-clause-steps
returns-clause-steps c = λ m can.
    let now = can_after c.args.code.now c.args.limits c.args.self.now c.next_event.new.self m c.args.task c.in_ok-event.event.task can
    (c.next_event.ensures.has_next m can.has_next) c.in_ok-event.ensures.task in
    let at = subst (λ k. OfSlot (get c.next_event.new.self.slots k) (λ s. c.place-place.result ≡ place_at (plain_code c.args.code.now) (state_of s.task)))
    (sym c.in_ok-event.ensures.task) c.place-place.ensures in
    let answer = c.in_ok-answer.ensures ∙ ap (λ k. answer_in (get c.make.new.self.slots k)) (sym c.in_ok-event.ensures.task) in
    subst (λ e. StepsWith c.args.code.now c.args.limits m c.args.task c.make.new.self
    (Some (record { event = e; answer = c.in_ok-answer.answer; place = c.place-place.result }))) (sym c.in_ok-copy.ensures)
    (subst (λ k. StepsWith c.args.code.now c.args.limits m k c.make.new.self
    (Some (record { event = c.in_ok-event.event; answer = c.in_ok-answer.answer; place = c.place-place.result }))) c.in_ok-event.ensures.task
    (steps_with_event c.args.code.now c.args.limits m c.in_ok-event.event c.make.new.self (get c.next_event.new.self.slots c.in_ok-event.event.task)
    c.in_ok-answer.answer c.place-place.result (c.in_ok-make.ensures.makes m now) at (sym c.met_limit.ensures ∙ c.if-met_limit.false) answer))
