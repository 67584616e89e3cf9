-- A task goes to its next event, and makes it.
use Rattle.std.proofs.Common.{subst, OnOk, IfErr}
use Rattle.std.specs.FinMap.{get}
use Rattle.code_instrs.specs.Plain.{plain_code}
use Rattle.exec_machine.specs.Keeping.{Keeps, WhyHalted}
use Rattle.exec_machine.specs.Replay.{Moment, Moves}
use Rattle.exec_machine.proofs.Stepping.{can_after, moves_on, on_ok}
use Rattle.exec_machine.proofs.run.Run.step.Goals as goal

pub make-requires-clause-can : goal.make-requires-clause-can
make-requires-clause-can c = (
  c.requires.can.0,
  can_after c.args.code.now c.args.limits c.args.self.now c.next_event.new.self c.requires.can.0 c.args.task c.in_ok-event.event.task c.requires.can.1
      (c.next_event.ensures.has_next c.requires.can.0 c.requires.can.1.has_next) c.in_ok-event.ensures.task,
)

pub returns-clause-moves : goal.returns-clause-moves
returns-clause-moves c = λ m can.
    subst (λ k. OnOk c.make.result ((n : Moment) × Moves c.args.code.now c.args.limits m k n × Keeps (plain_code c.args.code.now) c.make.new.self n))
    c.in_ok-event.ensures.task
    (on_ok c.make.result _ _ (moves_on c.args.code.now c.args.limits m c.in_ok-event.event c.make.new.self (get c.next_event.new.self.slots c.in_ok-event.event.task))
    (c.make.ensures.makes m (can_after c.args.code.now c.args.limits c.args.self.now c.next_event.new.self m c.args.task c.in_ok-event.event.task can
    (c.next_event.ensures.has_next m can.has_next) c.in_ok-event.ensures.task)))

pub returns-clause-why : goal.returns-clause-why
returns-clause-why c = λ m can.
    subst (λ k. IfErr c.make.result (WhyHalted (plain_code c.args.code.now) m k)) c.in_ok-event.ensures.task
    (c.make.ensures.why m (can_after c.args.code.now c.args.limits c.args.self.now c.next_event.new.self m c.args.task c.in_ok-event.event.task can
    (c.next_event.ensures.has_next m can.has_next) c.in_ok-event.ensures.task))
