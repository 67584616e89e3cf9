-- The share rises with the book, and the book is the length of the schedule.
use Rattle.std.proofs.Common.{arith, subst, ◌∙◌}
use Rattle.exec_machine.specs.Keeping.{Played}
use Rattle.exec_run.proofs.desk.Bursts.{longer}
use Rattle.exec_run.specs.desk.Bursts.{GoesOnBy}
use Rattle.exec_run.proofs.desk.locked.Locked.step.Goals as goal

pub overflow_add-seat : goal.overflow_add-seat
overflow_add-seat g c =
    let on = longer c.self.inside.machine c.in-Some.task c.in_ok-made.made.events c.make_burst.new.machine (subst (λ (m : Played). GoesOnBy m c.in-Some.task c.in_ok-made.made.events c.make_burst.new.machine) c.picked.ensures.same c.in_ok-made.ensures.ok.goes_on) in
    grind (arith, on.length, c.self.invariant, c.seat.invariant, c.audit.ensures.bound, c.schedule-2.ensures.schedule, c.schedule-2.auto)

pub invariant_of-self-2 : goal.invariant_of-self-2
invariant_of-self-2 g c =
    let on = longer c.self.inside.machine c.in-Some.task c.in_ok-made.made.events c.make_burst.new.machine (subst (λ (m : Played). GoesOnBy m c.in-Some.task c.in_ok-made.made.events c.make_burst.new.machine) c.picked.ensures.same c.in_ok-made.ensures.ok.goes_on) in
    let kept = c.self.invariant in (
      grind (arith, on.length, kept.0, c.audit.ensures.total, c.add.ensures.total),
      kept.1,
      on.code ∙ kept.2,
      on.limits ∙ kept.3,
      on.argument ∙ kept.4,
    )
