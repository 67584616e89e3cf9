-- What is found below the number, or the greatest of all, is the task that is drawn.
use Rattle.std.proofs.Common.{subst}
use Rattle.exec_machine.specs.Keeping.{Played}
use Rattle.exec_world.specs.Ready.{NoneReadyBelow, IsGreatestBelow}
use Rattle.exec_run.proofs.Seeded.{drawn_below, drawn_greatest}
use Rattle.exec_run.proofs.drawing.drawn.Goals as goal

pub returns-in-Some-clause-drawn : goal.returns-in-Some-clause-drawn
returns-in-Some-clause-drawn c =
    drawn_below c.args.machine.now.world c.args.state c.in_ok-greatest.greatest c.number_drawn-bound.result c.in_ok-greatest.ensures.next c.number_drawn-bound.ensures c.in-Some.task
    (subst (λ (m : Played). IsGreatestBelow m.world c.number_drawn-bound.result c.in-Some.task) c.in_ok-greatest.ensures.same c.in-Some.ensures.next)

pub returns-in-None-clause-drawn : goal.returns-in-None-clause-drawn
returns-in-None-clause-drawn c =
    drawn_greatest c.args.machine.now.world c.args.state c.in_ok-greatest.greatest c.number_drawn-bound.result c.in_ok-greatest.ensures.next c.number_drawn-bound.ensures
    (subst (λ (m : Played). NoneReadyBelow m.world c.number_drawn-bound.result) c.in_ok-greatest.ensures.same c.in-None.ensures.next)
