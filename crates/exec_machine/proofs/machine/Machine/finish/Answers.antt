-- Each step is that of the greatest ready task.
use Rattle.std.proofs.Common.{◌∷◌, [], ap, length, arith, subst}
use Rattle.std.proofs.lemmas.List.{length-append}
use Rattle.exec_machine.specs.Keeping.{Played, IsAfter, here, further}
use Rattle.exec_machine.proofs.machine.Machine.finish.Goals as goal

pub loop-step-init : goal.loop-step-init
loop-step-init c = (here, omega (arith))

pub loop-step-preserved : goal.loop-step-preserved
loop-step-preserved c =
    let stepped = subst (λ (m : Played). IsAfter m c.in-Some.task c.step.new.self) c.in-Some.ensures.same c.in_ok-step.ensures.stepped in
    let more = ap length stepped.schedule in
    let le = c.loop-step.invariant.1 in (
      further c.loop-step.self c.step.new.self c.in-Some.task c.loop-step.invariant.0 c.in-Some.ensures.next stepped,
      omega (arith, le, more, length-append c.loop-step.self.schedule (c.in-Some.task ∷ [])),
    )
