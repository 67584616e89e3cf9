use Rattle.std.proofs.Common.{refl, arith}
use Rattle.tool_trace.proofs.Scheduling.{lists-add}
use Rattle.tool_trace.proofs.listed.Listed.add.Goals as goal

pub returns-in_ok-repeat-clause-adds : goal.returns-in_ok-repeat-clause-adds
returns-in_ok-repeat-clause-adds c = λ schedule many lists some is.
    lists-add c.args.self.now _ schedule c.args.reported.task c.args.reported.many many lists some is refl c.requires.few c.min-self.ensures refl (λ short. c.in_ok-repeat.ensures)

pub returns-else-self-clause-adds : goal.returns-else-self-clause-adds
returns-else-self-clause-adds c = λ schedule many lists some is.
    lists-add c.args.self.now _ schedule c.args.reported.task c.args.reported.many many lists some is refl c.requires.few c.min-self.ensures refl
    (λ short. absurd (omega (arith, short, c.if-self.false)))
