use Rattle.tool_trace.proofs.Scheduling.{takes-no-same, takes-other, same-last, other-last}
use Rattle.tool_trace.proofs.listed.Listed.take.Goals as goal

pub returns-then-eq-clause-takes : goal.returns-then-eq-clause-takes
returns-then-eq-clause-takes c = λ schedule lists.
    takes-no-same c.args.self.now c.args.self.now c.args.line.now schedule c.in-Some.reported c.in-Some.ensures (same-last c.args.self.now.last c.in-Some.reported.task c.if-eq.ensures) lists

pub returns-clause-takes : goal.returns-clause-takes
returns-clause-takes c = λ schedule lists.
    takes-other c.args.self.now c.add.new.self c.args.line.now schedule c.in-Some.reported c.in-Some.ensures (other-last c.args.self.now.last c.in-Some.reported.task c.if-eq.ensures) lists
    (λ many some is. c.in_ok-add.ensures.adds schedule many lists some is)
