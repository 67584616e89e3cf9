-- The shares together are the whole, which is what the book has: as many as there are events.
use Rattle.std.proofs.Common.{ap, sym, ◌∙◌, length}
use Rattle.exec_run.proofs.desk.desk.Desk.close.Goals as goal

pub returns-clause-sum : goal.returns-clause-sum
returns-clause-sum g c =
    ap (λ machine. length machine.schedule) c.opened-machine.ensures.machine ∙ sym c.opened-machine.ensures.book ∙ sym c.audit.ensures.total
    ∙ sym (c.audit-2.ensures.whole (c.in_ok-shares.ensures.parts ∙ c.requires)) ∙ c.in_ok-shares.ensures.amount
