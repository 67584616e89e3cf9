-- In an empty index nobody is met.
use Rattle.exec_locks.specs.Index.{first_number}
use Rattle.exec_locks.proofs.Found.{never_met}
use Rattle.exec_locks.proofs.search.least_meeting.Goals as goal

pub returns-then-is_empty-clause-found : goal.returns-then-is_empty-clause-found
returns-then-is_empty-clause-found c = λ q met good.
    let none = c.is_empty.ensures.0 c.if-is_empty.true in
    absurd (never_met c.args.index.now.under c.args.index.now.ending q first_number c.args.elems.now none.0 none.1 met)
