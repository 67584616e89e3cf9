-- Whoever hinders has been looked at.
use Rattle.std.proofs.Common.{subst, MatchOption}
use Rattle.exec_locks.specs.Locks.{Standings, IsFree, IsLeastHolder}
use Rattle.exec_locks.proofs.Meeting.{concluded, all_looked_at}
use Rattle.exec_locks.proofs.locks.Locks.conflicts.Goals as goal

pub returns : goal.returns
returns c =
    subst (λ (locks : Standings). MatchOption c.loop-e.least (IsFree locks c.args.task c.args.wants.now)
    (IsLeastHolder locks c.args.task c.args.wants.now)) c.self.view_is
    (concluded c.self.inside.standings c.args.task c.args.wants.now c.loop-e.least c.loop-e.invariant.sound
    (λ q. all_looked_at c.self.inside.reads c.self.inside.writes c.self.inside.standings c.args.task q c.loop-e.e-index c.args.wants.now c.loop-e.least
    c.self.invariant c.requires c.loop-e-test.false (c.loop-e.invariant.reach q)))
