-- One standing more in the map.
use Rattle.std.proofs.Common.{ap, ◌∙◌}
use Rattle.std.specs.FinMap.{insert}
use Rattle.exec_locks.specs.Locks.{Standings}
use Rattle.exec_locks.proofs.Maps.{seen_put}
use Rattle.exec_locks.proofs.standings.StandingMap.insert.Goals as goal

pub returns-clause-ok : goal.returns-clause-ok
returns-clause-ok c =
    seen_put c.self.inside.map c.insert.new.self c.args.task c.args.standing c.in_ok-insert.ensures.updates
    ∙ ap (λ (locks : Standings). insert locks c.args.task c.args.standing) c.self.view_is
