-- One standing fewer in the map.
use Rattle.std.proofs.Common.{ap, ◌∙◌}
use Rattle.std.specs.FinMap.{remove}
use Rattle.exec_locks.specs.Locks.{Standings}
use Rattle.exec_locks.proofs.Maps.{seen_removed}
use Rattle.exec_locks.proofs.standings.StandingMap.remove.Goals as goal

pub returns : goal.returns
returns c =
    seen_removed c.self.inside.map c.remove.new.self c.args.task c.remove.ensures.updates
    ∙ ap (λ (locks : Standings). remove locks c.args.task) c.self.view_is
