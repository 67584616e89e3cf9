-- A look-up in the map.
use Rattle.std.proofs.Common.{sym, ap, ◌∙◌}
use Rattle.std.specs.FinMap.{get}
use Rattle.exec_locks.specs.Locks.{Standings}
use Rattle.exec_locks.proofs.Maps.{get_seen}
use Rattle.exec_locks.proofs.standings.StandingMap.get.Goals as goal

pub returns : goal.returns
returns c = c.get.ensures.value ∙ sym (get_seen c.self.inside.map c.args.task) ∙ ap (λ (locks : Standings). get locks c.args.task) c.self.view_is
