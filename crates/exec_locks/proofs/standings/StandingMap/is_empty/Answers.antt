-- A map without entries.
use Rattle.std.proofs.Common.{sym, ap, ◌∙◌}
use Rattle.std.specs.FinMap.{get}
use Rattle.exec_locks.specs.Locks.{Standings}
use Rattle.exec_locks.proofs.Maps.{none_in}
use Rattle.exec_locks.proofs.standings.StandingMap.is_empty.Goals as goal

pub returns : goal.returns
returns c = λ yes q.
    ap (λ (locks : Standings). get locks q) (sym c.self.view_is) ∙ none_in c.self.inside.map (c.is_empty.ensures.0 yes) q
