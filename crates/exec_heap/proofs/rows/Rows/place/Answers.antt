-- The set has the row at the place that it answers.
use Rattle.exec_heap.proofs.Keyed.{placed}
use Rattle.exec_heap.proofs.rows.Rows.place.Goals as goal

pub returns-clause-ok : goal.returns-clause-ok
returns-clause-ok c =
    let (stored, is, same) = c.in_ok-row.ensures.stored in
    rw (← c.self.view_is) (placed c.self.inside.known.keys c.insert_full.new.self.keys c.args.regions stored c.in_ok-row.row c.in_ok-row.ensures.keys is same)
