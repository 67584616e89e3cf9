-- Two rows are equal where their regions are.
use Rattle.exec_heap.proofs.Keyed.{equal_rows}
use Rattle.exec_heap.proofs.row.RowPartialEq.eq.Goals as goal

pub returns : goal.returns
returns c = rw (← c.self.view_is, ← c.other.view_is) (equal_rows _ _ c.same.result c.same.ensures)
