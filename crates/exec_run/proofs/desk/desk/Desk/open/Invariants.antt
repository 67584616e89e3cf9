use Rattle.std.proofs.Common.{◌≡◌, ◌+◌, vec_len}
use Rattle.exec_run.specs.desk.Place.{made_by}
use Rattle.exec_run.proofs.desk.desk.Desk.open.Given as goal

abbrev pub invariant-loop-number : goal.invariant-loop-number
invariant-loop-number g l = (l.all.parts + l.number ≡ l.workers) × (l.all.amount ≡ 0) × (vec_len l.seats ≡ l.number) × (made_by l.seats.items ≡ 0)
