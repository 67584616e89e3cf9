use Rattle.std.proofs.Common.{◌≡◌, length, sum}
use Rattle.exec_run.specs.desk.Place.{made_by}
use Rattle.exec_run.proofs.desk.desk.spent.Given as goal

abbrev pub invariant-loop-seat : goal.invariant-loop-seat
invariant-loop-seat g l =
    (l.rest.parts ≡ length l.yielded) × (l.rest.amount ≡ sum l.shares) × (length l.shares ≡ length l.yielded) × (sum l.shares ≡ made_by l.yielded)
