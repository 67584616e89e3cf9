use Rattle.std.proofs.Common.{◌≡◌, reverse}
use Rattle.exec_run.proofs.rounds.Collecting.{Collected, left}
use Rattle.exec_run.proofs.rounds.ready.ready_tasks.Given as goal

abbrev pub invariant-loop-next : goal.invariant-loop-next
invariant-loop-next l = record { same : l.machine ≡ l.fn.machine; collected : Collected l.fn.machine.world l.next (reverse l.tasks) }

abbrev pub decreases-loop-next : goal.decreases-loop-next
decreases-loop-next l = left l.next
