-- Those that leave the wait queue come into the run queue.
use Rattle.std.proofs.Common.{inl}
use Rattle.exec_world.proofs.Waking.{woken}
use Rattle.exec_world.proofs.queues.Queues.wake.Goals as goal

pub returns-in_err-insert_each-clause-kept : goal.returns-in_err-insert_each-clause-kept
returns-in_err-insert_each-clause-kept c = record { run = c.insert_each.ensures.kept; wait = λ h q waiting. inl waiting }

pub returns-clause-kept : goal.returns-clause-kept
returns-clause-kept c =
    woken c.args.self.now _ c.args.holder c.in-Some.queue.now c.in-Some.ensures.value c.remove.ensures.updates c.insert_each.ensures.kept
    c.in_ok-insert_each.ensures.there
