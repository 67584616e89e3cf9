use Rattle.exec_run.proofs.workers.working.work.Given as goal

abbrev pub ghosts-work_at-L-Ledger : goal.ghosts-work_at-L-Ledger
ghosts-work_at-L-Ledger g a = record { name = a.blank.name; parts = a.blank.parts }

abbrev pub ghosts-work_at-L-Run : goal.ghosts-work_at-L-Run
ghosts-work_at-L-Run g a = record { code = a.machine.code; limits = a.machine.limits; argument = a.machine.argument }
