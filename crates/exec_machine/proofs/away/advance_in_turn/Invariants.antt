use Rattle.std.proofs.Common.{◌≡◌, ◌<◌, ◌≤◌, ℕ, get_or}
use Rattle.code_instrs.specs.Plain.{plain_code}
use Rattle.exec_machine.specs.Away.{GoesFurther}
use Rattle.exec_machine.specs.declared.away.Away.{Away as Taken}
use Rattle.exec_machine.proofs.away.advance_in_turn.Given as goal

abbrev pub invariant-loop-task : goal.invariant-loop-task
invariant-loop-task l =
    ((i : ℕ) (d : Taken) → l.task-index ≤ i → get_or l.tasks i d ≡ get_or l.initial.tasks i d)
    × ((i : ℕ) (d : Taken) → i < l.task-index → GoesFurther (plain_code l.code) (get_or l.initial.tasks i d) (get_or l.tasks i d))
