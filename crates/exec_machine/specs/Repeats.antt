-- A schedule by its repeats of one number.
use Rattle.std.specs.Prelude.{ℕ, List, ◌++◌, ◌<◌, replicate}
use Rattle.std.specs.List.{flat_map}
use Rattle.exec_machine.specs.declared.schedule.Repeat.{Repeat}

abbrev pub IsFilled : Repeat → Type 0
IsFilled s = 0 < s.many

-- the numbers of repeats, and of one after them
abbrev pub tasks_in : List Repeat → Repeat → List ℕ
tasks_in repeats last = flat_map (λ s. replicate s.many s.task) repeats ++ replicate last.many last.task
