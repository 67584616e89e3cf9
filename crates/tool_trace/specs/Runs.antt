-- The maximal runs of equal numbers in a schedule.
use Rattle.std.specs.Prelude.{ℕ, suc, ◌-◌, List, [], ◌∷◌, Option, Some, None, if◌then◌else◌, nat_eq, nat_lt}
use Rattle.tool_trace.specs.declared.runs.Run.{Run}

-- runs with one number put before them
abbrev pub put_first : ℕ → List Run → List Run
put_first task [] = record { task = task; many = 1 } ∷ []
put_first task (run ∷ runs) =
    if nat_eq task run.task then record { task = task; many = suc run.many } ∷ runs
    else record { task = task; many = 1 } ∷ run ∷ runs

-- the maximal runs of equal numbers, in order
abbrev pub runs_of : List ℕ → List Run
runs_of [] = []
runs_of (task ∷ tasks) = put_first task (runs_of tasks)

-- the line that holds the number at a position, where the first of these runs has this line; after them, the line after the last
abbrev pub line_from : ℕ → List Run → ℕ → ℕ
line_from line [] at = line
line_from line (run ∷ runs) at = if nat_lt at run.many then line else line_from (suc line) runs (at - run.many)

-- the last number, if any
abbrev pub last_of : List ℕ → Option ℕ
last_of [] = None
last_of (task ∷ []) = Some task
last_of (task ∷ next ∷ tasks) = last_of (next ∷ tasks)

-- the line of a trace text that holds the number at a position of a schedule; after the last, the line `program`
abbrev pub line_of : List ℕ → ℕ → ℕ
line_of schedule at = line_from 4 (runs_of schedule) at
