-- The text of a trace.
use Rattle.std.specs.Prelude.{ℕ, ℤ, List, [], ◌∷◌, ◌++◌, length, codes}
use Rattle.std.specs.Fmt.{decimal, signed_decimal}
use Rattle.std.specs.List.{flat_map}
use Rattle.lang_base.specs.declared.outcome.Limits.{Limits}
use Rattle.tool_trace.specs.declared.runs.Run.{Run}
use Rattle.tool_trace.specs.Runs.{runs_of}

-- a text and the end of its line
abbrev pub line : List ℕ → List ℕ
line text = text ++ 10 ∷ []

abbrev pub limits_text : Limits → List ℕ
limits_text limits = codes "steps " ++ decimal limits.steps ++ codes " cells " ++ decimal limits.cells

-- what the run was given
abbrev pub settings_text : ℤ → Limits → List ℕ
settings_text arg limits = codes "arg " ++ signed_decimal arg ++ codes " " ++ limits_text limits

abbrev pub events_text : ℕ → List ℕ
events_text events = codes "events " ++ decimal events

-- the number of a task, and how many there are of it
abbrev pub run_text : Run → List ℕ
run_text run = decimal run.task ++ codes " " ++ decimal run.many

-- the lines of a schedule
abbrev pub schedule_text : List ℕ → List ℕ
schedule_text schedule = flat_map (λ run. line (run_text run)) (runs_of schedule)

-- the whole text
abbrev pub trace_text : ℤ → Limits → List ℕ → List ℕ → List ℕ
trace_text arg limits schedule source =
    line (codes "dpj-trace 1")
    ++ line (settings_text arg limits)
    ++ line (events_text (length schedule))
    ++ schedule_text schedule
    ++ line (codes "program")
    ++ source
