-- What a verdict is reported by: the bytes of its report, and its status.
use Rattle.std.specs.Prelude.{ℕ, List, [], ◌∷◌, ◌++◌, codes}
use Rattle.std.specs.Fmt.{decimal, signed_decimal}
use Rattle.lang_base.specs.declared.outcome.Outcome.{Outcome}
use Rattle.lang_base.specs.declared.outcome.Ending.{Ending}
use Rattle.lang_base.specs.declared.outcome.Ending.TheVariants as ending
use Rattle.lang_base.specs.Text.{place_text, trap_name, refusal_text}
use Rattle.tool_words.specs.declared.verdict.Figures.{Figures}
use Rattle.tool_words.specs.declared.verdict.Verdict.{Verdict}
use Rattle.tool_words.specs.declared.verdict.Verdict.TheVariants as verdict
use Rattle.tool_words.specs.declared.verdict.Status.{Status}
use Rattle.tool_words.specs.declared.verdict.Status.TheVariants as status

-- a text and the end of its line
abbrev pub line : List ℕ → List ℕ
line text = text ++ 10 ∷ []

-- what a run printed, and how it ended
abbrev pub ending_report : List ℕ → Ending → List ℕ
ending_report out (ending.Done value) = out ++ line (codes "result " ++ signed_decimal value)
ending_report out (ending.Trapped trap place) = out ++ line (codes "trap " ++ trap_name trap ++ codes " " ++ place_text place)
ending_report out ending.Limited = line (codes "limit")

-- the report of a run
abbrev pub run_report : Outcome → List ℕ
run_report outcome = ending_report outcome.out outcome.ending

-- the report of a run, what it has cost, and what it is made of
abbrev pub cost_report : Outcome → Figures → List ℕ
cost_report outcome figures =
    run_report outcome ++ line (codes "steps " ++ decimal outcome.steps) ++ line (codes "cells " ++ decimal outcome.cells)
    ++ line (codes "events " ++ decimal figures.events) ++ line (codes "tasks " ++ decimal figures.tasks) ++ line (codes "rounds " ++ decimal figures.rounds)

-- the report of a demo of so many classes and bytes, which took so many steps
abbrev pub demo_ending_report : ℕ → ℕ → ℕ → Ending → List ℕ
demo_ending_report classes bytes steps (ending.Done value) =
    line (codes "classes " ++ decimal classes) ++ line (codes "bytes " ++ decimal bytes)
    ++ line (codes "result " ++ signed_decimal value) ++ line (codes "steps " ++ decimal steps)
demo_ending_report classes bytes steps (ending.Trapped trap place) = ending_report [] (ending.Trapped trap place)
demo_ending_report classes bytes steps ending.Limited = ending_report [] ending.Limited

-- the bytes that a verdict is reported by
abbrev pub report_of : Verdict → List ℕ
report_of verdict.Usage = line (codes "usage: dpj COMMAND [NAME=VALUE]...")
report_of (verdict.Refused refusal) = line (codes "refused " ++ refusal_text refusal)
report_of verdict.Accepted = line (codes "accepted")
report_of (verdict.Ran outcome) = run_report outcome
report_of (verdict.Listed listing) = listing
report_of (verdict.Demo classes bytes outcome) = demo_ending_report classes bytes outcome.steps outcome.ending
report_of (verdict.Traced outcome text) = text
report_of (verdict.Shown outcome text) = text
report_of (verdict.Effects lines) = lines
report_of (verdict.Cost outcome figures) = cost_report outcome figures

-- the status of an ending
abbrev pub ending_status : Ending → Status
ending_status (ending.Done value) = status.Done
ending_status (ending.Trapped trap place) = status.Trapped
ending_status ending.Limited = status.Limited

-- the status of a verdict
abbrev pub status_of : Verdict → Status
status_of verdict.Usage = status.Usage
status_of (verdict.Refused refusal) = status.Refused
status_of verdict.Accepted = status.Done
status_of (verdict.Ran outcome) = ending_status outcome.ending
status_of (verdict.Listed listing) = status.Done
status_of (verdict.Demo classes bytes outcome) = ending_status outcome.ending
status_of (verdict.Traced outcome text) = ending_status outcome.ending
status_of (verdict.Shown outcome text) = ending_status outcome.ending
status_of (verdict.Effects lines) = status.Done
status_of (verdict.Cost outcome figures) = ending_status outcome.ending

-- the number of a status
abbrev pub status_number : Status → ℕ
status_number status.Done = 0
status_number status.Usage = 1
status_number status.Refused = 2
status_number status.Trapped = 3
status_number status.Limited = 4
status_number status.ReadFault = 5
status_number status.WriteFault = 6
status_number status.NoMemory = 7
