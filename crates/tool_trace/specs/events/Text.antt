-- The text of the events of a run.
use Rattle.std.specs.Prelude.{ℕ, suc, ◌+◌, ◌-◌, ◌==◌, if◌then◌else◌, ℤ, List, [], ◌∷◌, ◌++◌, codes, flat_map, length, take, Option}
use Rattle.std.specs.Fmt.{decimal}
use Rattle.std.specs.Option.{option_map_or}
use Rattle.lang_base.specs.declared.outcome.Ending.{Ending as Came}
use Rattle.lang_base.specs.declared.outcome.Limits.{Limits}
use Rattle.lang_base.specs.declared.place.Place.{Place}
use Rattle.lang_base.specs.Text.{place_text, trap_name}
use Rattle.lang_typed.specs.Names.{ProgramNames}
use Rattle.lang_typed.specs.declared.stmt.Forking.{Forking}
use Rattle.lang_typed.specs.declared.stmt.Forking.TheVariants.{Deterministic, Nondeterministic}
use Rattle.body_infer.specs.Lines.{class_name, summary_text}
use Rattle.exec_task.specs.declared.action.Action.{Action}
use Rattle.exec_task.specs.declared.action.Action.TheVariants as action
use Rattle.exec_task.specs.declared.action.Answer.{Answer}
use Rattle.exec_task.specs.declared.action.Answer.TheVariants as answer
use Rattle.exec_task.specs.declared.action.Ending.{Ending}
use Rattle.exec_task.specs.declared.action.Ending.TheVariants as ending
use Rattle.exec_task.specs.declared.action.Own.{Own}
use Rattle.exec_task.specs.declared.action.Own.TheVariants as own
use Rattle.exec_machine.specs.declared.made_event.MadeEvent.{MadeEvent}
use Rattle.tool_trace.specs.Text.{settings_text, events_text as count_text}
use Rattle.tool_words.specs.Reports.{ending_report, line}
use Rattle.tool_trace.specs.declared.events.thing.Thing.{Thing}
use Rattle.tool_trace.specs.declared.events.thing.Thing.TheVariants.{Object, Array}
use Rattle.tool_trace.specs.declared.events.walk.Walk.{Walk}
use Rattle.tool_trace.specs.events.Names.{Spelling, elements_name, elements_of, name_of, spot_text, value_text}

-- at the start there is the object of `main`, and the root has begun
abbrev pub walk_at_start : ℕ → Walk
walk_at_start main = record { things = Object main ∷ []; begun = 1 }

-- what a run has made after an action
abbrev pub walk_after : Walk → Action → Walk
walk_after w (action.Do (own.NewObject class regions constructor)) = record { things = w.things ++ Object class ∷ []; begun = w.begun }
walk_after w (action.Do (own.NewArray region len first)) = record { things = w.things ++ Array (elements_of first) ∷ []; begun = w.begun }
walk_after w (action.Begin branch) = record { things = w.things; begun = w.begun + 1 }
walk_after w _ = w

abbrev pub forking_text : Forking → List ℕ
forking_text Deterministic = codes "fork "
forking_text Nondeterministic = codes "fork_nd "

-- how a task ends: a branch gives nothing
abbrev pub ending_text : ProgramNames → Walk → Ending → List ℕ
ending_text names w (ending.Returned value) = codes "end " ++ value_text names w.things value
ending_text names w (ending.Assigned slots) = codes "end"
ending_text names w (ending.Trapped trap place) = codes "end trap " ++ trap_name trap ++ codes " " ++ place_text place

-- a byte that is printed: a line feed is written `\n`, so that each event has one line, and a backslash `\\`
abbrev pub byte_text : ℕ → List ℕ
byte_text b = if b == 10 then codes "\\n" else (if b == 92 then codes "\\\\" else b ∷ [])

-- what a task does by itself. What is printed has the end of its line last, which isn't written
abbrev pub own_text : Spelling → List Thing → Own → List ℕ
own_text s things own.Rest = codes "rest"
own_text s things (own.Read number index) = codes "read " ++ spot_text s things number index
own_text s things (own.Write number index value) = codes "write " ++ spot_text s things number index ++ codes " = " ++ value_text s.names things value
own_text s things (own.Look number) = codes "look " ++ name_of s.names things number
own_text s things (own.NewObject class regions constructor) = codes "new " ++ class_name s.names class
own_text s things (own.NewArray region len first) = codes "new " ++ elements_name (elements_of first) ++ codes "[" ++ decimal len ++ codes "]"
own_text s things (own.Print bytes) = codes "print " ++ flat_map byte_text (take (length bytes - 1) bytes)
own_text s things (own.Enter effects) = codes "enter" ++ summary_text s.names [] effects
own_text s things own.Exit = codes "exit"

-- what a task does
abbrev pub action_text : Spelling → Walk → Action → List ℕ
action_text s w (action.Do o) = own_text s w.things o
action_text s w (action.Fork forking branches) = forking_text forking ++ decimal branches
action_text s w (action.Begin branch) = codes "begin " ++ decimal w.begun
action_text s w action.Join = codes "join"
action_text s w (action.End e) = ending_text s.names w e

-- what it is answered, where the line says it
abbrev pub answer_text : ProgramNames → Walk → Answer → List ℕ
answer_text names w (answer.Got value) = codes " = " ++ value_text names w.things value
answer_text names w (answer.Length len) = codes " = " ++ decimal len
answer_text names w answer.Out = codes " out"
answer_text names w (answer.Made number) = codes "#" ++ decimal number
answer_text names w _ = []

abbrev pub place_part : Option Place → List ℕ
place_part place = option_map_or (λ p. codes " at " ++ place_text p) place []

-- the line of an event, by its number in the run
abbrev pub event_text : Spelling → Walk → ℕ → MadeEvent → List ℕ
event_text s w n x =
    decimal n ++ codes " " ++ decimal x.event.task ++ codes " " ++ action_text s w x.event.action ++ answer_text s.names w x.answer ++ place_part x.place

-- the lines of events from a number on, before which the run has made this
abbrev pub lines_from : Spelling → Walk → ℕ → List MadeEvent → List ℕ
lines_from s w n [] = []
lines_from s w n (x ∷ xs) = line (event_text s w n x) ++ lines_from s (walk_after w x.event.action) (suc n) xs

-- the whole text of a run on an argument, within limits, that has come out so
abbrev pub events_text : ℤ → Limits → Spelling → List MadeEvent → Came → List ℕ
events_text arg limits s xs came =
    line (codes "dpj-events 1")
    ++ line (settings_text arg limits)
    ++ line (count_text (length xs))
    ++ lines_from s (walk_at_start s.program.main_class) 1 xs
    ++ ending_report [] came
