-- A task that runs, as the machine of one task has it; its actions and its answers.
use Rattle.std.specs.Prelude.{◌≡◌, ℕ, List, map, length, false}
use Rattle.lang_base.specs.declared.value.SlotValue.{SlotValue}
use Rattle.lang_meaning.specs.Values.{Value, Region, An_object, An_array}
use Rattle.lang_meaning.specs.Actions as meaning
use Rattle.code_instrs.specs.Plain.{PlainCode, class_at, fields_of}
use Rattle.code_instrs.specs.Machine as machine
use Rattle.code_instrs.specs.Machine.{State, On, Off, held_first}
use Rattle.exec_task.specs.declared.action.Action.{Action}
use Rattle.exec_task.specs.declared.action.Action.TheVariants as action
use Rattle.exec_task.specs.declared.action.Answer.{Answer}
use Rattle.exec_task.specs.declared.action.Answer.TheVariants as answer
use Rattle.exec_task.specs.declared.action.Ending.{Ending}
use Rattle.exec_task.specs.declared.action.Ending.TheVariants as ending
use Rattle.exec_task.specs.declared.action.Own.{Own}
use Rattle.exec_task.specs.declared.action.Own.TheVariants as own
use Rattle.exec_task.specs.declared.task.Level.{Level}
use Rattle.exec_task.specs.declared.task.Standing.{Standing}
use Rattle.exec_task.specs.declared.task.Standing.TheVariants as standing
use Rattle.exec_task.specs.declared.task.Start.{Start}
use Rattle.exec_task.specs.declared.task.Task.{Task}
use Rattle.exec_frames.specs.declared.classes.Seen.{Seen}
use Rattle.exec_frames.specs.declared.frame.Frame.{Frame}
use Rattle.exec_frames.specs.Names.{Of_task, frame_by, plain_value}
use Rattle.exec_frames.specs.Classes.{seen_by}
use Rattle.exec_task.specs.Names.{plain_region, plain_effect}

abbrev pub plain_frame : Frame → meaning.Frame ℕ (ℕ × ℕ)
plain_frame = frame_by (Of_task 0)

abbrev pub plain_level : Level → machine.Level ℕ (ℕ × ℕ)
plain_level g = record { body = g.body; at = g.at; frame = plain_frame g.frame; stack = map plain_value g.stack }

abbrev pub plain_start : Start → machine.Start ℕ (ℕ × ℕ)
plain_start b = record { body = b.body; frame = plain_frame b.frame }

abbrev pub plain_seen : Seen → ℕ × List (Region (ℕ × ℕ))
plain_seen = seen_by (Of_task 0)

abbrev pub plain_slot : SlotValue → ℕ × Value ℕ
plain_slot l = (l.slot, plain_value l.value)

abbrev pub plain_ending : Ending → meaning.Ending ℕ
plain_ending (ending.Returned v) = meaning.Returned (plain_value v)
plain_ending (ending.Assigned ls) = meaning.Assigned (map plain_slot ls)
plain_ending (ending.Trapped trap place) = meaning.Trapped trap place

-- the level at work, its callers, innermost first, and how the task stands there
abbrev pub state_in : Standing → Level → List Level → State ℕ (ℕ × ℕ)
state_in standing.At g fs = On (plain_level g) (map plain_level fs)
state_in standing.Rested g fs = machine.Rested (plain_level g) (map plain_level fs)
state_in (standing.Ended e) g fs = Off (plain_ending e)
state_in standing.Nowhere g fs = machine.Nowhere

abbrev pub state_of : Task → State ℕ (ℕ × ℕ)
state_of t = state_in t.standing t.level t.callers

abbrev pub plain_answer : Answer → meaning.Answer ℕ (ℕ × ℕ)
plain_answer answer.Went = meaning.Went
plain_answer (answer.Got v) = meaning.Got (plain_value v)
plain_answer answer.Out = meaning.Out
plain_answer (answer.Class c rs) = meaning.Class c (map plain_region rs)
plain_answer (answer.Length k) = meaning.Length k
plain_answer (answer.Made n) = meaning.Named n
plain_answer (answer.Joined ls) = meaning.Joined (map plain_slot ls)
plain_answer (answer.Fell trap place) = meaning.Fell trap place

-- what a task does by itself. The first fields of a new object are those of its class
abbrev pub plain_own : PlainCode → Own → meaning.Own ℕ (ℕ × ℕ)
plain_own C own.Rest = meaning.Rest
plain_own C (own.Read n i) = meaning.Read n i
plain_own C (own.Write n i v) = meaning.Write n i (plain_value v)
plain_own C (own.Look n) = meaning.Look n
plain_own C (own.NewObject c rs constructor) = meaning.New (An_object c (map plain_region rs) (map held_first (fields_of (class_at C c)))) constructor
plain_own C (own.NewArray region len first) = meaning.New (An_array (plain_region region) len (plain_value first)) false
plain_own C (own.Print bytes) = meaning.Print bytes
plain_own C (own.Enter effects) = meaning.Enter (map plain_effect effects)
plain_own C own.Exit = meaning.Exit

-- what an action says of the one that the task stands at. The branches of a fork are said by their number, and each as it
-- begins
abbrev pub Says : PlainCode → Action → meaning.Action ℕ (ℕ × ℕ) (machine.Start ℕ (ℕ × ℕ)) → Type 0
Says C (action.Do o) a = a ≡ meaning.Do (plain_own C o)
Says C (action.Fork forking many) a =
    (ts : List (machine.Start ℕ (ℕ × ℕ))) × (a ≡ meaning.Fork (record { kind = forking; tasks = ts })) × (length ts ≡ many)
Says C (action.Begin b) a = a ≡ meaning.Begin b
Says C action.Join a = a ≡ meaning.Join
Says C (action.End e) a = a ≡ meaning.End (plain_ending e)
