-- What an action costs, and when that is within the limits.
use Rattle.std.specs.Prelude.{ℕ, ◌+◌, ◌≤◌, cond, List, [], length, map, Option, Some, None, slice_get}
use Rattle.lang_base.specs.declared.value.FirstValue.{FirstValue}
use Rattle.lang_base.specs.declared.value.Value.{Value}
use Rattle.lang_base.specs.FirstValues.{constant_of}
use Rattle.code_instrs.specs.declared.code.ClassCode.{ClassCode}
use Rattle.code_instrs.specs.declared.code.Code.{Code}
use Rattle.exec_task.specs.declared.action.Action.{Action}
use Rattle.exec_task.specs.declared.action.Action.TheVariants as action
use Rattle.exec_task.specs.declared.action.Own.{Own}
use Rattle.exec_task.specs.declared.action.Own.TheVariants as own
use Rattle.exec_world.specs.declared.event.Event.{Event}
use Rattle.exec_world.specs.declared.stop.Stop.{Stop}
use Rattle.exec_world.specs.declared.stop.Stop.TheVariants as stop
use Rattle.exec_world.specs.declared.world.World.{World}

-- besides the ticks. An entry of a method is the look at its receiver, and one of a constructor a second step of the creation
abbrev pub own_steps : Own → ℕ
own_steps own.Rest = 0
own_steps (own.NewObject c rs constructor) = cond constructor 2 1
own_steps o = 1

abbrev pub steps_of : Action → ℕ
steps_of (action.Do o) = own_steps o
steps_of (action.End e) = 0
steps_of a = 1

abbrev pub fields_of : Option ClassCode → List FirstValue
fields_of None = []
fields_of (Some k) = k.fields

-- what the fields of a class hold at first
abbrev pub first_fields : Code → ℕ → List Value
first_fields C c = map constant_of (fields_of (slice_get C.classes c))

-- an object or an array one and its size, a printed line its bytes
abbrev pub own_cells : Code → Own → ℕ
own_cells C (own.NewObject c rs constructor) = length (first_fields C c) + 1
own_cells C (own.NewArray region len first) = len + 1
own_cells C (own.Print bytes) = length bytes
own_cells C o = 0

abbrev pub cells_of : Code → Action → ℕ
cells_of C (action.Do o) = own_cells C o
cells_of C a = 0

-- an event keeps to both limits, with its ticks
abbrev pub Within : Code → World → Event → Type 0
Within C w e = (w.steps + (e.ticks + steps_of e.action) ≤ w.most_steps) × (w.heap.used + cells_of C e.action ≤ w.heap.limit)

-- it is refused by a limit exactly where it doesn't keep to both
abbrev pub Stops : Code → World → Event → Stop → Type 0
Stops C w e stop.Limited = Within C w e → ⊥
Stops C w e stop.NoMemory = Within C w e
