-- What an action of a task does to the world that tasks share, and what it is answered.
use Rattle.std.specs.Prelude.{◌≡◌, ◌<◌, ◌^◌, ℕ, ◌+◌, ℤ, pos, negsuc, Bool, false, cond, nat_lt, List, [], length, replicate, Option, Some, None, slice_get}
use Rattle.std.specs.FinMap.{empty, get, insert, remove}
use Rattle.lang_base.specs.declared.effect.Effect.{Effect}
use Rattle.lang_base.specs.declared.outcome.Limits.{Limits}
use Rattle.lang_base.specs.declared.place.Place.{Place}
use Rattle.lang_base.specs.declared.value.SlotValue.{SlotValue}
use Rattle.lang_base.specs.declared.value.Trap.{Trap}
use Rattle.lang_base.specs.declared.value.Value.{Value}
use Rattle.code_instrs.specs.declared.code.Code.{Code}
use Rattle.exec_heap.specs.Heap.{Object, instance, array, Contents, object_at, values_of, class_of, regions_of, with_object, charged, written}
use Rattle.exec_task.specs.declared.action.Action.{Action}
use Rattle.exec_task.specs.declared.action.Action.TheVariants as action
use Rattle.exec_task.specs.declared.action.Answer.{Answer}
use Rattle.exec_task.specs.declared.action.Answer.TheVariants as answer
use Rattle.exec_task.specs.declared.action.Ending.{Ending}
use Rattle.exec_task.specs.declared.action.Ending.TheVariants as ending
use Rattle.exec_task.specs.declared.action.Own.{Own}
use Rattle.exec_task.specs.declared.action.Own.TheVariants as own
use Rattle.exec_locks.specs.Locks.{Standings, AllRoot, MayEnter, HasEntry, is_inside, entered, exited, adopted}
use Rattle.exec_tasks.specs.declared.end.Joined.{Joined}
use Rattle.exec_tasks.specs.declared.end.TaskEnd.{TaskEnd}
use Rattle.exec_tasks.specs.Join.{first_trap, all_slots}
use Rattle.exec_tasks.specs.Tree.{Tree, only_root, task_at, ends_in, Runs, CanBegin, CanJoin, forked, with_task, without_task, joined, printed}
use Rattle.exec_world.specs.Costs.{steps_of, first_fields}
use Rattle.exec_world.specs.Waits.{Waiting, wanted}
use Rattle.exec_world.specs.declared.event.Event.{Event}
use Rattle.exec_world.specs.declared.world.World.{World}

-- the root has begun, and its entry has cost a step
abbrev pub at_start : Limits → World
at_start L = record {
  heap = record { objects = []; used = 0; limit = L.cells };
  tree = only_root;
  locks = empty;
  waits = empty;
  steps = 1;
  most_steps = L.steps;
}

-- the answer to a read of a value or of none
abbrev pub got : Option Value → Answer
got None = answer.Out
got (Some v) = answer.Got v

abbrev pub read_at : Object → ℤ → Answer
read_at o (pos k) = got (slice_get (values_of o) k)
read_at o (negsuc k) = answer.Out

-- whether an index is within the bounds of an object
abbrev pub has_index : Object → ℤ → Bool
has_index o (pos k) = nat_lt k (length (values_of o))
has_index o (negsuc k) = false

abbrev pub wrote_at : Object → ℤ → Answer
wrote_at o i = cond (has_index o i) answer.Went answer.Out

-- a write out of bounds changes nothing
abbrev pub written_at : Contents → ℕ → ℤ → Value → Contents
written_at heap n (pos k) v = cond (nat_lt k (length (values_of (object_at heap n)))) (written heap n k v) heap
written_at heap n (negsuc k) v = heap

-- the answer to a look at an object of a class, or at an array
abbrev pub seen_as : Option ℕ → Object → Answer
seen_as None o = answer.Length (length (values_of o))
seen_as (Some c) o = answer.Class c (regions_of o)

abbrev pub seen : Object → Answer
seen o = seen_as (class_of o) o

-- the first trap, or else all slots that are given back
abbrev pub fell_or : Option (Trap × Place) → List SlotValue → Answer
fell_or None slots = answer.Joined slots
fell_or (Some trap) slots = answer.Fell trap.0 trap.1

abbrev pub answer_joined : Joined → Answer
answer_joined joined = fell_or joined.trap joined.slots

abbrev pub join_answer : List (Option TaskEnd) → Answer
join_answer ends = fell_or (first_trap ends) (all_slots ends)

abbrev pub trap_in : Ending → Option (Trap × Place)
trap_in (ending.Returned v) = None
trap_in (ending.Assigned slots) = None
trap_in (ending.Trapped trap place) = Some (trap, place)

abbrev pub slots_in : Ending → List SlotValue
slots_in (ending.Returned v) = []
slots_in (ending.Assigned slots) = slots
slots_in (ending.Trapped trap place) = []

-- what a task is answered in this world to what it does by itself
abbrev pub own_answer : World → Own → Answer
own_answer w (own.Read n i) = read_at (object_at w.heap n) i
own_answer w (own.Write n i v) = wrote_at (object_at w.heap n) i
own_answer w (own.Look n) = seen (object_at w.heap n)
own_answer w (own.NewObject c rs constructor) = answer.Made (length w.heap.objects)
own_answer w (own.NewArray region len first) = answer.Made (length w.heap.objects)
own_answer w o = answer.Went

-- and to any action
abbrev pub answer_at : World → ℕ → Action → Answer
answer_at w task (action.Do o) = own_answer w o
answer_at w task action.Join = join_answer (ends_in (task_at w.tree task))
answer_at w task a = answer.Went

abbrev pub answer_to : World → Event → Answer
answer_to w e = answer_at w e.task e.action

abbrev pub with_heap : World → Contents → World
with_heap w heap = record { heap = heap; tree = w.tree; locks = w.locks; waits = w.waits; steps = w.steps; most_steps = w.most_steps }

abbrev pub with_tree : World → Tree → World
with_tree w tree = record { heap = w.heap; tree = tree; locks = w.locks; waits = w.waits; steps = w.steps; most_steps = w.most_steps }

abbrev pub with_locks : World → Standings → World
with_locks w locks = record { heap = w.heap; tree = w.tree; locks = locks; waits = w.waits; steps = w.steps; most_steps = w.most_steps }

-- a task that is begun by one inside a block belongs to that block
abbrev pub adopted_by : Standings → ℕ → ℕ → Standings
adopted_by locks by task = cond (is_inside locks by) (adopted locks by task) locks

abbrev pub with_waits : World → Waiting → World
with_waits w waits = record { heap = w.heap; tree = w.tree; locks = w.locks; waits = waits; steps = w.steps; most_steps = w.most_steps }

-- a task has rested: in front of an entry, where it wants something
abbrev pub rested : Waiting → ℕ → Option (List Effect) → Waiting
rested waits task None = waits
rested waits task (Some effects) = insert waits task effects

-- a task has entered the block in front of which it has rested
abbrev pub with_entry : World → ℕ → World
with_entry w task = with_waits (with_locks w (entered w.locks task (wanted (get w.waits task)))) (remove w.waits task)

-- what a task does by itself, besides its steps
abbrev pub own_acted : Code → World → ℕ → Option (List Effect) → Own → World
own_acted C w task wants own.Rest = with_waits w (rested w.waits task wants)
own_acted C w task wants (own.Read n i) = w
own_acted C w task wants (own.Write n i v) = with_heap w (written_at w.heap n i v)
own_acted C w task wants (own.Look n) = w
own_acted C w task wants (own.NewObject c rs constructor) = with_heap w (with_object w.heap (instance c rs (first_fields C c)))
own_acted C w task wants (own.NewArray region len first) = with_heap w (with_object w.heap (array region (replicate len first)))
own_acted C w task wants (own.Print bytes) = with_tree (with_heap w (charged w.heap (length bytes))) (printed w.tree task bytes)
own_acted C w task wants (own.Enter effects) = with_entry w task
own_acted C w task wants own.Exit = with_locks w (exited w.locks task)

-- what an action of a task does besides its steps
abbrev pub acted_at : Code → World → ℕ → Option (List Effect) → Action → World
acted_at C w task wants (action.Do o) = own_acted C w task wants o
acted_at C w task wants (action.Fork forking many) = with_tree w (forked w.tree task many)
acted_at C w task wants (action.Begin b) = with_locks (with_tree w (with_task w.tree task)) (adopted_by w.locks task w.tree.begun)
acted_at C w task wants action.Join = with_tree w (joined w.tree task)
acted_at C w task wants (action.End e) = with_locks (with_tree w (without_task w.tree task (trap_in e) (slots_in e))) (remove w.locks task)

abbrev pub acted : Code → World → Event → World
acted C w e = acted_at C w e.task e.wants e.action

abbrev pub with_steps : World → ℕ → World
with_steps w more = record { heap = w.heap; tree = w.tree; locks = w.locks; waits = w.waits; steps = w.steps + more; most_steps = w.most_steps }

-- after an event
abbrev pub world_after : Code → World → Event → World
world_after C w e = with_steps (acted C w e) (e.ticks + steps_of e.action)

-- a task of this number stands in no block
abbrev pub IsOutside : Standings → ℕ → Type 0
IsOutside locks task = is_inside locks task ≡ false

-- it has rested in front of an entry, and nothing hinders it
abbrev pub CanEnter : Standings → ℕ → Option (List Effect) → Type 0
CanEnter locks task None = ⊥
CanEnter locks task (Some effects) = MayEnter locks task effects

-- what the task may do by itself in this world: objects are there, and entries and exits come in turn
abbrev pub OwnFits : World → ℕ → Option (List Effect) → Own → Type 0
OwnFits w task wants own.Rest = AllRoot (wanted wants)
OwnFits w task wants (own.Read n i) = n < length w.heap.objects
OwnFits w task wants (own.Write n i v) = n < length w.heap.objects
OwnFits w task wants (own.Look n) = (n < length w.heap.objects) × (length (values_of (object_at w.heap n)) < 2 ^ 31)
OwnFits w task wants (own.Enter effects) = CanEnter w.locks task (get w.waits task)
OwnFits w task wants own.Exit = HasEntry (get w.locks task)
OwnFits w task wants o = Unit {0}

-- an action that the task may make: forks and joins come in turn too
abbrev pub FitsAt : World → ℕ → Option (List Effect) → Action → Type 0
FitsAt w task wants (action.Do o) = OwnFits w task wants o
FitsAt w task wants (action.Fork forking many) = Runs w.tree.tasks task × (many < 2 ^ 32)
FitsAt w task wants (action.Begin b) = CanBegin w.tree.tasks task × (w.tree.begun < 4294967295) × IsOutside w.locks w.tree.begun
FitsAt w task wants action.Join = CanJoin w.tree.tasks task
FitsAt w task wants (action.End e) = Runs w.tree.tasks task

abbrev pub Fits : World → Event → Type 0
Fits w e = FitsAt w e.task e.wants e.action
