-- The run that a schedule records: each number is a ready task, which makes its next event.
use Rattle.std.specs.Prelude.{◌≡◌, ℕ, ◌+◌, ◌≤◌, ◌<◌, ℤ, pos, ◌==◌, if◌then◌else◌, List, [], ◌∷◌, length, Option, Some, None, option_map, slice_get}
use Rattle.lang_base.specs.declared.outcome.Ending.{Ending as Came}
use Rattle.lang_base.specs.declared.outcome.Ending.TheVariants as came
use Rattle.lang_base.specs.declared.outcome.Limits.{Limits}
use Rattle.lang_base.specs.declared.outcome.Outcome.{Outcome}
use Rattle.lang_base.specs.declared.value.Value.{Value}
use Rattle.lang_base.specs.declared.value.Value.TheVariants as value
use Rattle.code_instrs.specs.declared.code.Code.{Code}
use Rattle.code_instrs.specs.RunsToActions.{Halt, RunsToAction}
use Rattle.code_instrs.specs.Machine.{State, Start, root_start}
use Rattle.code_instrs.specs.Plain.{PlainCode, plain_code}
use Rattle.exec_heap.specs.Heap.{instance, with_object}
use Rattle.exec_task.specs.Branches.{starts_at}
use Rattle.exec_task.specs.Halts.{IsActionOf}
use Rattle.exec_task.specs.Names.{names_of}
use Rattle.exec_task.specs.declared.action.Action.{Action}
use Rattle.exec_task.specs.declared.action.Action.TheVariants as action
use Rattle.exec_task.specs.declared.action.Answer.{Answer}
use Rattle.exec_task.specs.declared.action.Ending.{Ending}
use Rattle.exec_task.specs.declared.action.Ending.TheVariants as ending
use Rattle.exec_tasks.specs.Tree.{task_at, out_of}
use Rattle.exec_world.specs.Costs.{Within, first_fields}
use Rattle.exec_world.specs.Ready.{IsReady}
use Rattle.exec_world.specs.World.{at_start as world_at_start, with_heap, answer_to, world_after, Fits}
use Rattle.exec_world.specs.declared.event.Event.{Event}
use Rattle.exec_world.specs.declared.world.World.{World}
use Rattle.exec_machine.specs.Running.{Running, at_start, front, answered}
use Rattle.exec_machine.specs.Wants.{WantsRightly}

-- a moment of a run: the world that its tasks share, the live tasks, and how it came out, once it has
pub record Moment : Type 0 where
  pub world : World
  pub tasks : ℕ → Option Running
  pub outcome : Option Outcome

-- a task of a run stands here, at an action
pub record Standing (C : PlainCode) (k : ℕ) (t : Running) (e : Event) : Type 0 where
  pub state : State ℕ (ℕ × ℕ)
  pub made : ℕ
  pub run_to_action : RunsToAction (names_of k) C t.made t.state (front C k e.ticks made state)
  pub is_action : IsActionOf C e.action (front C k e.ticks made state)
  pub number : e.task ≡ k
  pub wants : WantsRightly C state e.ticks e.action e.wants

-- tasks with one in the place of what was there
abbrev pub with_task : (ℕ → Option Running) → ℕ → Option Running → ℕ → Option Running
with_task tasks k x q = if q == k then x else tasks q

-- how a task goes on after its event: not at all, where it ends
abbrev pub goes_on : Action → Halt ℕ (ℕ × ℕ) → Answer → Option Running
goes_on (action.End e) h x = None
goes_on a h x = answered h x

abbrev pub begun : Option (Start ℕ (ℕ × ℕ)) → Option Running
begun b = option_map at_start b

-- the tasks with the branch that an action begins, where the task stands here. The next number is its name
abbrev pub with_branch : PlainCode → State ℕ (ℕ × ℕ) → Action → ℕ → (ℕ → Option Running) → ℕ → Option Running
with_branch C z (action.Begin b) next tasks = with_task tasks next (begun (slice_get (starts_at C z) b))
with_branch C z a next tasks = tasks

-- how a run comes out whose root ends so: `main` gives an int
abbrev pub number_given : Value → ℤ
number_given (value.Int n) = n
number_given (value.Bool b) = pos 0
number_given value.Null = pos 0
number_given (value.Obj n) = pos 0

abbrev pub came_to : Ending → Came
came_to (ending.Returned v) = came.Done (number_given v)
came_to (ending.Assigned slots) = came.Done (pos 0)
came_to (ending.Trapped trap place) = came.Trapped trap place

abbrev pub limited : Limits → Outcome
limited L = record { ending = came.Limited; out = []; steps = L.steps; cells = L.cells }

-- the end of the root ends the run, with what the root has printed, and what the run has cost
abbrev pub ended : World → World → ℕ → Ending → Option Outcome
ended before after k e =
    if k == 0 then Some (record { ending = came_to e; out = out_of (task_at before.tree 0); steps = after.steps; cells = after.heap.used }) else None

abbrev pub outcome_after : World → World → ℕ → Action → Option Outcome
outcome_after before after k (action.End e) = ended before after k e
outcome_after before after k a = None

-- a ready task's next event
pub record NextOf (C : PlainCode) (m : Moment) (k : ℕ) (e : Event) : Type 0 where
  pub unfinished : m.outcome ≡ None
  pub ready : IsReady m.world k
  pub task : Running
  pub there : m.tasks k ≡ Some task
  pub stands : Standing C k task e

-- a start that is there, in a body of the code
abbrev pub StartsIn : PlainCode → Option (Start ℕ (ℕ × ℕ)) → Type 0
StartsIn C None = ⊥
StartsIn C (Some b) = b.body < length C.bodies

-- where a task stands that begins a branch, there is a start of that branch, in a body of the code
abbrev pub HasStart : PlainCode → State ℕ (ℕ × ℕ) → Action → Type 0
HasStart C z (action.Begin b) = StartsIn C (slice_get (starts_at C z) b)
HasStart C z a = Unit {0}

-- an event can be made here by a task that stands there
pub record CanBeMade (C : PlainCode) (w : World) (e : Event) (z : State ℕ (ℕ × ℕ)) : Type 0 where
  pub fits : Fits w e
  pub starts : HasStart C z e.action

-- the moment after an event that keeps to the limits
abbrev pub after : Code → Moment → (e : Event) → State ℕ (ℕ × ℕ) → ℕ → Moment
after code m e z made = record {
  world = world_after code m.world e;
  tasks = with_task (with_branch (plain_code code) z e.action m.world.tree.begun m.tasks) e.task
      (goes_on e.action (front (plain_code code) e.task e.ticks made z) (answer_to m.world e));
  outcome = outcome_after m.world (world_after code m.world e) e.task e.action;
}

-- a ready task makes its next event, which it can make; where that would be over a limit, the run is finished
pub data Moves (code : Code) (L : Limits) (m : Moment) (k : ℕ) (n : Moment) : Type 0 where
  made : (e : Event) (x : NextOf (plain_code code) m k e) → CanBeMade (plain_code code) m.world e x.stands.state → Within code m.world e
      → n ≡ after code m e x.stands.state x.stands.made → Moves code L m k n
  over : (e : Event) (x : NextOf (plain_code code) m k e) → CanBeMade (plain_code code) m.world e x.stands.state → (Within code m.world e → ⊥)
      → n ≡ record { world = m.world; tasks = m.tasks; outcome = Some (limited L) } → Moves code L m k n

-- a ready task can't make its next event: the run is stuck there
pub record IsStuck (C : PlainCode) (m : Moment) (k : ℕ) : Type 0 where
  pub event : Event
  pub next : NextOf C m k event
  pub unmade : CanBeMade C m.world event next.stands.state → ⊥

-- at the start the root alone has begun, with `main` on its object; the run is finished where there aren't cells for that
abbrev pub root_alone : Code → ℤ → ℕ → Option Running
root_alone code argument k = if k == 0 then Some (at_start (root_start (names_of 0) (plain_code code) 0 argument)) else None

pub data Opens (code : Code) (L : Limits) (argument : ℤ) (m : Moment) : Type 0 where
  opened : length (first_fields code code.main_class) + 1 ≤ L.cells → m ≡ record {
    world = with_heap (world_at_start L) (with_object (world_at_start L).heap (instance code.main_class [] (first_fields code code.main_class)));
    tasks = root_alone code argument;
    outcome = None;
  } → Opens code L argument m
  no_room : L.cells < length (first_fields code code.main_class) + 1 → m ≡ record {
    world = world_at_start L;
    tasks = root_alone code argument;
    outcome = Some (limited L);
  } → Opens code L argument m

-- where a schedule leads, of which the latest number stands first
abbrev pub LeadsTo : Code → Limits → ℤ → List ℕ → Moment → Type 0
LeadsTo code L argument [] m = Opens code L argument m
LeadsTo code L argument (k ∷ ks) m = (before : Moment) × LeadsTo code L argument ks before × Moves code L before k m
