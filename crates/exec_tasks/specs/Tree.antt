-- A tree of tasks: the live ones by number, each with its step from its parent and with its open scope.
use Rattle.std.specs.Prelude.{◌≡◌, ℕ, ◌+◌, ◌-◌, ◌<◌, min, Bool, true, false, List, [], ◌∷◌, ◌++◌, length, IsTrue, Option, Some, None, refl}
use Rattle.std.specs.Coded.{Coded, code_by, coded×, coded_ℕ, coded_option}
use Rattle.std.specs.Ordering.{nat_cmp}
use Rattle.std.specs.FinMap.{FinMap, code, empty, get, insert, remove}
use Rattle.lang_base.specs.declared.path.PathStep.{PathStep}
use Rattle.exec_tasks.specs.Scope.{Branches, no_branch_yet, with_branch, with_end, can_go_on, all_begun, all_ended}
use Rattle.lang_base.specs.declared.place.Place.{Place}
use Rattle.lang_base.specs.declared.value.SlotValue.{SlotValue}
use Rattle.lang_base.specs.declared.value.Trap.{Trap}
use Rattle.exec_tasks.specs.Join.{joined_out}
use Rattle.exec_tasks.specs.declared.end.TaskEnd.{TaskEnd}
use Rattle.exec_tasks.specs.declared.task.Origin.{Origin}
use Rattle.exec_tasks.specs.declared.task.State.{State}
use Rattle.exec_tasks.specs.declared.task.State.TheVariants.{Running, Forked}
use Rattle.exec_tasks.specs.declared.task.Task.{Task}

abbrev pub Tasks : Type 0
Tasks = FinMap nat_cmp Task

-- what a contract sees of a tree of tasks: those that have begun and not ended, how many have begun, and how the root
-- ended
pub record Tree : Type 0 where
  pub tasks : Tasks
  pub begun : ℕ
  pub root_end : Option TaskEnd

-- a tree is stored as its parts
abbrev pub tree_code : Coded Task → Coded TaskEnd → Coded Tree
tree_code task end =
    code_by (Tasks × (ℕ × Option TaskEnd)) (coded× (code coded_ℕ task) (coded× coded_ℕ (coded_option end)))
    (λ t. (t.tasks, (t.begun, t.root_end))) (λ p. record { tasks = p.0; begun = p.1.0; root_end = p.1.1 }) (λ _. refl)

abbrev pub task_at : Tree → ℕ → Option Task
task_at tree n = get tree.tasks n

abbrev pub fresh : Option Origin → Task
fresh origin = record { origin = origin; forks = 0; out = []; state = Running }

abbrev pub only_root : Tree
only_root = record { tasks = insert empty 0 (fresh None); begun = 1; root_end = None }

-- a fact of a task, which has begun and not ended
abbrev pub OfTask : Option Task → (Task → Type 0) → Type 0
OfTask None P = ⊥
OfTask (Some task) P = P task

-- a fact of the open scope of a task
abbrev pub OfScope : State → (Branches → Type 0) → Type 0
OfScope Running P = ⊥
OfScope (Forked scope) P = P scope

-- the task has no open scope
abbrev pub Runs : Tasks → ℕ → Type 0
Runs tasks n = OfTask (get tasks n) (λ task. task.state ≡ Running)

-- a branch of the task's open scope hasn't begun
abbrev pub CanBegin : Tasks → ℕ → Type 0
CanBegin tasks n = OfTask (get tasks n) (λ task. OfScope task.state (λ scope. length scope.ends < scope.count))

-- a scope of the task is open, and all its branches have begun and ended
abbrev pub CanJoin : Tasks → ℕ → Type 0
CanJoin tasks n = OfTask (get tasks n) (λ task. OfScope task.state (λ scope. IsTrue (all_begun scope) × IsTrue (all_ended scope)))

-- the task can go on: it has no open scope, or a branch of it can begin, or it can be joined
abbrev pub state_ready : State → Bool
state_ready Running = true
state_ready (Forked scope) = can_go_on scope

abbrev pub ready : Option Task → Bool
ready None = false
ready (Some task) = state_ready task.state

abbrev pub is_ready : Tree → ℕ → Bool
is_ready tree n = ready (task_at tree n)

-- the tasks with another in the place of this one, if it is there
abbrev pub changed_to : Tasks → ℕ → Option Task → (Task → Task) → Tasks
changed_to tasks n None change = tasks
changed_to tasks n (Some task) change = insert tasks n (change task)

abbrev pub changed : Tasks → ℕ → (Task → Task) → Tasks
changed tasks n change = changed_to tasks n (get tasks n) change

-- a count that stands still at its last value
abbrev pub next : ℕ → ℕ
next n = min (n + 1) 4294967295

abbrev pub forked_task : ℕ → Task → Task
forked_task count task = record { origin = task.origin; forks = next task.forks; out = task.out; state = Forked (no_branch_yet count) }

abbrev pub in_scope : (Branches → Branches) → State → State
in_scope change Running = Running
in_scope change (Forked scope) = Forked (change scope)

abbrev pub with_scope : (Branches → Branches) → Task → Task
with_scope change task = record { origin = task.origin; forks = task.forks; out = task.out; state = in_scope change task.state }

abbrev pub scope_ends : State → List (Option TaskEnd)
scope_ends Running = []
scope_ends (Forked scope) = scope.ends

-- the outputs of the branches come after the task's own
abbrev pub joined_task : Task → Task
joined_task task = record { origin = task.origin; forks = task.forks; out = task.out ++ joined_out (scope_ends task.state); state = Running }

abbrev pub printed_task : List ℕ → Task → Task
printed_task bytes task = record { origin = task.origin; forks = task.forks; out = task.out ++ bytes; state = task.state }

abbrev pub branches_begun : State → ℕ
branches_begun Running = 0
branches_begun (Forked scope) = length scope.ends

-- where the next branch of the task comes from
abbrev pub next_origin : ℕ → Option Task → Option Origin
next_origin n None = None
next_origin n (Some task) = Some (record { parent = n; step = record { scope = task.forks - 1; branch = branches_begun task.state } })

-- the task has forked
abbrev pub forked : Tree → ℕ → ℕ → Tree
forked tree n count = record { tasks = changed tree.tasks n (forked_task count); begun = tree.begun; root_end = tree.root_end }

-- the next branch of the task's scope has begun, as a task of its own
abbrev pub with_task : Tree → ℕ → Tree
with_task tree n = record {
  tasks = changed (insert tree.tasks tree.begun (fresh (next_origin n (task_at tree n)))) n (with_scope with_branch);
  begun = tree.begun + 1;
  root_end = tree.root_end;
}

abbrev pub end_noted : Tree → ℕ → Option Origin → TaskEnd → Tree
end_noted tree n None how = record { tasks = remove tree.tasks n; begun = tree.begun; root_end = Some how }
end_noted tree n (Some origin) how = record {
  tasks = changed (remove tree.tasks n) origin.parent (with_scope (λ scope. with_end scope origin.step.branch how));
  begun = tree.begun;
  root_end = tree.root_end;
}

abbrev pub origin_of : Option Task → Option Origin
origin_of None = None
origin_of (Some task) = task.origin

-- what a task has printed
abbrev pub out_of : Option Task → List ℕ
out_of None = []
out_of (Some task) = task.out

abbrev pub end_of : Option Task → Option (Trap × Place) → List SlotValue → TaskEnd
end_of task trap slots = record { out = out_of task; trap = trap; slots = slots }

-- the task has ended: it is forgotten, and its end stands in its parent's scope
abbrev pub without_task : Tree → ℕ → Option (Trap × Place) → List SlotValue → Tree
without_task tree n trap slots = end_noted tree n (origin_of (task_at tree n)) (end_of (task_at tree n) trap slots)

-- the task has printed these bytes
abbrev pub printed : Tree → ℕ → List ℕ → Tree
printed tree n bytes = record { tasks = changed tree.tasks n (printed_task bytes); begun = tree.begun; root_end = tree.root_end }

-- the task has joined its scope
abbrev pub joined : Tree → ℕ → Tree
joined tree n = record { tasks = changed tree.tasks n joined_task; begun = tree.begun; root_end = tree.root_end }

-- the ends in the open scope of a task
abbrev pub ends_in : Option Task → List (Option TaskEnd)
ends_in None = []
ends_in (Some task) = scope_ends task.state

-- a path: the steps from the root to a task
pub data IsPath (tasks : Tasks) : ℕ → List PathStep → Type 0 where
  root : (n : ℕ) → origin_of (get tasks n) ≡ None → IsPath tasks n []
  step : (n : ℕ) (origin : Origin) (steps : List PathStep) → origin_of (get tasks n) ≡ Some origin → IsPath tasks origin.parent steps
      → IsPath tasks n (steps ++ origin.step ∷ [])

-- a fact of a task where there is one
abbrev pub OfEach : Option Task → (Task → Type 0) → Type 0
OfEach None P = Unit {0}
OfEach (Some task) P = P task

abbrev pub OfOrigin : Option Origin → (Origin → Type 0) → Type 0
OfOrigin None P = Unit {0}
OfOrigin (Some origin) P = P origin

-- what a tree keeps: numbers are below the count, and a parent's is below its child's
pub record IsNumbered (tasks : Tasks) (begun : ℕ) : Type 0 where
  pub below : (q : ℕ) → OfEach (get tasks q) (λ task. q < begun)
  pub rising : (q : ℕ) → OfEach (get tasks q) (λ task. OfOrigin task.origin (λ origin. origin.parent < q))
