-- The run queue and the wait queues of a world.
use Rattle.std.specs.Prelude.{◌≡◌, ◌≢◌, ◌⊎◌, ℕ, Bool, true, false, Option, Some, None}
use Rattle.std.specs.Ordering.{nat_cmp}
use Rattle.std.specs.BTreeMap as tree_map
use Rattle.std.specs.declared.alloc.Global.{Global}
use Rattle.std.specs.declared.collections.BTreeMap.{BTreeMap}
use Rattle.std.specs.FinMap.{get}
use Rattle.exec_task.specs.declared.action.Action.{Action}
use Rattle.exec_task.specs.declared.action.Action.TheVariants as action
use Rattle.exec_task.specs.declared.action.Own.{Own}
use Rattle.exec_task.specs.declared.action.Own.TheVariants as own
use Rattle.exec_locks.specs.Locks.{Standings, is_outermost}
use Rattle.exec_tasks.specs.declared.task.Origin.{Origin}
use Rattle.exec_tasks.specs.Tree.{Tree, is_ready, task_at, origin_of}
use Rattle.exec_world.specs.Ready.{IsHindrance}
use Rattle.exec_world.specs.Waits.{Waiting, wanted}
use Rattle.exec_world.specs.Words.{Words, Has}
use Rattle.exec_world.specs.declared.event.Event.{Event}
use Rattle.exec_world.specs.declared.queues.Queues.{Queues}
use Rattle.exec_world.specs.declared.world.World.{World}

-- sets of tasks under the numbers of others
abbrev pub Sets : Type 0
Sets = BTreeMap ℕ Words Global

abbrev pub HasIn : Option Words → ℕ → Type 0
HasIn None q = ⊥
HasIn (Some set) q = Has set q

abbrev pub HasUnder : Sets → ℕ → ℕ → Type 0
HasUnder sets number q = HasIn (tree_map.get nat_cmp sets number) q

-- the task is in the run queue
abbrev pub Runs : Queues → ℕ → Type 0
Runs queues task = Has queues.run task

-- the task is in the wait queue of the holder
abbrev pub Waits : Queues → ℕ → ℕ → Type 0
Waits queues holder task = HasUnder queues.wait holder task

abbrev pub NoneWaits : Queues → ℕ → Type 0
NoneWaits queues holder = (q : ℕ) → Waits queues holder q → ⊥

-- a task is in the run queue, or it can't go on in the tree, or it is in the wait queue of one that hinders it
pub data HasPlace (tree : Tree) (locks : Standings) (waits : Waiting) (queues : Queues) (task : ℕ) : Type 0 where
  runs : Runs queues task → HasPlace tree locks waits queues task
  unready : is_ready tree task ≡ false → HasPlace tree locks waits queues task
  hindered : (holder : ℕ) → Waits queues holder task → IsHindrance locks task (wanted (get waits task)) holder → HasPlace tree locks waits queues task

-- so that each that is ready is in the run queue
abbrev pub AllHavePlaces : World → Queues → Type 0
AllHavePlaces w queues = (q : ℕ) → HasPlace w.tree w.locks w.waits queues q

-- no task leaves the run queue, and one that leaves a wait queue comes into the run queue
pub record Keeps (old new : Queues) : Type 0 where
  pub run : (q : ℕ) → Runs old q → Runs new q
  pub wait : (holder q : ℕ) → Waits old holder q → Waits new holder q ⊎ Runs new q

-- no other task leaves a queue
pub record KeepsOthers (task : ℕ) (old new : Queues) : Type 0 where
  pub run : (q : ℕ) → q ≢ task → Runs old q → Runs new q
  pub wait : (holder q : ℕ) → Waits old holder q → Waits new holder q

-- nor does the task, unless it comes into the wait queue of the holder
pub record IsPutAside (task holder : ℕ) (old new : Queues) : Type 0 where
  pub others : KeepsOthers task old new
  pub itself : Runs old task → Runs new task ⊎ Waits new holder task

abbrev pub parent_in : Option Origin → Option ℕ
parent_in None = None
parent_in (Some origin) = Some origin.parent

-- the task that has begun another
abbrev pub parent_of : Tree → ℕ → Option ℕ
parent_of tree task = parent_in (origin_of (task_at tree task))

abbrev pub RunsSome : Queues → Option ℕ → Type 0
RunsSome queues None = Unit {0}
RunsSome queues (Some task) = Runs queues task

-- what may become ready by what the task does by itself is in the run queue
abbrev pub OwnAdmits : World → Queues → ℕ → Own → Type 0
OwnAdmits w queues task own.Rest = Runs queues task
OwnAdmits w queues task own.Exit = is_outermost (get w.locks task) ≡ true → NoneWaits queues task
OwnAdmits w queues task o = Unit {0}

-- and by any action
abbrev pub AdmitsAt : World → Queues → ℕ → Action → Type 0
AdmitsAt w queues task (action.Do o) = OwnAdmits w queues task o
AdmitsAt w queues task (action.Fork forking many) = Unit {0}
AdmitsAt w queues task (action.Begin b) = Runs queues w.tree.begun
AdmitsAt w queues task action.Join = Unit {0}
AdmitsAt w queues task (action.End e) = RunsSome queues (parent_of w.tree task) × NoneWaits queues task

abbrev pub Admits : World → Queues → Event → Type 0
Admits w queues e = AdmitsAt w queues e.task e.action

abbrev pub is_end : Action → Bool
is_end (action.End e) = true
is_end a = false
