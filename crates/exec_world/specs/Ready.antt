-- Which tasks can make their next event.
use Rattle.std.specs.Prelude.{◌≡◌, ℕ, ◌<◌, false, List, IsTrue, Option, Some, None}
use Rattle.std.specs.FinMap.{get}
use Rattle.lang_base.specs.declared.effect.Effect.{Effect}
use Rattle.exec_locks.specs.Locks.{Standings, MayEnter, is_inside, hinders}
use Rattle.exec_tasks.specs.Tree.{is_ready}
use Rattle.exec_world.specs.Waits.{wanted}
use Rattle.exec_world.specs.declared.ready.Readiness.{Readiness}
use Rattle.exec_world.specs.declared.ready.Readiness.TheVariants as readiness
use Rattle.exec_world.specs.declared.world.World.{World}

-- in front of an entry with these effects: none, where it stands in front of no entry
abbrev pub IsFreeFor : Standings → ℕ → Option (List Effect) → Type 0
IsFreeFor locks task None = Unit {0}
IsFreeFor locks task (Some effects) = MayEnter locks task effects

-- no block of another task hinders it
abbrev pub IsFreeToEnter : World → ℕ → Type 0
IsFreeToEnter w task = IsFreeFor w.locks task (get w.waits task)

-- it doesn't wait for its branches, and nothing hinders it in front of an entry
abbrev pub IsReady : World → ℕ → Type 0
IsReady w task = IsTrue (is_ready w.tree task) × IsFreeToEnter w task

abbrev pub NoneReady : World → Type 0
NoneReady w = (q : ℕ) → IsReady w q → ⊥

pub record IsGreatestReady (w : World) (task : ℕ) : Type 0 where
  pub itself : IsReady w task
  pub greatest : (q : ℕ) → task < q → IsReady w q → ⊥

-- the same, of the tasks below a bound
abbrev pub NoneReadyBelow : World → ℕ → Type 0
NoneReadyBelow w bound = (q : ℕ) → q < bound → IsReady w q → ⊥

pub record IsGreatestBelow (w : World) (bound task : ℕ) : Type 0 where
  pub itself : IsReady w task
  pub below : task < bound
  pub greatest : (q : ℕ) → task < q → q < bound → IsReady w q → ⊥

-- the open block of a holder hinders a task in front of an entry with these effects, which stands inside no block
pub record IsHindrance (locks : Standings) (task : ℕ) (wants : List Effect) (holder : ℕ) : Type 0 where
  pub outside : is_inside locks task ≡ false
  pub itself : IsTrue (hinders locks task wants holder)

abbrev pub IsHindered : World → ℕ → ℕ → Type 0
IsHindered w task holder = IsHindrance w.locks task (wanted (get w.waits task)) holder

-- a task is ready, or it can't go on in the tree, or it is hindered
abbrev pub ReadsAs : World → ℕ → Readiness → Type 0
ReadsAs w task readiness.Ready = IsReady w task
ReadsAs w task readiness.Unready = is_ready w.tree task ≡ false
ReadsAs w task (readiness.Hindered by) = IsHindered w task by
