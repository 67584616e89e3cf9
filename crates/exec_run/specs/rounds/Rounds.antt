-- What a round of a machine makes.
use Rattle.std.specs.Prelude.{◌≡◌, ◌↔◌, ◌⊎◌, ℕ, ◌+◌, ◌≤◌, length, List, [], ◌∷◌, ◌++◌, Contains, None, IsSome}
use Rattle.std.specs.List.Sorted.{IsStrictlyIncreasing}
use Rattle.exec_world.specs.Ready.{IsReady}
use Rattle.exec_world.specs.declared.world.World.{World}
use Rattle.exec_machine.specs.Keeping.{Played, IsAfter, HasEnded, WhyHaltedAt, most_events}
use Rattle.exec_machine.specs.declared.halted.Halted.{Halted}
use Rattle.exec_machine.specs.declared.halted.Halted.TheVariants.{NoMemory}

-- the tasks of a world that are ready, in ascending order
pub record AreReady (w : World) (tasks : List ℕ) : Type 0 where
  pub ascending : IsStrictlyIncreasing tasks
  pub all : (k : ℕ) → Contains tasks k ↔ IsReady w k

-- the turn of a task: it makes its next event if it is ready, and else it is left out, as it is once the machine has finished
pub data IsTurn (before : Played) (k : ℕ) : Played → Type 0 where
  finished : IsSome before.outcome → IsTurn before k before
  not_ready : (IsReady before.world k → ⊥) → IsTurn before k before
  made : (after : Played) → before.outcome ≡ None → IsReady before.world k → IsAfter before k after → IsTurn before k after

-- each of these tasks has had its turn, one after another
abbrev pub HadTurns : Played → List ℕ → Played → Type 0
HadTurns before [] after = after ≡ before
HadTurns before (k ∷ ks) after = (middle : Played) × IsTurn before k middle × HadTurns middle ks after

-- the machine has finished, or has made as many events as a run has at most
abbrev pub IsOver : Played → Type 0
IsOver p = IsSome p.outcome ⊎ (most_events ≤ length p.schedule)

-- a round of a machine that hasn't finished: each task that is ready as it begins has its turn
pub record IsRound (before after : Played) : Type 0 where
  pub unfinished : before.outcome ≡ None
  pub tasks : List ℕ
  pub ready : AreReady before.world tasks
  pub turns : HadTurns before tasks after

-- so many rounds, one after another, each of a machine that hasn't ended
pub data RoundsOn (before : Played) : ℕ → Played → Type 0 where
  here : RoundsOn before 0 before
  further : (rounds : ℕ) (middle after : Played) → RoundsOn before rounds middle → (HasEnded middle → ⊥) → IsRound middle after
      → RoundsOn before (rounds + 1) after

-- the event of one of these tasks is not made when its turn comes
pub record TurnsBreakOff (before : Played) (tasks : List ℕ) (after : Played) (h : Halted) : Type 0 where
  pub done : List ℕ
  pub task : ℕ
  pub left : List ℕ
  pub are : tasks ≡ done ++ task ∷ left
  pub turns : HadTurns before done after
  pub why : WhyHaltedAt after task h

-- a round breaks off: since memory runs out before its first turn, or in one
pub data BreaksOff (before : Played) : Played → Halted → Type 0 where
  at_once : BreaksOff before before NoMemory
  within : (after : Played) (h : Halted) (tasks : List ℕ) → AreReady before.world tasks → TurnsBreakOff before tasks after h → BreaksOff before after h

-- some rounds were made, and the next one breaks off
pub record RoundsBreakOff (before after : Played) (h : Halted) : Type 0 where
  pub middle : Played
  pub count : ℕ
  pub rounds : RoundsOn before count middle
  pub breaks : BreaksOff middle after h
