-- Rounds of a run of the source. Of the schedules here the latest number stands first.
use Rattle.std.specs.Prelude.{ℕ, ◌≡◌, ◌↔◌, ◌+◌, List, [], ◌∷◌, Contains}
use Rattle.std.specs.List.Sorted.{IsStrictlyIncreasing}
use Rattle.lang_base.specs.declared.outcome.Limits.{Limits}
use Rattle.runs_theory.specs.Actions.{Ending, Program}
use Rattle.runs_theory.specs.Order.{Outcome}
use Rattle.runs_theory.specs.Runs.{Ended, Event, Run}
use Rattle.runs_theory.specs.Schedules.{Finished, Ran, Ready}

-- the task of this number has a next event
abbrev pub IsReadyIn : Program → Run → ℕ → Type 0
IsReadyIn Q R k = (e : Event) × Ready Q R k e

-- the turn of a task: its event is the next; or it is left out, since it isn't ready in the run so far, or that has finished
pub data IsTurn (Q : Program) (L : Limits) (before : List ℕ) (k : ℕ) : List ℕ → Type 0 where
  made : (R : Run) → Ran Q L before R → IsReadyIn Q R k → IsTurn Q L before k (k ∷ before)
  not_ready : (R : Run) → Ran Q L before R → (IsReadyIn Q R k → ⊥) → IsTurn Q L before k before
  finished : (o : Outcome) → Finished Q L before o → IsTurn Q L before k before

-- each of these tasks has had its turn, one after another
abbrev pub HadTurns : Program → Limits → List ℕ → List ℕ → List ℕ → Type 0
HadTurns Q L before [] after = after ≡ before
HadTurns Q L before (k ∷ ks) after = (middle : List ℕ) × IsTurn Q L before k middle × HadTurns Q L middle ks after

-- a round of a run whose root hasn't ended: exactly the tasks that are ready as it begins have their turns, in the order in which they began
pub record IsRound (Q : Program) (L : Limits) (before after : List ℕ) : Type 0 where
  pub run : Run
  pub ran : Ran Q L before run
  pub goes_on : (x : Ending) → Ended run [] x → ⊥
  pub tasks : List ℕ
  pub ascending : IsStrictlyIncreasing tasks
  pub ready : (k : ℕ) → Contains tasks k ↔ IsReadyIn Q run k
  pub turns : HadTurns Q L before tasks after

-- a schedule is that of so many rounds from the start on
pub data IsByRounds (Q : Program) (L : Limits) : ℕ → List ℕ → Type 0 where
  none : IsByRounds Q L 0 []
  one_more : (rounds : ℕ) (before after : List ℕ) → IsByRounds Q L rounds before → IsRound Q L before after → IsByRounds Q L (rounds + 1) after
