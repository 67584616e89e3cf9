-- What the laws ask of a program, and nothing else.
use Rattle.std.specs.Prelude.{ℕ, suc, ◌≡◌, ◌<◌, List, [], ◌∷◌, ◌++◌, length, Some}
use Rattle.runs_theory.specs.Objects.{Path, Effect}
use Rattle.runs_theory.specs.Actions.{Task, Branches, Ending, Own, Rest, Enter, Action, Do, Fork, Begin, Join, End, Answer, Next, Over, Unknown, Program, Asks}
use Rattle.runs_theory.specs.Runs.{Run, mine, answers, Begun, reply}
use Rattle.runs_theory.specs.Blocks.{Legal}

-- nothing comes after an end; after a fork come one begin for each branch, in order, and the join
pub record Disciplined (P : Program) : Type 0 where
  pub over : (p : Path) (t : Task) (got : List Answer) (x : Ending) (a : Answer) → Asks P p t got (End x) → P.meaning p t (a ∷ got) ≡ Over
  pub begins : (p : Path) (t : Task) (got since : List Answer) (ts : Branches) (k : ℕ)
      → Asks P p t got (Fork ts) → length since ≡ suc k → k < length ts.tasks → Asks P p t (since ++ got) (Begin k)
  pub joins : (p : Path) (t : Task) (got since : List Answer) (ts : Branches)
      → Asks P p t got (Fork ts) → length since ≡ suc (length ts.tasks) → Asks P p t (since ++ got) Join

-- the task has got so many answers since that to this fork
pub record AfterFork (P : Program) (p : Path) (t : Task) (got : List Answer) (ts : Branches) (many : ℕ) : Type 0 where
  pub since : List Answer
  pub answer : Answer
  pub earlier : List Answer
  pub is : got ≡ since ++ answer ∷ earlier
  pub number : length since ≡ many
  pub forks : Asks P p t earlier (Fork ts)

-- it is known what a task does next, and it does something until it has ended; it joins only after a fork and its begins
pub record Lively (P : Program) : Type 0 where
  pub known : (p : Path) (t : Task) (got : List Answer) → P.meaning p t got ≡ Unknown → ⊥
  pub starts : (p : Path) (t : Task) → P.meaning p t [] ≡ Over → ⊥
  pub goes_on : (p : Path) (t : Task) (got : List Answer) (a : Answer) (c : Action) → Asks P p t got c → P.meaning p t (a ∷ got) ≡ Over
      → (x : Ending) × (c ≡ End x)
  pub joins_forked : (p : Path) (t : Task) (got : List Answer) → Asks P p t got Join → (ts : Branches) × AfterFork P p t got ts (length ts.tasks)

-- a task begins a branch only after the fork, in turn
pub record InTurn (P : Program) : Type 0 where
  pub begins_forked : (p : Path) (t : Task) (got : List Answer) (b : ℕ) → Asks P p t got (Begin b) → (ts : Branches) × (b < length ts.tasks)
      × AfterFork P p t got ts b

-- a rest that no ticks stand before stands in front of an entry
pub record Paced (P : Program) : Type 0 where
  pub enters : (p : Path) (t : Task) (got : List Answer) (a : Answer) → P.meaning p t got ≡ Next 0 (Do Rest) → (E : List Effect)
      × Asks P p t (a ∷ got) (Do (Enter E))

-- where a task of a legal run next acts on an object, something has that name
pub record Known (P : Program) : Type 0 where
  pub replies : (R : Run) → Legal P R → (p : Path) (t : Task) → Begun P R p t → (o : Own) → Asks P p t (answers (mine R p)) (Do o)
      → (a : Answer) × (reply P R p o ≡ Some a)
