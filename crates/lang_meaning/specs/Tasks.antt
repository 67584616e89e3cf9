-- What each task keeps to, whatever it is answered: stated of a task's replies to lists of answers, the latest first.
use Rattle.std.specs.Prelude.{ℕ, suc, ◌≡◌, ◌<◌, ◌≤◌, List, [], ◌∷◌, ◌++◌, length}
use Rattle.lang_typed.specs.Plain.{PlainProgram}
use Rattle.lang_meaning.specs.Values.{Naming}
use Rattle.lang_meaning.specs.Actions.{Frame, Task, Branches, Effect, Ending, Rest, Enter, Action, Do, Fork, Begin, Join, End, Answer, Reply, Next, Over}
use Rattle.lang_meaning.specs.Actions.{Unknown}
use Rattle.lang_meaning.specs.Core.{Result, Prog, Ret, Again, Out, bind, tested, run}
use Rattle.lang_meaning.specs.Asking.{most_ticks, Reported, ticked, reported, ask}

abbrev pub Replies : Type 0 → Type 0 → Type 0
Replies N M = List (Answer N M) → Reply N M (Task N M)

-- after these answers this comes next, after some ticks
abbrev pub Asks : {N M : Type 0} → Replies N M → List (Answer N M) → Action N M (Task N M) → Type 0
Asks m got a = (ticks : ℕ) × (m got ≡ Next ticks a)

-- nothing comes after an end; after a fork come one begin for each branch, in order, and the join, whatever is answered, all
-- without a tick
pub record Disciplined {N M : Type 0} (m : Replies N M) : Type 0 where
  pub over : (got : List (Answer N M)) (x : Ending N) (a : Answer N M) → Asks m got (End x) → m (a ∷ got) ≡ Over
  pub begins : (got since : List (Answer N M)) (ts : Branches (Task N M)) (k : ℕ)
      → Asks m got (Fork ts) → length since ≡ suc k → k < length ts.tasks → m (since ++ got) ≡ Next 0 (Begin k)
  pub joins : (got since : List (Answer N M)) (ts : Branches (Task N M))
      → Asks m got (Fork ts) → length since ≡ suc (length ts.tasks) → m (since ++ got) ≡ Next 0 Join

-- it has got so many answers since that to a fork of these branches
pub record AfterFork {N M : Type 0} (m : Replies N M) (got : List (Answer N M)) (ts : Branches (Task N M)) (many : ℕ) : Type 0 where
  pub since : List (Answer N M)
  pub answer : Answer N M
  pub earlier : List (Answer N M)
  pub is : got ≡ since ++ answer ∷ earlier
  pub number : length since ≡ many
  pub forks : Asks m earlier (Fork ts)

-- it is known what comes next, and something does until the task has ended; and it joins only after a fork and its begins
pub record Lively {N M : Type 0} (m : Replies N M) : Type 0 where
  pub known : (got : List (Answer N M)) → m got ≡ Unknown → ⊥
  pub starts : m [] ≡ Over → ⊥
  pub goes_on : (got : List (Answer N M)) (a : Answer N M) (c : Action N M (Task N M)) → Asks m got c → m (a ∷ got) ≡ Over → (x : Ending N) × (c ≡ End x)
  pub joins_forked : (got : List (Answer N M)) → Asks m got Join → (ts : Branches (Task N M)) × AfterFork m got ts (length ts.tasks)

-- it begins a branch only after the fork, in turn
pub record InTurn {N M : Type 0} (m : Replies N M) : Type 0 where
  pub begins_forked : (got : List (Answer N M)) (b : ℕ) → Asks m got (Begin b) → (ts : Branches (Task N M)) × (b < length ts.tasks) × AfterFork m got ts b

-- a rest that no ticks stand before stands in front of an entry, which no ticks stand before either; and no more ticks than
-- may be stand before an action, and so many before a rest alone
pub record Paced {N M : Type 0} (m : Replies N M) : Type 0 where
  pub enters : (got : List (Answer N M)) (a : Answer N M) → m got ≡ Next 0 (Do Rest) → (E : List (Effect M)) × (m (a ∷ got) ≡ Next 0 (Do (Enter E)))
  pub few : (got : List (Answer N M)) (n : ℕ) (a : Action N M (Task N M)) → m got ≡ Next n a → n ≤ most_ticks
  pub rests : (got : List (Answer N M)) (a : Action N M (Task N M)) → m got ≡ Next most_ticks a → a ≡ Do Rest

-- each task of each program, whatever names objects and local regions
abbrev pub IsDisciplined : Type 0 → Type 0 → Type 0
IsDisciplined N M = (names : Naming N M) (P : PlainProgram) (t : Task N M) → Disciplined (ask names P t)

abbrev pub IsLively : Type 0 → Type 0 → Type 0
IsLively N M = (names : Naming N M) (P : PlainProgram) (t : Task N M) → Lively (ask names P t)

abbrev pub IsInTurn : Type 0 → Type 0 → Type 0
IsInTurn N M = (names : Naming N M) (P : PlainProgram) (t : Task N M) → InTurn (ask names P t)

abbrev pub IsPaced : Type 0 → Type 0 → Type 0
IsPaced N M = (names : Naming N M) (P : PlainProgram) (t : Task N M) → Paced (ask names P t)

-- a loop is its test, and where that is true a tick, its body and the loop again: no bound of a loop runs out
abbrev pub again : {N M : Type 0} → Naming N M → (test body : Frame N M → Prog N M) → Frame N M → Reported N M → Out N M (Result N M) (Reported N M)
again names test body f w = run (reported names) (Again test body f (λ r. Ret r)) w

abbrev pub LoopsAgain : Type 0 → Type 0 → Type 0
LoopsAgain N M = (names : Naming N M) (test body : Frame N M → Prog N M) (f : Frame N M) (w : Reported N M) → w.since < most_ticks
    → again names test body f w ≡ bind (run (reported names) (test f) w)
    (λ r v. tested ticked (λ g u. run (reported names) (body g) u) (λ g u. again names test body g u) r v)
