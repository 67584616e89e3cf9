-- What a task does to the shared world, what it is answered, and what that costs: actions and answers of the meaning, where
-- objects and local regions are named by their makers.
use Rattle.std.specs.Prelude.{ℕ, ◌≡◌, Bool, true, false, List}
use Rattle.lang_typed.specs.declared.stmt.Forking.{Forking}
use Rattle.lang_meaning.specs.Actions.{Task as TaskOf, Branches as BranchesOf, Ending as EndingOf, Own as OwnOf, Action as ActionOf, Answer as AnswerOf}
use Rattle.lang_meaning.specs.Actions.{Reply as ReplyOf}
use Rattle.runs_theory.specs.Objects.{Path, Name, LocalRegion, Effect, Thing}
pub use Rattle.lang_typed.specs.declared.stmt.Forking.TheVariants.{Deterministic, Nondeterministic}
pub use Rattle.lang_meaning.specs.Actions.{Rest, Read, Write, Look, New, Print, Enter, Exit, Do, Fork, Begin, Join, End, Returned, Assigned, Trapped}
pub use Rattle.lang_meaning.specs.Actions.{Went, Got, Out, Class, Length, Named, Joined, Fell, Next, Over, Unknown}
pub use Rattle.lang_meaning.specs.Costs.{own_steps, own_cells}

-- what a task is to do; the laws look at nothing of it
abbrev pub Task : Type 0
Task = TaskOf Name LocalRegion

abbrev pub is_deterministic : Forking → Bool
is_deterministic Deterministic = true
is_deterministic Nondeterministic = false

abbrev pub Branches : Type 0
Branches = BranchesOf Task

abbrev pub Ending : Type 0
Ending = EndingOf Name

abbrev pub Own : Type 0
Own = OwnOf Name LocalRegion

abbrev pub Action : Type 0
Action = ActionOf Name LocalRegion Task

abbrev pub Answer : Type 0
Answer = AnswerOf Name LocalRegion

abbrev pub Reply : Type 0
Reply = ReplyOf Name LocalRegion Task

-- what the task of this name does next, given the answers so far, of which the latest stands first
abbrev pub Meaning : Type 0
Meaning = Path → Task → List Answer → Reply

-- whether a block with the second effects may be entered while one with the first is open
abbrev pub Rule : Type 0
Rule = List Effect → List Effect → Bool

-- a program, as the laws see it: what its tasks do, what the root is to do, the object that stands at the start, and its rule
-- of open blocks
pub record Program : Type 0 where
  pub meaning : Meaning
  pub root : Task
  pub object : Thing
  pub rule : Rule

-- after these answers the task does this next, after some ticks
abbrev pub Asks : Program → Path → Task → List Answer → Action → Type 0
Asks P p t got a = (ticks : ℕ) × (P.meaning p t got ≡ Next ticks a)

-- the steps of an action, besides its ticks
abbrev pub steps : Action → ℕ
steps (Do o) = own_steps o
steps (Fork ts) = 1
steps (Begin b) = 1
steps Join = 1
steps (End x) = 0

-- and its cells
abbrev pub cells : Action → ℕ
cells (Do o) = own_cells o
cells (Fork ts) = 0
cells (Begin b) = 0
cells Join = 0
cells (End x) = 0
