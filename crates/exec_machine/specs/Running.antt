-- The tasks of a run, and what stands for them.
use Rattle.std.specs.Prelude.{◌≡◌, ◌<◌, ◌+◌, ◌^◌, ℕ, ◌==◌, if◌then◌else◌, Option, Some, None}
use Rattle.std.specs.Ordering.{nat_cmp}
use Rattle.std.specs.FinMap.{FinMap, get}
use Rattle.lang_meaning.specs.Actions.{Do, Rest}
use Rattle.lang_meaning.specs.Asking.{most_ticks}
use Rattle.code_instrs.specs.RunsToActions.{Halt, Asks, Finished, Dead, RunsToAction}
use Rattle.code_instrs.specs.Machine.{State, Start, begins_at, step}
use Rattle.code_instrs.specs.Plain.{PlainCode}
use Rattle.exec_task.specs.Answers.{IsCounted}
use Rattle.exec_task.specs.Halts.{Halts, stands, front_of, IsActionOf, Ends, Paced}
use Rattle.exec_task.specs.Names.{names_of}
use Rattle.exec_task.specs.Tasks.{plain_answer, plain_start}
use Rattle.exec_task.specs.declared.task.Start.{Start as DeclaredStart}
use Rattle.exec_task.specs.declared.action.Action.{Action}
use Rattle.exec_task.specs.declared.action.Answer.{Answer}
use Rattle.exec_task.specs.declared.task.Task.{Task}
use Rattle.exec_machine.specs.declared.slot.Slot.{Slot}

-- a task of a run: where it goes on after its last answer, and how many local regions it has made
pub record Running : Type 0 where
  pub state : State ℕ (ℕ × ℕ)
  pub made : ℕ

abbrev pub at_start : Start ℕ (ℕ × ℕ) → Running
at_start b = record { state = begins_at b; made = 0 }

-- where a task of this number stands on its way to its next action, that has made so many ticks and local regions
abbrev pub front : PlainCode → ℕ → ℕ → ℕ → State ℕ (ℕ × ℕ) → Halt ℕ (ℕ × ℕ)
front C k ticks made z = if ticks == most_ticks then Asks ticks made (Do Rest) (λ x. z) else stands ticks made (step (names_of k) C z)

-- how a task goes on that is answered where it stands
abbrev pub answered : Halt ℕ (ℕ × ℕ) → Answer → Option Running
answered (Asks ticks made a k) x = Some (record { state = k (plain_answer x); made = made })
answered (Finished ticks e) x = None
answered Dead x = None

-- it comes to a next action, and isn't stuck; and there are names for the local regions that it makes
pub record Goes (C : PlainCode) (k : ℕ) (t : Running) : Type 0 where
  pub halt : Halt ℕ (ℕ × ℕ)
  pub run_to_action : RunsToAction (names_of k) C t.made t.state halt
  pub alive : halt ≡ Dead → ⊥
  pub names : t.made + 4096 < 2 ^ 32

-- a task that has its last answer is on the way to its next action
pub record OnItsWay (C : PlainCode) (k : ℕ) (s : Task) (t : Running) : Type 0 where
  pub number : s.number ≡ k
  pub way : (h : Halt ℕ (ℕ × ℕ)) → Halts C s h → RunsToAction (names_of k) C t.made t.state h
  pub ends : Ends C s
  pub paced : Paced s

-- a task to which the answer is still to be given
pub record IsAnswered (C : PlainCode) (k : ℕ) (s : Task) (x : Answer) (t : Running) : Type 0 where
  pub number : s.number ≡ k
  pub goes_on : answered (front_of C s) x ≡ Some t
  pub counted : IsCounted x

abbrev pub StandsWith : PlainCode → ℕ → Task → Option Answer → Running → Type 0
StandsWith C k s None t = OnItsWay C k s t
StandsWith C k s (Some x) t = IsAnswered C k s x t

-- what the machine keeps of a task stands for the task of the run
abbrev pub StandsFor : PlainCode → ℕ → Slot → Running → Type 0
StandsFor C k s t = StandsWith C k s.task s.pending t

abbrev pub StandsForOne : PlainCode → ℕ → Option Slot → Option Running → Type 0
StandsForOne C k None None = Unit {0}
StandsForOne C k (Some s) (Some t) = StandsFor C k s t
StandsForOne C k None (Some t) = ⊥
StandsForOne C k (Some s) None = ⊥

-- what is kept of a branch that starts so, and goes on
abbrev pub IsFirst : ℕ → DeclaredStart → Slot → Type 0
IsFirst k b s = (C : PlainCode) → Goes C k (at_start (plain_start b)) → StandsFor C k s (at_start (plain_start b))

-- a machine's tasks stand for those of a run
abbrev pub AllStand : PlainCode → FinMap nat_cmp Slot → (ℕ → Option Running) → Type 0
AllStand C slots tasks = (k : ℕ) → StandsForOne C k (get slots k) (tasks k)

abbrev pub GoesOne : PlainCode → ℕ → Option Running → Type 0
GoesOne C k None = Unit {0}
GoesOne C k (Some t) = Goes C k t

abbrev pub AllGo : PlainCode → (ℕ → Option Running) → Type 0
AllGo C tasks = (k : ℕ) → GoesOne C k (tasks k)

-- a fact of a task that the machine keeps
abbrev pub OfSlot : Option Slot → (Slot → Type 0) → Type 0
OfSlot None P = ⊥
OfSlot (Some s) P = P s

-- the slot stands at an action
pub record StandsAt (C : PlainCode) (action : Action) (s : Slot) : Type 0 where
  pub given : s.pending ≡ None
  pub halts : Halts C s.task (front_of C s.task)
  pub is_action : IsActionOf C action (front_of C s.task)

-- it stands for a task that goes on
pub record CanGo (C : PlainCode) (k : ℕ) (s : Slot) : Type 0 where
  pub task : Running
  pub goes : Goes C k task
  pub stands : StandsFor C k s task
