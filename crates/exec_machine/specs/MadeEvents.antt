-- A machine that keeps the events that it makes.
use Rattle.std.specs.Prelude.{◌≡◌, ℕ, ℤ, List, All, reverse, Bool, true, false, Option, Some, None, refl}
use Rattle.std.specs.Coded.{Coded, code_by, coded×}
use Rattle.std.specs.FinMap.{get}
use Rattle.lang_base.specs.declared.outcome.Ending.{Ending as Came}
use Rattle.lang_base.specs.declared.outcome.Ending.TheVariants as came
use Rattle.lang_base.specs.declared.outcome.Limits.{Limits}
use Rattle.lang_base.specs.declared.outcome.Outcome.{Outcome}
use Rattle.code_instrs.specs.declared.code.Code.{Code}
use Rattle.code_instrs.specs.Plain.{PlainCode, plain_code}
use Rattle.exec_task.specs.Halts.{IsWidthBounded}
use Rattle.exec_task.specs.Tasks.{state_of}
use Rattle.exec_task.specs.declared.action.Answer.{Answer}
use Rattle.exec_task.specs.declared.action.Answer.TheVariants as answer
use Rattle.exec_world.specs.Costs.{Within}
use Rattle.exec_world.specs.World.{answer_to}
use Rattle.exec_world.specs.declared.event.Event.{Event}
use Rattle.exec_machine.specs.declared.made_event.MadeEvent.{MadeEvent}
use Rattle.exec_machine.specs.declared.run.Run.{Run}
use Rattle.exec_machine.specs.declared.slot.Slot.{Slot}
use Rattle.exec_machine.specs.Events.{MakesNext, Makes}
use Rattle.exec_machine.specs.Keeping.{Keeps, Played}
use Rattle.exec_machine.specs.Premise.{CanProgress}
use Rattle.exec_machine.specs.Replay.{Moment, NextOf, CanBeMade, after, limited}
use Rattle.exec_machine.specs.Running.{OfSlot}

-- an event is the next of its task, which is kept so
pub record NextIn (C : PlainCode) (m : Moment) (e : Event) (s : Slot) : Type 0 where
  pub next : NextOf C m e.task e
  pub number : s.task.number ≡ e.task
  pub state : next.stands.state ≡ state_of s.task
  pub made : next.stands.made ≡ s.task.made
  pub ticks : e.ticks ≡ s.task.ticks

-- the moment at which a limit has finished the run
abbrev pub at_limit : Limits → Moment → Moment
at_limit L m = record { world = m.world; tasks = m.tasks; outcome = Some (limited L) }

-- whether a run has met a limit
abbrev pub is_limit : Came → Bool
is_limit came.Limited = true
is_limit (came.Done v) = false
is_limit (came.Trapped trap place) = false

abbrev pub met_limit : Option Outcome → Bool
met_limit None = false
met_limit (Some o) = is_limit o.ending

-- what a task was answered by its last event that is kept so; a task that has ended isn't kept
abbrev pub given : Option Answer → Answer
given None = answer.Went
given (Some x) = x

abbrev pub answer_in : Option Slot → Answer
answer_in None = answer.Went
answer_in (Some s) = given s.pending

-- the next event of a task was made, and what keeps the task has the answer; or it would have been over a limit
pub data IsMade (code : Code) (L : Limits) (m : Moment) (e : Event) (x : NextOf (plain_code code) m e.task e) (new : Run) : Type 0 where
  comes_within : CanBeMade (plain_code code) m.world e x.stands.state → Within code m.world e
      → Keeps (plain_code code) new (after code m e x.stands.state x.stands.made) → answer_in (get new.slots e.task) ≡ answer_to m.world e
      → IsMade code L m e x new
  comes_beyond : CanBeMade (plain_code code) m.world e x.stands.state → (Within code m.world e → ⊥) → Keeps (plain_code code) new (at_limit L m)
      → IsMade code L m e x new

-- the event of a task that stood at it, which was kept so
abbrev pub MakesIn : Code → Limits → Moment → Event → Option Slot → Run → Type 0
MakesIn code L m e o new = OfSlot o (λ s. (x : NextIn (plain_code code) m e s) × IsMade code L m e x.next new)

-- the next event of a task was made, and is this one; or it would have been over a limit
pub data StepsWith (code : Code) (L : Limits) (m : Moment) (k : ℕ) (new : Run) : Option MadeEvent → Type 0 where
  with_event : (x : MadeEvent) (y : MakesNext (plain_code code) m k x) → CanBeMade (plain_code code) m.world x.event y.next.stands.state → Within code m.world x.event
      → Keeps (plain_code code) new (after code m x.event y.next.stands.state y.next.stands.made) → StepsWith code L m k new (Some x)
  over_limit : (x : MadeEvent) (y : MakesNext (plain_code code) m k x) → CanBeMade (plain_code code) m.world x.event y.next.stands.state
      → (Within code m.world x.event → ⊥) → Keeps (plain_code code) new (at_limit L m) → StepsWith code L m k new None

-- what a contract sees of a machine that keeps its events
pub record PlayedEvents : Type 0 where
  pub played : Played
  pub made : List MadeEvent

abbrev pub played_events_code : Coded Played → Coded (List MadeEvent) → Coded PlayedEvents
played_events_code played made = code_by (Played × List MadeEvent) (coded× played made) (λ t. (t.played, t.made)) (λ q. record { played = q.0; made = q.1 }) (λ _. refl)

-- its fields are those of a machine, whose schedule makes these events
pub record PlaysEvents (code : Code) (limits : Limits) (argument : ℤ) (r : Run) (xs : List MadeEvent) : Type 0 where
  pub moment : Moment
  pub makes : Makes code limits argument (reverse r.schedule) (reverse xs) moment
  pub keeps : Keeps (plain_code code) r moment
  pub goes : CanProgress code limits argument
  pub few : All IsWidthBounded code.sites

-- the schedule of a machine makes these events, and leads to where it is
pub record MakesThese (p : Played) (xs : List MadeEvent) : Type 0 where
  pub moment : Moment
  pub makes : Makes p.code p.limits p.argument (reverse p.schedule) (reverse xs) moment
  pub outcome : p.outcome ≡ moment.outcome
