-- That the schedule of a machine on compiled code records a run of the source, and that the machine goes on until it has come out.
use Rattle.std.specs.Prelude.{ℕ, ℤ, ◌≡◌, ◌≤◌, ◌+◌, ◌*◌, ◌^◌, length, List, [], map, Option, Some, None}
use Rattle.lang_base.specs.declared.outcome.Outcome.{Outcome as DeclaredOutcome}
use Rattle.lang_typed.specs.Plain.{PlainProgram}
use Rattle.lang_typed.specs.Resolved.{Resolved, HasMain}
use Rattle.code_instrs.specs.Plain.{plain_code}
use Rattle.code_instrs.specs.declared.code.Code.{Code}
use Rattle.code_scheme.specs.Whole.{compiled}
use Rattle.runs_theory.specs.Actions.{Program}
use Rattle.runs_theory.specs.Order.{Outcome}
use Rattle.runs_theory.specs.Runs.{Event, Run}
use Rattle.runs_theory.specs.Schedules.{Finished, Limits, Ran, Ready, Within}
use Rattle.runs_program.specs.Steps.{stepped}
use Rattle.std.specs.FinMap.{get}
use Rattle.exec_task.specs.declared.action.Action.{Action}
use Rattle.exec_task.specs.declared.action.Action.TheVariants as action
use Rattle.exec_task.specs.declared.action.Own.TheVariants as own
use Rattle.exec_locks.specs.Locks.{HasEntry}
use Rattle.exec_world.specs.Ready.{IsReady}
use Rattle.exec_world.specs.declared.world.World.{World}
use Rattle.exec_machine.specs.declared.made_event.MadeEvent.{MadeEvent}
use Rattle.exec_machine.specs.Events.{Makes}
use Rattle.exec_machine.specs.Replay.{IsStuck, LeadsTo, Moment}
use Rattle.lang_meaning.specs.Reported.{reported}
use Rattle.runs_simulation.specs.Alike.{EventsAlike, Sight, SightOf}

-- a schedule records a run; or it has finished, and comes out so
abbrev pub Records : Program → Limits → List ℕ → Option DeclaredOutcome → Type 0
Records Q L ks None = (R : Run) × Ran Q L ks R
Records Q L ks (Some o) = (q : Outcome) × Finished Q L ks q × (o ≡ reported q)

-- wherever a schedule leads a machine, it records a run, with the outcome of the machine
abbrev pub AllRecord : Program → Code → Limits → ℤ → Type 0
AllRecord Q code L argument = (ks : List ℕ) (m : Moment) → LeadsTo code L argument ks m → Records Q L ks m.outcome

-- so of code that is compiled from a resolved program with a `main`
abbrev pub MachinesRecord : Type 0
MachinesRecord =
    (code : Code) (P : PlainProgram) (L : Limits) (argument : ℤ) → plain_code code ≡ compiled P → Resolved P → HasMain P → L.steps ≤ 20000000
    → AllRecord (stepped P argument) code L argument

-- and the events that it makes are those of this run, event for event: of the same task, after as many ticks, with like actions and
-- like answers. Of a schedule that has made none, as far as there was room for the object that stands at the start
abbrev pub EventForEvent : Type 0
EventForEvent =
    (code : Code) (P : PlainProgram) (L : Limits) (argument : ℤ) → plain_code code ≡ compiled P → Resolved P → HasMain P → L.steps ≤ 20000000
    → (ks : List ℕ) (xs : List MadeEvent) (m : Moment) → Makes code L argument ks xs m → (xs ≡ [] → Within (stepped P argument) L [])
    → (R : Run) × (w : Sight) × Ran (stepped P argument) L (map (λ x. x.event.task) xs) R × SightOf w R × EventsAlike w xs R

-- until a run has come out some task of its machine is ready
abbrev pub SomeTaskIsReady : Type 0
SomeTaskIsReady =
    (code : Code) (P : PlainProgram) (L : Limits) (argument : ℤ) → plain_code code ≡ compiled P → Resolved P → HasMain P → L.steps ≤ 20000000
    → (ks : List ℕ) (m : Moment) → LeadsTo code L argument ks m → m.outcome ≡ None → (k : ℕ) × IsReady m.world k

-- and each task that is ready in the run that its schedule records is ready in the machine
abbrev pub ReadyTasksAreReady : Type 0
ReadyTasksAreReady =
    (code : Code) (P : PlainProgram) (L : Limits) (argument : ℤ) → plain_code code ≡ compiled P → Resolved P → HasMain P → L.steps ≤ 20000000
    → (ks : List ℕ) (m : Moment) → LeadsTo code L argument ks m → m.outcome ≡ None → (R : Run) → Ran (stepped P argument) L ks R
    → (k : ℕ) (e : Event) → Ready (stepped P argument) R k e → IsReady m.world k

-- and no others are: each task that is ready in the machine is ready in the run
abbrev pub NoOthersAreReady : Type 0
NoOthersAreReady =
    (code : Code) (P : PlainProgram) (L : Limits) (argument : ℤ) → plain_code code ≡ compiled P → Resolved P → HasMain P → L.steps ≤ 20000000
    → (ks : List ℕ) (m : Moment) → LeadsTo code L argument ks m → m.outcome ≡ None → (R : Run) → Ran (stepped P argument) L ks R
    → (k : ℕ) → IsReady m.world k → (e : Event) × Ready (stepped P argument) R k e

-- and a schedule has at most twice as many numbers as there are steps, and two more
abbrev pub SchedulesAreShort : Type 0
SchedulesAreShort =
    (code : Code) (P : PlainProgram) (L : Limits) (argument : ℤ) → plain_code code ≡ compiled P → Resolved P → HasMain P → L.steps ≤ 20000000
    → (ks : List ℕ) (m : Moment) → LeadsTo code L argument ks m → length ks ≤ 2 * L.steps + 2

-- what isn't ruled out yet where a ready task's event can't be made: an exit where no entry is open, and a fork with more
-- branches than are counted
abbrev pub LeftOpen : World → ℕ → Action → Type 0
LeftOpen w k (action.Do own.Exit) = HasEntry (get w.locks k) → ⊥
LeftOpen w k (action.Fork forking many) = 2 ^ 32 ≤ many
LeftOpen w k a = ⊥

-- a machine is stuck for no other reason, within the limits that a job may have
abbrev pub StuckForFewReasons : Type 0
StuckForFewReasons =
    (code : Code) (P : PlainProgram) (L : Limits) (argument : ℤ) → plain_code code ≡ compiled P → Resolved P → HasMain P → L.steps ≤ 20000000
    → L.cells ≤ 16777216 → (ks : List ℕ) (m : Moment) → LeadsTo code L argument ks m → (k : ℕ) (s : IsStuck (plain_code code) m k)
    → LeftOpen m.world k s.event.action
