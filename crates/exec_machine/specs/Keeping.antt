-- What a machine keeps of its run.
use Rattle.std.specs.Prelude.{◌≡◌, ◌≤◌, ◌<◌, ◌+◌, ◌⊎◌, IsSome, length, ℕ, ℤ, List, ◌∷◌, [], ◌++◌, All, reverse, Option, Some, None, refl}
use Rattle.std.specs.FinMap.{FinMap, insert}
use Rattle.std.specs.Ordering.{nat_cmp}
use Rattle.std.specs.Coded.{Coded, code_by, coded×, coded_ℕ, coded_ℤ, coded_list, coded_option}
use Rattle.lang_base.specs.declared.outcome.Limits.{Limits}
use Rattle.lang_base.specs.declared.outcome.Outcome.{Outcome}
use Rattle.code_instrs.specs.declared.code.Code.{Code}
use Rattle.code_instrs.specs.Plain.{PlainCode, plain_code}
use Rattle.exec_task.specs.Halts.{IsWidthBounded}
use Rattle.exec_task.specs.Tasks.{state_of}
use Rattle.exec_task.specs.declared.action.Answer.{Answer}
use Rattle.exec_heap.specs.Heap.{Contents, instance, with_object}
use Rattle.exec_world.specs.Costs.{Within, first_fields}
use Rattle.exec_world.specs.World.{answer_to, world_after}
use Rattle.exec_world.specs.declared.event.Event.{Event}
use Rattle.exec_world.specs.declared.world.World.{World}
use Rattle.exec_world.specs.Ready.{IsReady, NoneReady, IsGreatestReady}
use Rattle.exec_machine.specs.declared.halted.Halted.{Halted}
use Rattle.exec_machine.specs.declared.halted.Halted.TheVariants as halted
use Rattle.exec_machine.specs.declared.run.Run.{Run}
use Rattle.exec_machine.specs.Running.{AllStand, StandsAt}
use Rattle.exec_machine.specs.Replay.{Moment, Moves, IsStuck, LeadsTo, limited}
use Rattle.exec_machine.specs.Wants.{WantsRightly}
use Rattle.exec_machine.specs.declared.slot.Slot.{Slot}
use Rattle.exec_machine.specs.Premise.{GoesOn, CanProgress}

-- a moment, as it is kept
pub record Keeps (C : PlainCode) (r : Run) (m : Moment) : Type 0 where
  pub world : r.world ≡ m.world
  pub outcome : r.outcome ≡ m.outcome
  pub stand : AllStand C r.slots m.tasks

-- a moment that is kept, in which a task has a next event
pub record HasNext (C : PlainCode) (r : Run) (m : Moment) (k : ℕ) : Type 0 where
  pub keeps : Keeps C r m
  pub goes : GoesOn C m
  pub unfinished : m.outcome ≡ None
  pub ready : IsReady m.world k

-- the same, and the run goes on after the event too
pub record CanStep (code : Code) (L : Limits) (r : Run) (m : Moment) (k : ℕ) : Type 0 where
  pub has_next : HasNext (plain_code code) r m k
  pub later : (n : Moment) → Moves code L m k n → GoesOn (plain_code code) n

-- a task that is kept stands at this event
pub record IsAt (C : PlainCode) (e : Event) (s : Slot) : Type 0 where
  pub ticks : e.ticks ≡ s.task.ticks
  pub stands : StandsAt C e.action s
  pub wants : WantsRightly C (state_of s.task) s.task.ticks e.action e.wants

-- a run with other tasks
abbrev pub with_slots : Run → FinMap nat_cmp Slot → Run
with_slots r slots = record { world = r.world; slots = slots; schedule = r.schedule; outcome = r.outcome }

-- an event was noted and made, where it keeps to the limits, and then these tasks are kept, with this outcome; else the run is
-- finished
pub data Comes (code : Code) (L : Limits) (old : Run) (e : Event) (slots : FinMap nat_cmp Slot) (outcome : Option Outcome) (new : Run) : Type 0 where
  made : Within code old.world e
      → new ≡ record { world = world_after code old.world e; slots = slots; schedule = old.schedule ++ e.task ∷ []; outcome = outcome }
      → Comes code L old e slots outcome new
  over : (Within code old.world e → ⊥)
      → new ≡ record { world = old.world; slots = old.slots; schedule = old.schedule ++ e.task ∷ []; outcome = Some (limited L) }
      → Comes code L old e slots outcome new

-- the same, with the answer where the event was made
abbrev pub Recorded : Code → Limits → Run → Event → Option Answer → Run → Type 0
Recorded code L old e None new =
    (Within code old.world e → ⊥) × (new ≡ record { world = old.world; slots = old.slots; schedule = old.schedule ++ e.task ∷ []; outcome = Some (limited L) })
Recorded code L old e (Some x) new =
    Within code old.world e × (x ≡ answer_to old.world e)
    × (new ≡ record { world = world_after code old.world e; slots = old.slots; schedule = old.schedule ++ e.task ∷ []; outcome = old.outcome })

-- the object of `main` is made, or there aren't cells for it
abbrev pub MakesMain : Code → Limits → Contents → Contents → Option Outcome → Type 0
MakesMain code L old new None =
    (old.used + (length (first_fields code code.main_class) + 1) ≤ old.limit)
    × (new ≡ with_object old (instance code.main_class [] (first_fields code code.main_class)))
MakesMain code L old new (Some come) =
    (old.limit < old.used + (length (first_fields code code.main_class) + 1)) × (new ≡ old) × (come ≡ limited L)

-- the tasks where one has an answer that it is to be given
abbrev pub with_answer : FinMap nat_cmp Slot → ℕ → Slot → Answer → FinMap nat_cmp Slot
with_answer slots k s x = insert slots k (record { task = s.task; pending = Some x })

-- what a contract sees of a machine
pub record Played : Type 0 where
  pub code : Code
  pub limits : Limits
  pub argument : ℤ
  pub schedule : List ℕ
  pub world : World
  pub outcome : Option Outcome

abbrev pub played_code : Coded Code → Coded Limits → Coded World → Coded Outcome → Coded Played
played_code code limits world outcome =
    code_by (Code × (Limits × (ℤ × (List ℕ × (World × Option Outcome)))))
    (coded× code (coded× limits (coded× coded_ℤ (coded× (coded_list coded_ℕ) (coded× world (coded_option outcome))))))
    (λ p. (p.code, (p.limits, (p.argument, (p.schedule, (p.world, p.outcome))))))
    (λ q. record { code = q.0; limits = q.1.0; argument = q.1.1.0; schedule = q.1.1.1.0; world = q.1.1.1.1.0; outcome = q.1.1.1.1.1 }) (λ _. refl)

-- a moment to which the schedule of a machine leads, in which its world and its outcome are the machine's
pub record IsReplayed (p : Played) : Type 0 where
  pub moment : Moment
  pub leads : LeadsTo p.code p.limits p.argument (reverse p.schedule) moment
  pub world : p.world ≡ moment.world
  pub outcome : p.outcome ≡ moment.outcome

-- a ready task of a machine can't make its next event
pub record IsStuckAt (p : Played) (k : ℕ) : Type 0 where
  pub replayed : IsReplayed p
  pub stuck : IsStuck (plain_code p.code) replayed.moment k

-- why a step was not made
abbrev pub WhyHalted : PlainCode → Moment → ℕ → Halted → Type 0
WhyHalted C m k halted.Stuck = IsStuck C m k
WhyHalted C m k halted.NoMemory = Unit {0}

abbrev pub WhyHaltedAt : Played → ℕ → Halted → Type 0
WhyHaltedAt p k halted.Stuck = IsStuckAt p k
WhyHaltedAt p k halted.NoMemory = Unit {0}

-- a task has made one event more
pub record IsAfter (before : Played) (k : ℕ) (after : Played) : Type 0 where
  pub code : after.code ≡ before.code
  pub limits : after.limits ≡ before.limits
  pub argument : after.argument ≡ before.argument
  pub schedule : after.schedule ≡ before.schedule ++ k ∷ []
  pub replayed : IsReplayed before
  pub next : Moment
  pub moves : Moves before.code before.limits replayed.moment k next
  pub world : after.world ≡ next.world
  pub outcome : after.outcome ≡ next.outcome

-- a machine has gone on by steps, each of the greatest task that was ready
pub data GreedilyOn (before : Played) : Played → Type 0 where
  here : GreedilyOn before before
  further : (middle after : Played) (k : ℕ) → GreedilyOn before middle → IsGreatestReady middle.world k → IsAfter middle k after → GreedilyOn before after

-- how many events are made at most before it is given up: twice 20000000 steps, and two
abbrev pub most_events : ℕ
most_events = 40000002

-- it has finished, or no task is ready, or it has made that many events
abbrev pub HasEnded : Played → Type 0
HasEnded p = IsSome p.outcome ⊎ NoneReady p.world ⊎ (most_events ≤ length p.schedule)

-- the step of the greatest ready task was not made
pub record HaltsGreedily (p : Played) (h : Halted) : Type 0 where
  pub task : ℕ
  pub greatest : IsGreatestReady p.world task
  pub why : WhyHaltedAt p task h

-- the fields of a machine are the replay of its schedule, and its code goes on
pub record Plays (code : Code) (limits : Limits) (argument : ℤ) (r : Run) : Type 0 where
  pub moment : Moment
  pub leads : LeadsTo code limits argument (reverse r.schedule) moment
  pub keeps : Keeps (plain_code code) r moment
  pub goes : CanProgress code limits argument
  pub few : All IsWidthBounded code.sites
