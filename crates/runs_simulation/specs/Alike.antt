-- What a machine makes and what a run of the source records, event for event: the same, where the machine numbers objects and
-- tasks in the order in which they are made, and the run names objects by their makers and tasks by their paths.
use Rattle.std.specs.Prelude.{◌≡◌, ℕ, suc, ℤ, Bool, false, List, [], ◌∷◌, length, map, Some, slice_get}
use Rattle.lang_base.specs.declared.effect.Effect.{Effect as DeclaredEffect}
use Rattle.lang_base.specs.declared.place.Place.{Place}
use Rattle.lang_base.specs.declared.region.Region.{Region as DeclaredRegion}
use Rattle.lang_base.specs.declared.value.SlotValue.{SlotValue}
use Rattle.lang_base.specs.declared.value.Trap.{Trap}
use Rattle.lang_base.specs.declared.value.Value.{Value as Constant}
use Rattle.lang_base.specs.declared.value.Value.TheVariants as constant
use Rattle.lang_typed.specs.declared.stmt.Forking.{Forking}
use Rattle.lang_meaning.specs.Values.{Int, Boolean, Null, Object, Part, Region_name, Number, Local, Own_index, Any_index, Any_parts, Region, An_object, An_array}
use Rattle.lang_meaning.specs.Actions.{Effect}
use Rattle.runs_theory.specs.Actions.{Branches, Ending, Returned, Assigned, Trapped, Own, Action, Do, Fork, Begin, Join, End, Rest, Read, Write, Look, New, Print, Enter, Exit}
use Rattle.runs_theory.specs.Actions.{Answer, Went, Got, Out, Class, Length, Named, Joined, Fell}
use Rattle.runs_theory.specs.Objects.{Path, Name, LocalRegion, Made, Unmade, Value}
use Rattle.runs_theory.specs.Runs.{Event, Run}
use Rattle.runs_theory.specs.Schedules.{Numbered}
use Rattle.runs_elision.specs.Renamed.{Distinct}
use Rattle.exec_task.specs.Names.{plain_region, plain_effect}
use Rattle.exec_task.specs.declared.action.Action.{Action as DeclaredAction}
use Rattle.exec_task.specs.declared.action.Action.TheVariants as action
use Rattle.exec_task.specs.declared.action.Answer.{Answer as DeclaredAnswer}
use Rattle.exec_task.specs.declared.action.Answer.TheVariants as answer
use Rattle.exec_task.specs.declared.action.Ending.{Ending as DeclaredEnding}
use Rattle.exec_task.specs.declared.action.Ending.TheVariants as ending
use Rattle.exec_task.specs.declared.action.Own.{Own as DeclaredOwn}
use Rattle.exec_task.specs.declared.action.Own.TheVariants as own
use Rattle.exec_machine.specs.declared.made_event.MadeEvent.{MadeEvent}

-- the names of the objects, and the paths of the tasks, by their numbers
pub record Sight : Type 0 where
  pub names : List Name
  pub paths : List Path

-- in a run: no two objects have one name, and a path is that of the task of its number
pub record SightOf (w : Sight) (R : Run) : Type 0 where
  pub distinct : Distinct w.names
  pub numbered : (k : ℕ) (p : Path) → slice_get w.paths k ≡ Some p → Numbered R k p

-- lists whose elements are like one by one
pub data Each {A B : Type 0} (L : A → B → Type 0) : List A → List B → Type 0 where
  each_none : Each L [] []
  each_more : {x : A} {y : B} {xs : List A} {ys : List B} → L x y → Each L xs ys → Each L (x ∷ xs) (y ∷ ys)

-- a local region: one that a task has made, which the machine counts from 1 and the run from 0; or one that is declared and not
-- made yet
pub data LocalLike (w : Sight) : ℕ × ℕ → LocalRegion → Type 0 where
  made_like : (k c : ℕ) (p : Path) → slice_get w.paths k ≡ Some p → LocalLike w (k, suc c) (Made p c)
  unmade_like : (r : ℕ) → LocalLike w (r, 0) (Unmade r)

pub data PartLike (w : Sight) : Part (ℕ × ℕ) → Part LocalRegion → Type 0 where
  a_name : (n : ℕ) → PartLike w (Region_name n) (Region_name n)
  a_number : (k : ℤ) → PartLike w (Number k) (Number k)
  a_local : {l : ℕ × ℕ} {m : LocalRegion} → LocalLike w l m → PartLike w (Local l) (Local m)
  own_index : PartLike w Own_index Own_index
  any_index : PartLike w Any_index Any_index
  any_parts : PartLike w Any_parts Any_parts

abbrev pub RegionLike : Sight → Region (ℕ × ℕ) → Region LocalRegion → Type 0
RegionLike w r q = Each (PartLike w) r q

abbrev pub RegionsLike : Sight → List (Region (ℕ × ℕ)) → List (Region LocalRegion) → Type 0
RegionsLike w rs qs = Each (RegionLike w) rs qs

pub record EffectLike (w : Sight) (e : Effect (ℕ × ℕ)) (f : Effect LocalRegion) : Type 0 where
  pub access : e.access ≡ f.access
  pub region : RegionLike w e.region f.region

abbrev pub EffectsLike : Sight → List (Effect (ℕ × ℕ)) → List (Effect LocalRegion) → Type 0
EffectsLike w E F = Each (EffectLike w) E F

-- a value: the same, or an object of this number and of its name
pub data ValueAlike (names : List Name) : Constant → Value → Type 0 where
  int_alike : (k : ℤ) → ValueAlike names (constant.Int k) (Int k)
  boolean_alike : (b : Bool) → ValueAlike names (constant.Bool b) (Boolean b)
  null_alike : ValueAlike names constant.Null Null
  object_alike : (n : ℕ) (x : Name) → slice_get names n ≡ Some x → ValueAlike names (constant.Obj n) (Object x)

pub record SlotAlike (names : List Name) (l : SlotValue) (u : ℕ × Value) : Type 0 where
  pub slot : l.slot ≡ u.0
  pub value : ValueAlike names l.value u.1

pub data EndingAlike (names : List Name) : DeclaredEnding → Ending → Type 0 where
  returned_alike : {v : Constant} {u : Value} → ValueAlike names v u → EndingAlike names (ending.Returned v) (Returned u)
  assigned_alike : {ls : List SlotValue} {us : List (ℕ × Value)} → Each (SlotAlike names) ls us → EndingAlike names (ending.Assigned ls) (Assigned us)
  trapped_alike : (trap : Trap) (place : Place) → EndingAlike names (ending.Trapped trap place) (Trapped trap place)

-- what a task does by itself. Of a new object the machine's doesn't tell the first values, which are those of its class
pub data OwnAlike (w : Sight) : DeclaredOwn → Own → Type 0 where
  rest_alike : OwnAlike w own.Rest Rest
  read_alike : (n : ℕ) (x : Name) (i : ℤ) → slice_get w.names n ≡ Some x → OwnAlike w (own.Read n i) (Read x i)
  write_alike : (n : ℕ) (x : Name) (i : ℤ) {v : Constant} {u : Value} → slice_get w.names n ≡ Some x → ValueAlike w.names v u
      → OwnAlike w (own.Write n i v) (Write x i u)
  look_alike : (n : ℕ) (x : Name) → slice_get w.names n ≡ Some x → OwnAlike w (own.Look n) (Look x)
  object_made : (c : ℕ) {rs : List DeclaredRegion} {qs : List (Region LocalRegion)} (first : List Value) (constructor : Bool) → RegionsLike w (map plain_region rs) qs
      → OwnAlike w (own.NewObject c rs constructor) (New (An_object c qs first) constructor)
  array_made : {r : DeclaredRegion} {q : Region LocalRegion} (len : ℕ) {v : Constant} {u : Value} → RegionLike w (plain_region r) q → ValueAlike w.names v u
      → OwnAlike w (own.NewArray r len v) (New (An_array q len u) false)
  print_alike : (bytes : List ℕ) → OwnAlike w (own.Print bytes) (Print bytes)
  enter_alike : {E : List DeclaredEffect} {F : List (Effect LocalRegion)} → EffectsLike w (map plain_effect E) F → OwnAlike w (own.Enter E) (Enter F)
  exit_alike : OwnAlike w own.Exit Exit

-- an action. Of a fork the machine's tells how many branches there are
pub data ActionAlike (w : Sight) : DeclaredAction → Action → Type 0 where
  do_alike : {o : DeclaredOwn} {q : Own} → OwnAlike w o q → ActionAlike w (action.Do o) (Do q)
  fork_alike : (kind : Forking) (many : ℕ) (branches : Branches) → branches.kind ≡ kind → length branches.tasks ≡ many
      → ActionAlike w (action.Fork kind many) (Fork branches)
  begin_alike : (b : ℕ) → ActionAlike w (action.Begin b) (Begin b)
  join_alike : ActionAlike w action.Join Join
  end_alike : {c : DeclaredEnding} {x : Ending} → EndingAlike w.names c x → ActionAlike w (action.End c) (End x)

pub data AnswerAlike (w : Sight) : DeclaredAnswer → Answer → Type 0 where
  went_alike : AnswerAlike w answer.Went Went
  got_alike : {v : Constant} {u : Value} → ValueAlike w.names v u → AnswerAlike w (answer.Got v) (Got u)
  out_alike : AnswerAlike w answer.Out Out
  class_alike : (c : ℕ) {rs : List DeclaredRegion} {qs : List (Region LocalRegion)} → RegionsLike w (map plain_region rs) qs
      → AnswerAlike w (answer.Class c rs) (Class c qs)
  length_alike : (len : ℕ) → AnswerAlike w (answer.Length len) (Length len)
  named_alike : (n : ℕ) (x : Name) → slice_get w.names n ≡ Some x → AnswerAlike w (answer.Made n) (Named x)
  joined_alike : {ls : List SlotValue} {us : List (ℕ × Value)} → Each (SlotAlike w.names) ls us → AnswerAlike w (answer.Joined ls) (Joined us)
  fell_alike : (trap : Trap) (place : Place) → AnswerAlike w (answer.Fell trap place) (Fell trap place)

-- an event that a machine has made, and one of a run
pub record EventAlike (w : Sight) (x : MadeEvent) (e : Event) : Type 0 where
  pub task : slice_get w.paths x.event.task ≡ Some e.path
  pub ticks : x.event.ticks ≡ e.ticks
  pub action : ActionAlike w x.event.action e.act
  pub answer : AnswerAlike w x.answer e.ans

abbrev pub EventsAlike : Sight → List MadeEvent → Run → Type 0
EventsAlike w xs R = Each (EventAlike w) xs R
