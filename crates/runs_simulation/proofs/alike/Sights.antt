-- Values, regions, frames and states of a machine, which numbers objects and tasks in the order in which they are made, and those
-- of a run, which names objects by their makers and tasks by their paths: what is one in both is like.
use Rattle.std.proofs.Common.{◌≡◌, ℕ, suc, ℤ, Bool, List, ◌++◌, length, refl, ap, Some, slice_get}
use Rattle.lang_base.specs.declared.place.Place.{Place}
use Rattle.lang_base.specs.declared.value.Trap.{Trap}
use Rattle.lang_typed.specs.declared.stmt.Forking.{Forking}
use Rattle.lang_meaning.specs.Values.{Value, Part, Region, Thing, An_object, An_array}
use Rattle.lang_meaning.specs.Actions.{Frame, Effect, Ending, Own, Rest, Read, Write, Look, New, Print, Enter, Exit, Action, Do, Fork, Begin, Join, End}
use Rattle.lang_meaning.specs.Actions.{Answer, Went, Got, Out, Class, Length, Named, Joined, Fell}
use Rattle.lang_meaning.specs.Regions.{Around}
use Rattle.code_instrs.specs.Machine.{Level, Start, State, On, Rested, Off, Nowhere, Stand, Goes, Ticks, Makes, Waits, Ends, Stuck}
use Rattle.code_instrs.specs.RunsToActions.{Halt, Asks, Finished, Dead}
use Rattle.runs_theory.specs.Objects.{Path, Name, LocalRegion}
use Rattle.runs_elision.proofs.Worlds.{Distinct, Later, later_none, ValueLike, ValuesLike, values_later, LocalsLike}
use Rattle.runs_elision.proofs.Worlds.{EndingLike, ending_later}
pub use Rattle.runs_simulation.specs.Alike.{Sight, Each, each_none, each_more, LocalLike, made_like, unmade_like, PartLike, a_name, a_number, a_local, own_index, any_index, any_parts, RegionLike, RegionsLike, EffectLike, EffectsLike}

-- after more objects were made, and more tasks begun
pub record Wider (v w : Sight) : Type 0 where
  pub names : Later v.names w.names
  pub paths : (k : ℕ) (p : Path) → slice_get v.paths k ≡ Some p → slice_get w.paths k ≡ Some p

pub wider_none : {w : Sight} → Distinct w.names → Wider w w
wider_none d = record { names = later_none d; paths = λ k p h. h }

pub each_weaker : {A B : Type 0} {L K : A → B → Type 0} {xs : List A} {ys : List B} → ((x : A) (y : B) → L x y → K x y) → Each L xs ys → Each K xs ys
each_weaker f each_none = each_none
each_weaker f (each_more {x} {y} h k) = each_more (f x y h) (each_weaker f k)

pub each_append : {A B : Type 0} {L : A → B → Type 0} {xs us : List A} {ys vs : List B} → Each L xs ys → Each L us vs → Each L (xs ++ us) (ys ++ vs)
each_append each_none k = k
each_append (each_more h t) k = each_more h (each_append t k)

pub each_length : {A B : Type 0} {L : A → B → Type 0} {xs : List A} {ys : List B} → Each L xs ys → length xs ≡ length ys
each_length each_none = refl
each_length (each_more h k) = ap (λ n. suc n) (each_length k)

abbrev pub LocalRegionsLike : Sight → List (ℕ × ℕ) → List LocalRegion → Type 0
LocalRegionsLike w ls ms = Each (LocalLike w) ls ms

pub record AroundLike (w : Sight) (f : Around ℕ (ℕ × ℕ)) (g : Around Name LocalRegion) : Type 0 where
  pub values : ValuesLike w.names f.values g.values
  pub regions : RegionsLike w f.regions g.regions
  pub locals : LocalRegionsLike w f.locals g.locals

pub record FrameLike (w : Sight) (f : Frame ℕ (ℕ × ℕ)) (g : Frame Name LocalRegion) : Type 0 where
  pub values : ValuesLike w.names f.values g.values
  pub regions : RegionsLike w f.regions g.regions
  pub locals : LocalRegionsLike w f.locals g.locals
  pub left : f.left ≡ g.left

pub record LevelLike (w : Sight) (g : Level ℕ (ℕ × ℕ)) (h : Level Name LocalRegion) : Type 0 where
  pub body : g.body ≡ h.body
  pub at : g.at ≡ h.at
  pub frame : FrameLike w g.frame h.frame
  pub stack : ValuesLike w.names g.stack h.stack

abbrev pub LevelsLike : Sight → List (Level ℕ (ℕ × ℕ)) → List (Level Name LocalRegion) → Type 0
LevelsLike w gs hs = Each (LevelLike w) gs hs

pub data StateLike (w : Sight) : State ℕ (ℕ × ℕ) → State Name LocalRegion → Type 0 where
  on_like : {g : Level ℕ (ℕ × ℕ)} {h : Level Name LocalRegion} {gs : List (Level ℕ (ℕ × ℕ))} {hs : List (Level Name LocalRegion)} → LevelLike w g h
      → LevelsLike w gs hs → StateLike w (On g gs) (On h hs)
  rested_like : {g : Level ℕ (ℕ × ℕ)} {h : Level Name LocalRegion} {gs : List (Level ℕ (ℕ × ℕ))} {hs : List (Level Name LocalRegion)} → LevelLike w g h
      → LevelsLike w gs hs → StateLike w (Rested g gs) (Rested h hs)
  off_like : {e : Ending ℕ} {f : Ending Name} → EndingLike w.names e f → StateLike w (Off e) (Off f)
  nowhere_like : StateLike w Nowhere Nowhere

pub record StartLike (w : Sight) (b : Start ℕ (ℕ × ℕ)) (c : Start Name LocalRegion) : Type 0 where
  pub body : b.body ≡ c.body
  pub frame : FrameLike w b.frame c.frame

abbrev pub StartsLike : Sight → List (Start ℕ (ℕ × ℕ)) → List (Start Name LocalRegion) → Type 0
StartsLike w bs cs = Each (StartLike w) bs cs

pub data ThingLike (w : Sight) : Thing ℕ (ℕ × ℕ) → Thing Name LocalRegion → Type 0 where
  an_object : (c : ℕ) {rs : List (Region (ℕ × ℕ))} {qs : List (Region LocalRegion)} {vs : List (Value ℕ)} {us : List (Value Name)} → RegionsLike w rs qs
      → ValuesLike w.names vs us → ThingLike w (An_object c rs vs) (An_object c qs us)
  an_array : {r : Region (ℕ × ℕ)} {q : Region LocalRegion} (len : ℕ) {v : Value ℕ} {u : Value Name} → RegionLike w r q → ValueLike w.names v u
      → ThingLike w (An_array r len v) (An_array q len u)

pub data OwnLike (w : Sight) : Own ℕ (ℕ × ℕ) → Own Name LocalRegion → Type 0 where
  rest_like : OwnLike w Rest Rest
  read_like : (n : ℕ) (x : Name) (i : ℤ) → slice_get w.names n ≡ Some x → OwnLike w (Read n i) (Read x i)
  write_like : (n : ℕ) (x : Name) (i : ℤ) {v : Value ℕ} {u : Value Name} → slice_get w.names n ≡ Some x → ValueLike w.names v u
      → OwnLike w (Write n i v) (Write x i u)
  look_like : (n : ℕ) (x : Name) → slice_get w.names n ≡ Some x → OwnLike w (Look n) (Look x)
  new_like : {t : Thing ℕ (ℕ × ℕ)} {s : Thing Name LocalRegion} (c : Bool) → ThingLike w t s → OwnLike w (New t c) (New s c)
  print_like : (bytes : List ℕ) → OwnLike w (Print bytes) (Print bytes)
  enter_like : {E : List (Effect (ℕ × ℕ))} {F : List (Effect LocalRegion)} → EffectsLike w E F → OwnLike w (Enter E) (Enter F)
  exit_like : OwnLike w Exit Exit

pub data ActionLike (w : Sight) : Action ℕ (ℕ × ℕ) (Start ℕ (ℕ × ℕ)) → Action Name LocalRegion (Start Name LocalRegion) → Type 0 where
  do_like : {o : Own ℕ (ℕ × ℕ)} {q : Own Name LocalRegion} → OwnLike w o q → ActionLike w (Do o) (Do q)
  fork_like : (kind : Forking) {bs : List (Start ℕ (ℕ × ℕ))} {cs : List (Start Name LocalRegion)} → StartsLike w bs cs
      → ActionLike w (Fork (record { kind = kind; tasks = bs })) (Fork (record { kind = kind; tasks = cs }))
  begin_like : (b : ℕ) → ActionLike w (Begin b) (Begin b)
  join_like : ActionLike w Join Join
  end_like : {e : Ending ℕ} {f : Ending Name} → EndingLike w.names e f → ActionLike w (End e) (End f)

pub data AnswerLike (w : Sight) : Answer ℕ (ℕ × ℕ) → Answer Name LocalRegion → Type 0 where
  went_like : AnswerLike w Went Went
  got_like : {v : Value ℕ} {u : Value Name} → ValueLike w.names v u → AnswerLike w (Got v) (Got u)
  out_like : AnswerLike w Out Out
  class_like : (c : ℕ) {rs : List (Region (ℕ × ℕ))} {qs : List (Region LocalRegion)} → RegionsLike w rs qs → AnswerLike w (Class c rs) (Class c qs)
  length_like : (len : ℕ) → AnswerLike w (Length len) (Length len)
  named_like : (n : ℕ) (x : Name) → slice_get w.names n ≡ Some x → AnswerLike w (Named n) (Named x)
  joined_like : {vs : List (ℕ × Value ℕ)} {us : List (ℕ × Value Name)} → LocalsLike w.names vs us → AnswerLike w (Joined vs) (Joined us)
  fell_like : (trap : Trap) (p : Place) → AnswerLike w (Fell trap p) (Fell trap p)

-- what follows an answer, whatever more there is
abbrev pub OnLike : Sight → (Answer ℕ (ℕ × ℕ) → State ℕ (ℕ × ℕ)) → (Answer Name LocalRegion → State Name LocalRegion) → Type 0
OnLike w f g = (v : Sight) (x : Answer ℕ (ℕ × ℕ)) (y : Answer Name LocalRegion) → Wider w v → AnswerLike v x y → StateLike v (f x) (g y)

pub data StandLike (w : Sight) : Stand ℕ (ℕ × ℕ) → Stand Name LocalRegion → Type 0 where
  goes_like : {s : State ℕ (ℕ × ℕ)} {t : State Name LocalRegion} → StateLike w s t → StandLike w (Goes s) (Goes t)
  ticks_like : {s : State ℕ (ℕ × ℕ)} {t : State Name LocalRegion} → StateLike w s t → StandLike w (Ticks s) (Ticks t)
  makes_like : {f : ℕ × ℕ → State ℕ (ℕ × ℕ)} {g : LocalRegion → State Name LocalRegion} → ((l : ℕ × ℕ) (m : LocalRegion) → LocalLike w l m
      → StateLike w (f l) (g m)) → StandLike w (Makes f) (Makes g)
  waits_like : {a : Action ℕ (ℕ × ℕ) (Start ℕ (ℕ × ℕ))} {b : Action Name LocalRegion (Start Name LocalRegion)} {f : Answer ℕ (ℕ × ℕ) → State ℕ (ℕ × ℕ)}
      {g : Answer Name LocalRegion → State Name LocalRegion} → ActionLike w a b → OnLike w f g → StandLike w (Waits a f) (Waits b g)
  ends_like : {e : Ending ℕ} {f : Ending Name} → EndingLike w.names e f → StandLike w (Ends e) (Ends f)
  stuck_like : StandLike w Stuck Stuck

pub data HaltLike (w : Sight) : Halt ℕ (ℕ × ℕ) → Halt Name LocalRegion → Type 0 where
  asks_like : (ticks made : ℕ) {a : Action ℕ (ℕ × ℕ) (Start ℕ (ℕ × ℕ))} {b : Action Name LocalRegion (Start Name LocalRegion)}
      {f : Answer ℕ (ℕ × ℕ) → State ℕ (ℕ × ℕ)} {g : Answer Name LocalRegion → State Name LocalRegion} → ActionLike w a b → OnLike w f g
      → HaltLike w (Asks ticks made a f) (Asks ticks made b g)
  finished_like : (ticks : ℕ) {e : Ending ℕ} {f : Ending Name} → EndingLike w.names e f → HaltLike w (Finished ticks e) (Finished ticks f)
  dead_like : HaltLike w Dead Dead

-- what is like is so after more were made
pub local_later : {v w : Sight} {l : ℕ × ℕ} {m : LocalRegion} → Wider v w → LocalLike v l m → LocalLike w l m
local_later h (made_like k c p e) = made_like k c p (h.paths k p e)
local_later h (unmade_like r) = unmade_like r

pub part_later : {v w : Sight} {x : Part (ℕ × ℕ)} {y : Part LocalRegion} → Wider v w → PartLike v x y → PartLike w x y
part_later h (a_name n) = a_name n
part_later h (a_number k) = a_number k
part_later h (a_local l) = a_local (local_later h l)
part_later h own_index = own_index
part_later h any_index = any_index
part_later h any_parts = any_parts

pub region_later : {v w : Sight} {r : Region (ℕ × ℕ)} {q : Region LocalRegion} → Wider v w → RegionLike v r q → RegionLike w r q
region_later h e = each_weaker (λ x y k. part_later h k) e

pub regions_later : {v w : Sight} {rs : List (Region (ℕ × ℕ))} {qs : List (Region LocalRegion)} → Wider v w → RegionsLike v rs qs → RegionsLike w rs qs
regions_later h e = each_weaker (λ x y k. region_later h k) e

pub frame_later : {v w : Sight} {f : Frame ℕ (ℕ × ℕ)} {g : Frame Name LocalRegion} → Wider v w → FrameLike v f g → FrameLike w f g
frame_later h k = record {
  values = values_later h.names k.values;
  regions = regions_later h k.regions;
  locals = each_weaker (λ x y l. local_later h l) k.locals;
  left = k.left;
}

pub level_later : {v w : Sight} {g : Level ℕ (ℕ × ℕ)} {l : Level Name LocalRegion} → Wider v w → LevelLike v g l → LevelLike w g l
level_later h k = record { body = k.body; at = k.at; frame = frame_later h k.frame; stack = values_later h.names k.stack }

pub levels_later : {v w : Sight} {gs : List (Level ℕ (ℕ × ℕ))} {hs : List (Level Name LocalRegion)} → Wider v w → LevelsLike v gs hs → LevelsLike w gs hs
levels_later h e = each_weaker (λ x y k. level_later h k) e

pub state_later : {v w : Sight} {s : State ℕ (ℕ × ℕ)} {t : State Name LocalRegion} → Wider v w → StateLike v s t → StateLike w s t
state_later h (on_like a b) = on_like (level_later h a) (levels_later h b)
state_later h (rested_like a b) = rested_like (level_later h a) (levels_later h b)
state_later h (off_like e) = off_like (ending_later h.names e)
state_later h nowhere_like = nowhere_like

pub start_later : {v w : Sight} {b : Start ℕ (ℕ × ℕ)} {c : Start Name LocalRegion} → Wider v w → StartLike v b c → StartLike w b c
start_later h k = record { body = k.body; frame = frame_later h k.frame }

pub starts_later : {v w : Sight} {bs : List (Start ℕ (ℕ × ℕ))} {cs : List (Start Name LocalRegion)} → Wider v w → StartsLike v bs cs → StartsLike w bs cs
starts_later h e = each_weaker (λ x y k. start_later h k) e
