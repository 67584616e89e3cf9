-- Each action to which a task comes is said by an action of the machine.
use Rattle.std.proofs.Common.{◌≡◌, ◌∙◌, ℕ, ℤ, pos, negsuc, suc, zero, Bool, true, false, List, [], ◌∷◌, length, map, reverse, Option, Some, None, slice_get, refl, ap, sym}
use Rattle.lang_base.specs.declared.elems.Elem.{Elem}
use Rattle.lang_base.specs.declared.place.Place.{Place}
use Rattle.lang_base.specs.declared.region.Region.{Region as DeclaredRegion}
use Rattle.lang_base.specs.declared.value.SlotValue.{SlotValue}
use Rattle.lang_base.specs.declared.value.Trap.{Trap}
use Rattle.lang_base.specs.declared.value.Trap.TheVariants as trap
use Rattle.lang_base.specs.declared.value.FirstValue.{FirstValue}
use Rattle.lang_base.specs.declared.value.Value.{Value as Constant}
use Rattle.lang_base.specs.declared.value.Value.TheVariants as constant
use Rattle.lang_base.specs.declared.op.BinaryOp.{BinaryOp}
use Rattle.lang_meaning.specs.Counts.{how_many, number, operated, part_place, reference}
use Rattle.lang_meaning.specs.Regions.{around, concrete, is_long, some_long}
use Rattle.lang_meaning.specs.Values.{An_array, An_object, Any_index, Any_parts, Boolean, Int, Local, Naming, Null, Number, Object, Own_index, Part, Region, Region_name, Value}
use Rattle.lang_meaning.specs.Actions.{Action, Assigned, Begin, Do, End, Ending, Enter, Exit, Fork, Join, Look, New, Own, Print, Read, Rest, Returned, Trapped, Write}
use Rattle.lang_meaning.specs.Actions.{Effect as EffectOf}
use Rattle.code_instrs.specs.Machine as machine
use Rattle.code_instrs.specs.Machine.{Ends, Goes, Level, Makes, Nowhere, Off, On, Rested, Stand, Start, State, Stuck, Ticks, Waits, all_copied, array_of, called, created, creates, deeper, ends_branch, enters_block, exec, exec_line, held_first, forked, joins, joins_fork, joins_site, joins_spread, line_before, makes_array, one, or_trap, rested_at, rested_line, site_of, spread, step, taken, three, two, unless_long}
use Rattle.code_instrs.specs.Plain.{Line, PlainCode, Site, array_site, block_site, body_at, call_site, class_at, constructor_of, fields_of, fork_site, new_site, spread_site}
use Rattle.code_instrs.specs.declared.instr.Instr.{Instr}
use Rattle.code_instrs.specs.declared.instr.Instr.TheVariants as i
use Rattle.exec_frames.specs.Names.{plain_value}
use Rattle.exec_task.specs.Names.{plain_effect, plain_part, plain_region}
use Rattle.exec_task.specs.Tasks.{Says, plain_ending, plain_own, plain_slot}
use Rattle.exec_task.specs.declared.action.Action.{Action as DeclaredAction}
use Rattle.exec_task.specs.declared.action.Action.TheVariants as action
use Rattle.exec_task.specs.declared.action.Own.{Own as DeclaredOwn}
use Rattle.exec_task.specs.declared.action.Own.TheVariants as own
use Rattle.exec_task.specs.declared.action.Ending.{Ending as DeclaredEnding}
use Rattle.exec_task.specs.declared.action.Ending.TheVariants as ending
use Rattle.exec_machine.specs.Wants.{noted, noted_part}

pub map_back : {A B : Type 0} (f : A → B) (g : B → A) → ((b : B) → f (g b) ≡ b) → (bs : List B) → map f (map g bs) ≡ bs
map_back f g back [] = refl
map_back f g back (b ∷ bs) = λ i. back b i ∷ map_back f g back bs i

-- the data of a run, as a machine has it
part_back : (p : Part (ℕ × ℕ)) → plain_part (noted_part p) ≡ p
part_back (Region_name n) = refl
part_back (Number k) = refl
part_back (Local l) = refl
part_back Own_index = refl
part_back Any_index = refl
part_back Any_parts = refl

abbrev region_for : Region (ℕ × ℕ) → DeclaredRegion
region_for r = record { elems = map noted_part r }

region_back : (r : Region (ℕ × ℕ)) → plain_region (region_for r) ≡ r
region_back r = map_back plain_part noted_part part_back r

effect_back : (e : EffectOf (ℕ × ℕ)) → plain_effect (noted e) ≡ e
effect_back e = ap (λ r. record { access = e.access; region = r }) (map_back plain_part noted_part part_back e.region)

abbrev value_for : Value ℕ → Constant
value_for (Int k) = constant.Int k
value_for (Boolean b) = constant.Bool b
value_for Null = constant.Null
value_for (Object n) = constant.Obj n

value_back : (v : Value ℕ) → plain_value (value_for v) ≡ v
value_back (Int k) = refl
value_back (Boolean b) = refl
value_back Null = refl
value_back (Object n) = refl

abbrev slot_for : ℕ × Value ℕ → SlotValue
slot_for l = record { slot = l.0; value = value_for l.1 }

slot_back : (l : ℕ × Value ℕ) → plain_slot (slot_for l) ≡ l
slot_back l = λ i. (l.0, value_back l.1 i)

abbrev ending_for : Ending ℕ → DeclaredEnding
ending_for (Returned v) = ending.Returned (value_for v)
ending_for (Assigned locals) = ending.Assigned (map slot_for locals)
ending_for (Trapped trap place) = ending.Trapped trap place

ending_back : (e : Ending ℕ) → plain_ending (ending_for e) ≡ e
ending_back (Returned v) = ap Returned (value_back v)
ending_back (Assigned locals) = ap Assigned (map_back plain_slot slot_for slot_back locals)
ending_back (Trapped trap place) = refl

abbrev Acting : Type 0
Acting = Action ℕ (ℕ × ℕ) (Start ℕ (ℕ × ℕ))

-- a new object has the first values of the fields of its class, and an array has no constructor
abbrev pub IsRight : PlainCode → Acting → Type 0
IsRight C (Do (New (An_object c rs fields) constructor)) = fields ≡ map held_first (fields_of (class_at C c))
IsRight C (Do (New (An_array region len first) constructor)) = constructor ≡ false
IsRight C a = Unit {0}

own_said : (C : PlainCode) (o : Own ℕ (ℕ × ℕ)) → IsRight C (Do o) → (x : DeclaredOwn) × (o ≡ plain_own C x)
own_said C Rest right = (own.Rest, refl)
own_said C (Read n j) right = (own.Read n j, refl)
own_said C (Write n j v) right = (own.Write n j (value_for v), ap (λ u. Write n j u) (sym (value_back v)))
own_said C (Look n) right = (own.Look n, refl)
own_said C (New (An_object c rs fields) constructor) right = (
  own.NewObject c (map region_for rs) constructor,
  ap (λ q. New (An_object c q fields) constructor) (sym (map_back plain_region region_for region_back rs))
      ∙ ap (λ q. New (An_object c (map plain_region (map region_for rs)) q) constructor) right,
)
own_said C (New (An_array region len first) constructor) right = (
  own.NewArray (region_for region) len (value_for first),
  ap (λ r. New (An_array r len first) constructor) (sym (region_back region))
      ∙ ap (λ v. New (An_array (plain_region (region_for region)) len v) constructor) (sym (value_back first))
      ∙ ap (λ b. New (An_array (plain_region (region_for region)) len (plain_value (value_for first))) b) right,
)
own_said C (Print bytes) right = (own.Print bytes, refl)
own_said C (Enter effects) right = (own.Enter (map noted effects), ap (λ es. Enter es) (sym (map_back plain_effect noted effect_back effects)))
own_said C Exit right = (own.Exit, refl)

pub said_by : (C : PlainCode) (a : Acting) → IsRight C a → (x : DeclaredAction) × Says C x a
said_by C (Do o) right = (let x = own_said C o right in (action.Do x.0, ap (λ o. Do o) x.1))
said_by C (Fork bs) right = (action.Fork bs.kind (length bs.tasks), (bs.tasks, refl, refl))
said_by C (Begin b) right = (action.Begin b, refl)
said_by C Join right = (action.Join, refl)
said_by C (End e) right = (action.End (ending_for e), ap End (sym (ending_back e)))

-- each action of the code is such a one
abbrev pub WaitsRight : PlainCode → Stand ℕ (ℕ × ℕ) → Type 0
WaitsRight C (Waits a k) = IsRight C a
WaitsRight C (Goes s) = Unit {0}
WaitsRight C (Ticks s) = Unit {0}
WaitsRight C (Makes k) = Unit {0}
WaitsRight C (Ends e) = Unit {0}
WaitsRight C Stuck = Unit {0}

record AllRight (C : PlainCode) (s : Stand ℕ (ℕ × ℕ)) : Type 0 where
  right : WaitsRight C s

abbrev Values : Type 0
Values = List (Value ℕ)

abbrev Going : Type 0
Going = Stand ℕ (ℕ × ℕ)

module _ (N : Naming ℕ (ℕ × ℕ)) (C : PlainCode) where
  one_right : (st : Values) (k : Value ℕ → Values → Going) → ((v : Value ℕ) (rest : Values) → AllRight C (k v rest)) → AllRight C (one st k)
  one_right [] k h = record { right = tt }
  one_right (v ∷ st) k h = h v st

  two_right : (st : Values) (k : Value ℕ → Value ℕ → Values → Going) → ((v u : Value ℕ) (rest : Values) → AllRight C (k v u rest)) → AllRight C (two st k)
  two_right [] k h = record { right = tt }
  two_right (u ∷ []) k h = record { right = tt }
  two_right (u ∷ v ∷ st) k h = h v u st

  three_right : (st : Values) (k : Value ℕ → Value ℕ → Value ℕ → Values → Going) → ((v u w : Value ℕ) (rest : Values) → AllRight C (k v u w rest)) → AllRight C (three st k)
  three_right [] k h = record { right = tt }
  three_right (u ∷ []) k h = record { right = tt }
  three_right (u ∷ v ∷ []) k h = record { right = tt }
  three_right (u ∷ v ∷ w ∷ st) k h = h w v u st

  taken_right : (n : ℕ) (st : Values) (k : Values → Values → Going) → ((vs rest : Values) → AllRight C (k vs rest)) → AllRight C (taken n st k)
  taken_right zero st k h = h [] st
  taken_right (suc n) [] k h = record { right = tt }
  taken_right (suc n) (v ∷ st) k h = taken_right n st (λ vs rest. k (v ∷ vs) rest) (λ vs rest. h (v ∷ vs) rest)

  trap_right : {A : Type 0} (t : Trap) (at : Place) (o : Option A) (k : A → Going) → ((x : A) → AllRight C (k x)) → AllRight C (or_trap t at o k)
  trap_right t at None k h = record { right = tt }
  trap_right t at (Some x) k h = h x

  deeper_right : (n : ℕ) (at : Place) (s : Going) → AllRight C s → AllRight C (deeper n at s)
  deeper_right zero at s h = record { right = tt }
  deeper_right (suc n) at s h = h

  long_right : (long : Bool) (at : Place) (s : Going) → AllRight C s → AllRight C (unless_long long at s)
  long_right true at s h = record { right = tt }
  long_right false at s h = h

  module _ (at : Place) (g : Level ℕ (ℕ × ℕ)) (fs : List (Level ℕ (ℕ × ℕ))) where
    called_right : (o : Option Site) → AllRight C (called N C at o g fs)
    called_right (Some (call_site c r formals regions)) =
        taken_right formals g.stack _ (λ vs rest. one_right rest _ (λ v st. trap_right {A = ℕ} trap.Null at (reference v) _ (λ n. deeper_right g.frame.left at _ (long_right (some_long (map (concrete N (around g.frame)) regions)) at _ (record { right = tt })))))
    called_right o = record { right = tt }

    creates_right : (c : ℕ) (rs : List (Region (ℕ × ℕ))) (vs : Values) (j : Option ℕ) (st : Values) → AllRight C (creates N C at c rs vs j g st fs)
    creates_right c rs vs None st = record { right = refl }
    creates_right c rs vs (Some j) st = deeper_right g.frame.left at _ (record { right = refl })

    created_right : (o : Option Site) → AllRight C (created N C at o g fs)
    created_right (Some (new_site c formals regions)) = taken_right formals g.stack _ (λ vs st. long_right (some_long (map (concrete N (around g.frame)) regions)) at _ (creates_right c (map (concrete N (around g.frame)) regions) (reverse vs) (constructor_of C c) st))
    created_right o = record { right = tt }

    array_right : (region : Region (ℕ × ℕ)) (first : FirstValue) (len : ℤ) (st : Values) → AllRight C (array_of at region first len g st fs)
    array_right region first (pos k) st = long_right (is_long region) at _ (record { right = refl })
    array_right region first (negsuc k) st = record { right = tt }

    makes_array_right : (o : Option Site) → AllRight C (makes_array N at o g fs)
    makes_array_right (Some (array_site region first)) = one_right g.stack _ (λ v st. array_right (concrete N (around g.frame) region) first (number v) st)
    makes_array_right o = record { right = tt }

    forked_right : (o : Option Site) → AllRight C (forked at o g fs)
    forked_right (Some (fork_site forking js copies)) = deeper_right g.frame.left at _ (record { right = tt })
    forked_right o = record { right = tt }

    spread_right : (o : Option Site) → AllRight C (spread at o g fs)
    spread_right (Some (spread_site forking j x)) = two_right g.stack _ (λ start count st. deeper_right g.frame.left at _ (record { right = tt }))
    spread_right o = record { right = tt }

    joins_fork_right : (total : ℕ) (copies : List ℕ) (left : ℕ) (st : Values) → AllRight C (joins_fork total copies left g st fs)
    joins_fork_right total copies zero st = record { right = tt }
    joins_fork_right total copies (suc left) st = record { right = tt }

    joins_spread_right : (next : Value ℕ) (total left : ℕ) (st : Values) → AllRight C (joins_spread next total left g st fs)
    joins_spread_right next total zero st = record { right = tt }
    joins_spread_right next total (suc left) st = record { right = tt }

    joins_site_right : (o : Option Site) → AllRight C (joins_site o g fs)
    joins_site_right (Some (fork_site forking js copies)) = one_right g.stack _ (λ left st. joins_fork_right (length js) (all_copied copies) (how_many (number left)) st)
    joins_site_right (Some (spread_site forking j x)) = one_right g.stack _ (λ left more. two_right more _ (λ total next st. joins_spread_right next (how_many (number total)) (how_many (number left)) st))
    joins_site_right o = record { right = tt }

    joins_right : (o : Option ℕ) → AllRight C (joins C o g fs)
    joins_right None = record { right = tt }
    joins_right (Some s) = joins_site_right (slice_get C.sites s)

    ends_right : (gs : List (Level ℕ (ℕ × ℕ))) → AllRight C (ends_branch C g gs)
    ends_right [] = record { right = tt }
    ends_right (f ∷ gs) = record { right = tt }

    operates_right : (o : BinaryOp) → AllRight C (machine.operates N at o g fs)
    operates_right o = two_right g.stack _ (λ v u st. trap_right {A = Value ℕ} trap.Divide at (operated N.same o v u) _ (λ w. record { right = tt }))

    exec_right : (x : Instr) → AllRight C (exec N C at x g fs)
    exec_right (i.Int k) = record { right = tt }
    exec_right (i.Bool b) = record { right = tt }
    exec_right i.Null = record { right = tt }
    exec_right (i.Load k) = record { right = tt }
    exec_right (i.Store k) = one_right g.stack _ (λ v st. record { right = tt })
    exec_right i.Pop = one_right g.stack _ (λ v st. record { right = tt })
    exec_right (i.Unary o) = one_right g.stack _ (λ v st. record { right = tt })
    exec_right (i.Binary o) = operates_right o
    exec_right (i.Jump l) = record { right = tt }
    exec_right (i.Unless l) = one_right g.stack _ (λ v st. record { right = tt })
    exec_right i.Turn = record { right = tt }
    exec_right (i.Get k) = one_right g.stack _ (λ v st. trap_right {A = ℕ} trap.Null at (reference v) _ (λ n. record { right = tt }))
    exec_right (i.Put k) = two_right g.stack _ (λ v u st. trap_right {A = ℕ} trap.Null at (reference v) _ (λ n. record { right = tt }))
    exec_right i.Elem = two_right g.stack _ (λ v u st. trap_right {A = ℕ} trap.Null at (reference v) _ (λ n. record { right = tt }))
    exec_right i.PutElem = three_right g.stack _ (λ v u w st. trap_right {A = ℕ} trap.Null at (reference v) _ (λ n. record { right = tt }))
    exec_right i.Length = one_right g.stack _ (λ v st. trap_right {A = ℕ} trap.Null at (reference v) _ (λ n. record { right = tt }))
    exec_right (i.Call s) = called_right (slice_get C.sites s)
    exec_right (i.New s) = created_right (slice_get C.sites s)
    exec_right (i.Array s) = makes_array_right (slice_get C.sites s)
    exec_right i.Return = one_right g.stack _ (λ v st. record { right = tt })
    exec_right i.Leave = record { right = tt }
    exec_right i.Print = one_right g.stack _ (λ v st. record { right = tt })
    exec_right (i.Text t) = record { right = tt }
    exec_right (i.Fork s) = forked_right (slice_get C.sites s)
    exec_right (i.Spread s) = spread_right (slice_get C.sites s)
    exec_right i.Join = joins_right (site_of (line_before (body_at C g.body).lines g.at))
    exec_right (i.Enter s) = record { right = tt }
    exec_right i.Exit = record { right = tt }
    exec_right i.End = ends_right fs
    exec_right (i.Region r) = record { right = tt }
    exec_right (i.Part k) = record { right = tt }
    exec_right (i.InPart k) = one_right g.stack _ (λ v st. trap_right {A = ℤ} trap.Index at (part_place k (number v) g.frame.values) _ (λ p. record { right = tt }))
    exec_right (i.InParts k) = two_right g.stack _ (λ v u st. trap_right {A = ℤ} trap.Index at (part_place k (number v) g.frame.values) _ (λ p. record { right = tt }))

  block_right : (o : Option Site) (g : Level ℕ (ℕ × ℕ)) (fs : List (Level ℕ (ℕ × ℕ))) → AllRight C (enters_block N o g fs)
  block_right (Some (block_site effects)) g fs = record { right = tt }
  block_right o g fs = record { right = tt }

  rested_right : (x : Instr) (g : Level ℕ (ℕ × ℕ)) (fs : List (Level ℕ (ℕ × ℕ))) → AllRight C (rested_at N C x g fs)
  rested_right (i.Enter s) g fs = block_right (slice_get C.sites s) g fs
  rested_right x g fs = record { right = tt }

  line_right : (o : Option Line) (g : Level ℕ (ℕ × ℕ)) (fs : List (Level ℕ (ℕ × ℕ))) → AllRight C (exec_line N C o g fs)
  line_right None g fs = record { right = tt }
  line_right (Some l) g fs = exec_right l.place g fs l.instr

  rested_line_right : (o : Option Line) (g : Level ℕ (ℕ × ℕ)) (fs : List (Level ℕ (ℕ × ℕ))) → AllRight C (rested_line N C o g fs)
  rested_line_right None g fs = record { right = tt }
  rested_line_right (Some l) g fs = rested_right l.instr g fs

  stand_right : (z : State ℕ (ℕ × ℕ)) → AllRight C (step N C z)
  unfolding step
  stand_right (On g fs) = line_right (slice_get (body_at C g.body).lines g.at) g fs
  stand_right (Rested g fs) = rested_line_right (slice_get (body_at C g.body).lines g.at) g fs
  stand_right (Off e) = record { right = tt }
  stand_right Nowhere = record { right = tt }

  pub step_right : (z : State ℕ (ℕ × ℕ)) → WaitsRight C (step N C z)
  step_right z = (stand_right z).right
