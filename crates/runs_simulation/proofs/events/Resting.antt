-- Only a rest is followed by an entry: the one in front of which the task rests.
use Rattle.std.proofs.Common.{◌≡◌, ℕ, zero, suc, ◌==◌, if◌then◌else◌, ℤ, pos, negsuc, Bool, true, false, List, [], ◌∷◌, map, length, reverse, refl, sym, ap, ◌∙◌, subst, Option, Some, None, slice_get}
use Rattle.lang_base.specs.declared.place.Place.{Place}
use Rattle.lang_base.specs.declared.value.Trap.{Trap}
use Rattle.lang_base.specs.declared.value.Trap.TheVariants as trap
use Rattle.lang_base.specs.declared.value.FirstValue.{FirstValue}
use Rattle.lang_base.specs.declared.op.BinaryOp.{BinaryOp}
use Rattle.lang_meaning.specs.Values.{Value, Int, Object, Region, An_object, An_array}
use Rattle.lang_meaning.specs.Actions.{Action, Answer, Effect, Read, Write, Look, New, Print, Enter, Exit, Do, Fork, Begin, Join, End, Rest}
use Rattle.lang_meaning.specs.Asking.{most_ticks}
use Rattle.lang_meaning.specs.Counts.{number, reference, value_read, is_out, length_seen, name_made, class_seen, class_entered, operated, slot_value, how_many, part_place, Brought, Back, Trap_of_branch, brought}
use Rattle.lang_meaning.specs.Expressions.{none}
use Rattle.lang_meaning.specs.Regions.{around, concrete, concrete_effect, is_long, some_long}
use Rattle.code_instrs.specs.declared.instr.Instr.{Instr}
use Rattle.code_instrs.specs.declared.instr.Instr.TheVariants as i
use Rattle.code_instrs.specs.RunsToActions.{Halt, Asks, Finished, Dead, ran_on_tick, ran_on, run_to_action, RunsToAction}
use Rattle.code_instrs.specs.Machine.{Level, Start, State, On, Rested, Off, Nowhere, Stand, Goes, Ticks, Makes, Waits, Ends, Stuck, step, next, one, two, three, taken, or_trap, cell_read, cell_written, reads, writes, deeper, unless_long, entered, calls_method, enters, calls, called, creates, created, array_of, makes_array, held_first, returned, left_with, forked, spread, joined, joins_fork, joins_spread, joins_site, joins, all_copied, site_of, line_before, ends_branch, in_part, operates, exec, exec_line, enters_block, rested_at, rested_line}
use Rattle.code_instrs.specs.Plain.{Line, Site, fork_site, spread_site, block_site, call_site, new_site, array_site, PlainCode, body_at, class_at, parent_of, method_at, Method, constructor_of, fields_of}
use Rattle.exec_task.specs.Names.{names_of}
use Rattle.exec_machine.specs.Wants.{entry_of, entry_by, effects_of, accesses_of, wants_at}

abbrev StandIn : Type 0
StandIn = Stand ℕ (ℕ × ℕ)

abbrev StateIn : Type 0
StateIn = State ℕ (ℕ × ℕ)

abbrev LevelIn : Type 0
LevelIn = Level ℕ (ℕ × ℕ)

abbrev ActionIn : Type 0
ActionIn = Action ℕ (ℕ × ℕ) (Start ℕ (ℕ × ℕ))

abbrev ThenIn : Type 0
ThenIn = Answer ℕ (ℕ × ℕ) → StateIn

-- the effects of the entry that a task makes next which has rested in front of it
abbrev pub entry_next : PlainCode → StateIn → Option (List (Effect (ℕ × ℕ)))
entry_next C (Rested g fs) = entry_of C g (slice_get (body_at C g.body).lines g.at)
entry_next C (On g fs) = None
entry_next C (Off e) = None
entry_next C Nowhere = None

-- no answer leads to an entry
abbrev NoEntry : PlainCode → ThenIn → Type 0
NoEntry C f = (x : Answer ℕ (ℕ × ℕ)) → entry_next C (f x) ≡ None

-- what follows an action
abbrev pub Following : PlainCode → StateIn → ActionIn → ThenIn → Type 0
Following C z (Do Rest) f = (x : Answer ℕ (ℕ × ℕ)) → entry_next C (f x) ≡ wants_at C z
Following C z (Do (Enter E)) f = (entry_next C z ≡ Some E) × NoEntry C f
Following C z (Do (Read n j)) f = NoEntry C f
Following C z (Do (Write n j v)) f = NoEntry C f
Following C z (Do (Look n)) f = NoEntry C f
Following C z (Do (New t c)) f = NoEntry C f
Following C z (Do (Print bytes)) f = NoEntry C f
Following C z (Do Exit) f = NoEntry C f
Following C z (Fork bs) f = NoEntry C f
Following C z (Begin b) f = NoEntry C f
Following C z Join f = NoEntry C f
Following C z (End e) f = Unit {0}

abbrev Leads : PlainCode → StateIn → StandIn → Type 0
Leads C z (Goes s) = entry_next C s ≡ None
Leads C z (Ticks s) = entry_next C s ≡ None
Leads C z (Makes f) = (l : ℕ × ℕ) → entry_next C (f l) ≡ None
Leads C z (Waits a f) = Following C z a f
Leads C z (Ends e) = Unit {0}
Leads C z Stuck = Unit {0}

pub record Leading (C : PlainCode) (z : StateIn) (o : StandIn) : Type 0 where
  pub is : Leads C z o

module _ (C : PlainCode) (z : StateIn) where
  leads_one : (st : List (Value ℕ)) (k : Value ℕ → List (Value ℕ) → StandIn) → ((v : Value ℕ) (rest : List (Value ℕ)) → Leading C z (k v rest)) → Leading C z (one st k)
  leads_one [] k h = record { is = tt }
  leads_one (v ∷ st) k h = h v st

  leads_two : (st : List (Value ℕ)) (k : Value ℕ → Value ℕ → List (Value ℕ) → StandIn) → ((v u : Value ℕ) (rest : List (Value ℕ)) → Leading C z (k v u rest))
      → Leading C z (two st k)
  leads_two st k h = leads_one st _ (λ u more. leads_one more _ (λ v rest. h v u rest))

  leads_three : (st : List (Value ℕ)) (k : Value ℕ → Value ℕ → Value ℕ → List (Value ℕ) → StandIn)
      → ((v u x : Value ℕ) (rest : List (Value ℕ)) → Leading C z (k v u x rest)) → Leading C z (three st k)
  leads_three st k h = leads_one st _ (λ x more. leads_two more _ (λ v u rest. h v u x rest))

  leads_taken : (n : ℕ) (st : List (Value ℕ)) (k : List (Value ℕ) → List (Value ℕ) → StandIn) → ((vs rest : List (Value ℕ)) → Leading C z (k vs rest))
      → Leading C z (taken n st k)
  leads_taken zero st k h = h [] st
  leads_taken (suc n) [] k h = record { is = tt }
  leads_taken (suc n) (v ∷ st) k h = leads_taken n st _ (λ vs rest. h (v ∷ vs) rest)

  leads_or : {A : Type 0} (t : Trap) (at : Place) (o : Option A) (k : A → StandIn) → ((x : A) → Leading C z (k x)) → Leading C z (or_trap t at o k)
  leads_or t at None k h = record { is = refl }
  leads_or t at (Some x) k h = h x

  leads_deeper : (n : ℕ) (at : Place) (s : StandIn) → Leading C z s → Leading C z (deeper n at s)
  leads_deeper zero at s h = record { is = refl }
  leads_deeper (suc n) at s h = h

  leads_long : (b : Bool) (at : Place) (s : StandIn) → Leading C z s → Leading C z (unless_long b at s)
  leads_long true at s h = record { is = refl }
  leads_long false at s h = h

  -- how levels go on
  read_on : (at : Place) (o : Option (Value ℕ)) (g : LevelIn) (st : List (Value ℕ)) (fs : List LevelIn) → entry_next C (cell_read at o g st fs) ≡ None
  read_on at None g st fs = refl
  read_on at (Some v) g st fs = refl

  wrote_on : (at : Place) (b : Bool) (g : LevelIn) (st : List (Value ℕ)) (fs : List LevelIn) → entry_next C (cell_written at b g st fs) ≡ None
  wrote_on at true g st fs = refl
  wrote_on at false g st fs = refl

  called_on : (k : ℕ) (o : Option Method) (seen : ℕ × List (Region (ℕ × ℕ))) (vs : List (Value ℕ)) (own : List (Region (ℕ × ℕ))) (g : LevelIn) (fs : List LevelIn)
      → entry_next C (calls_method (names_of k) C o seen vs own g fs) ≡ None
  called_on k None seen vs own g fs = refl
  called_on k (Some m) seen vs own g fs = refl

  returned_on : (v : Value ℕ) (fs : List LevelIn) → entry_next C (returned v fs) ≡ None
  returned_on v [] = refl
  returned_on v (g ∷ fs) = refl

  left_on : (v : Value ℕ) (fs : List LevelIn) → entry_next C (left_with v fs) ≡ None
  left_on v [] = refl
  left_on v (g ∷ fs) = refl

  joined_on : (copies : List ℕ) (b : Brought ℕ) (g : LevelIn) (fs : List LevelIn) → entry_next C (joined copies b g fs) ≡ None
  joined_on copies (Back ls) g fs = refl
  joined_on copies (Trap_of_branch t place) g fs = refl

module _ (C : PlainCode) (k : ℕ) (g : LevelIn) (fs : List LevelIn) where
  abbrev Here : StateIn
  Here = On g fs

  fork_leads : (at : Place) (o : Option Site) → Leading C Here (forked at o g fs)
  fork_leads at None = record { is = tt }
  fork_leads at (Some (spread_site forking j x)) = record { is = tt }
  fork_leads at (Some (block_site effects)) = record { is = tt }
  fork_leads at (Some (call_site c r formals regions)) = record { is = tt }
  fork_leads at (Some (new_site c n regions)) = record { is = tt }
  fork_leads at (Some (array_site region first)) = record { is = tt }
  fork_leads at (Some (fork_site forking js copies)) = leads_deeper C Here g.frame.left at _ (record { is = λ x. refl })

  spread_leads : (at : Place) (o : Option Site) → Leading C Here (spread at o g fs)
  spread_leads at None = record { is = tt }
  spread_leads at (Some (fork_site forking js copies)) = record { is = tt }
  spread_leads at (Some (block_site effects)) = record { is = tt }
  spread_leads at (Some (call_site c r formals regions)) = record { is = tt }
  spread_leads at (Some (new_site c n regions)) = record { is = tt }
  spread_leads at (Some (array_site region first)) = record { is = tt }
  spread_leads at (Some (spread_site forking j x)) = leads_two C Here g.stack _ (λ start count st. leads_deeper C Here g.frame.left at _ (record { is = λ a. refl }))

  joins_fork_leads : (total : ℕ) (copies : List ℕ) (n : ℕ) (st : List (Value ℕ)) → Leading C Here (joins_fork total copies n g st fs)
  joins_fork_leads total copies zero st = record { is = λ x. joined_on C Here copies (brought x) (record g { stack = st }) fs }
  joins_fork_leads total copies (suc n) st = record { is = λ x. refl }

  joins_spread_leads : (v : Value ℕ) (total n : ℕ) (st : List (Value ℕ)) → Leading C Here (joins_spread v total n g st fs)
  joins_spread_leads v total zero st = record { is = λ x. joined_on C Here [] (brought x) (record g { stack = st }) fs }
  joins_spread_leads v total (suc n) st = record { is = λ x. refl }

  join_leads : (o : Option Site) → Leading C Here (joins_site o g fs)
  join_leads None = record { is = tt }
  join_leads (Some (block_site effects)) = record { is = tt }
  join_leads (Some (call_site c r formals regions)) = record { is = tt }
  join_leads (Some (new_site c n regions)) = record { is = tt }
  join_leads (Some (array_site region first)) = record { is = tt }
  join_leads (Some (fork_site forking js copies)) = leads_one C Here g.stack _ (λ left st. joins_fork_leads (length js) (all_copied copies) (how_many (number left)) st)
  join_leads (Some (spread_site forking j x)) =
      leads_one C Here g.stack _ (λ left more. leads_two C Here more _ (λ total next st. joins_spread_leads next (how_many (number total)) (how_many (number left)) st))

  joins_lead : (q : Option ℕ) → Leading C Here (joins C q g fs)
  joins_lead None = record { is = tt }
  joins_lead (Some s) = join_leads (slice_get C.sites s)

  array_leads : (at : Place) (r : Region (ℕ × ℕ)) (c : FirstValue) (n : ℤ) (st : List (Value ℕ)) → Leading C Here (array_of at r c n g st fs)
  array_leads at r c (negsuc n) st = record { is = refl }
  array_leads at r c (pos n) st =
      leads_long C Here (is_long r) at (Waits (Do (New (An_array r n (held_first c)) false)) (λ a. next g (name_made a ∷ st) fs)) (record { is = λ x. refl })

  calls_lead : (at : Place) (c r : ℕ) (own : List (Region (ℕ × ℕ))) (n : ℕ) (vs st : List (Value ℕ)) → Leading C Here (calls (names_of k) C at c r own n vs g st fs)
  calls_lead at c r own n vs st =
      leads_deeper C Here g.frame.left at _ (leads_long C Here (some_long own) at
      (Waits (Do (Look n)) (λ a. enters (names_of k) C (class_entered (parent_of C) (length C.classes) c (class_seen a)) r (Object n ∷ vs) own (record g { at = suc g.at; stack = st }) fs))
      (record {
        is = λ a. (let seen = class_entered (parent_of C) (length C.classes) c (class_seen a) in
            called_on C Here k (method_at C seen.0 r) seen (Object n ∷ vs) own (record g { at = suc g.at; stack = st }) fs);
      }))

  call_leads : (at : Place) (o : Option Site) → Leading C Here (called (names_of k) C at o g fs)
  call_leads at None = record { is = tt }
  call_leads at (Some (fork_site forking js copies)) = record { is = tt }
  call_leads at (Some (spread_site forking j x)) = record { is = tt }
  call_leads at (Some (block_site effects)) = record { is = tt }
  call_leads at (Some (new_site c n regions)) = record { is = tt }
  call_leads at (Some (array_site region first)) = record { is = tt }
  call_leads at (Some (call_site c r formals regions)) =
      leads_taken C Here formals g.stack _ (λ vs rest. leads_one C Here rest _ (λ v st. leads_or C Here trap.Null at (reference v)
      (λ n. calls (names_of k) C at c r (map (concrete (names_of k) (around g.frame)) regions) n (reverse vs) g st fs)
      (λ n. calls_lead at c r (map (concrete (names_of k) (around g.frame)) regions) n (reverse vs) st)))

  creates_lead : (at : Place) (c : ℕ) (rs : List (Region (ℕ × ℕ))) (vs : List (Value ℕ)) (o : Option ℕ) (st : List (Value ℕ))
      → Leading C Here (creates (names_of k) C at c rs vs o g st fs)
  creates_lead at c rs vs None st = record { is = λ x. refl }
  creates_lead at c rs vs (Some j) st = leads_deeper C Here g.frame.left at
      (Waits (Do (New (An_object c rs (map held_first (fields_of (class_at C c)))) true)) (λ a. entered (names_of k) C j (name_made a ∷ vs) rs (record g { at = suc g.at; stack = name_made a ∷ st }) fs))
      (record { is = λ x. refl })

  create_leads : (at : Place) (o : Option Site) → Leading C Here (created (names_of k) C at o g fs)
  create_leads at None = record { is = tt }
  create_leads at (Some (fork_site forking js copies)) = record { is = tt }
  create_leads at (Some (spread_site forking j x)) = record { is = tt }
  create_leads at (Some (block_site effects)) = record { is = tt }
  create_leads at (Some (call_site c r formals regions)) = record { is = tt }
  create_leads at (Some (array_site region first)) = record { is = tt }
  create_leads at (Some (new_site c formals regions)) =
      leads_taken C Here formals g.stack _ (λ vs st. leads_long C Here (some_long (map (concrete (names_of k) (around g.frame)) regions)) at
      (creates (names_of k) C at c (map (concrete (names_of k) (around g.frame)) regions) (reverse vs) (constructor_of C c) g st fs)
      (creates_lead at c (map (concrete (names_of k) (around g.frame)) regions) (reverse vs) (constructor_of C c) st))

  makes_lead : (at : Place) (o : Option Site) → Leading C Here (makes_array (names_of k) at o g fs)
  makes_lead at None = record { is = tt }
  makes_lead at (Some (fork_site forking js copies)) = record { is = tt }
  makes_lead at (Some (spread_site forking j x)) = record { is = tt }
  makes_lead at (Some (block_site effects)) = record { is = tt }
  makes_lead at (Some (call_site c r formals regions)) = record { is = tt }
  makes_lead at (Some (new_site c n regions)) = record { is = tt }
  makes_lead at (Some (array_site region first)) = leads_one C Here g.stack _ (λ v st. array_leads at (concrete (names_of k) (around g.frame) region) first (number v) st)

  end_leads : (gs : List LevelIn) → Leading C Here (ends_branch C g gs)
  end_leads [] = record { is = refl }
  end_leads (x ∷ gs) = record { is = tt }

  operates_lead : (at : Place) (o : BinaryOp) → Leading C Here (operates (names_of k) at o g fs)
  operates_lead at o = leads_two C Here g.stack _ (λ v u st. leads_or C Here trap.Divide at (operated (names_of k).same o v u) (λ w. Goes (next g (w ∷ st) fs)) (λ w. record { is = refl }))

  reads_lead : (at : Place) (v : Value ℕ) (j : ℤ) (st : List (Value ℕ)) → Leading C Here (reads at v j g st fs)
  reads_lead at v j st = leads_or C Here trap.Null at (reference v) (λ n. Waits (Do (Read n j)) (λ a. cell_read at (value_read a) g st fs))
      (λ n. record { is = λ a. read_on C Here at (value_read a) g st fs })

  writes_lead : (at : Place) (v : Value ℕ) (j : ℤ) (u : Value ℕ) (st : List (Value ℕ)) → Leading C Here (writes at v j u g st fs)
  writes_lead at v j u st =
      leads_or C Here trap.Null at (reference v) (λ n. Waits (Do (Write n j u)) (λ a. cell_written at (is_out a) g st fs))
      (λ n. record { is = λ a. wrote_on C Here at (is_out a) g st fs })

  part_leads : (at : Place) (x : ℕ) (v : Value ℕ) (f : ℤ → Value ℕ → StandIn) → ((p : ℤ) (a : Value ℕ) → Leading C Here (f p a)) → Leading C Here (in_part at x v g f)
  part_leads at x v f h = leads_or C Here trap.Index at (part_place x (number v) g.frame.values) (λ p. f p (slot_value g.frame.values x)) (λ p. h p _)

  exec_leads : (at : Place) (x : Instr) → Leading C Here (exec (names_of k) C at x g fs)
  exec_leads at (i.Int n) = record { is = refl }
  exec_leads at (i.Bool b) = record { is = refl }
  exec_leads at i.Null = record { is = refl }
  exec_leads at (i.Load x) = record { is = refl }
  exec_leads at (i.Store x) = leads_one C Here g.stack _ (λ v st. record { is = refl })
  exec_leads at i.Pop = leads_one C Here g.stack _ (λ v st. record { is = refl })
  exec_leads at (i.Unary o) = leads_one C Here g.stack _ (λ v st. record { is = refl })
  exec_leads at (i.Binary o) = operates_lead at o
  exec_leads at (i.Jump n) = record { is = refl }
  exec_leads at (i.Unless n) = leads_one C Here g.stack _ (λ v st. record { is = refl })
  exec_leads at i.Turn = record { is = refl }
  exec_leads at (i.Get x) = leads_one C Here g.stack _ (λ v st. reads_lead at v (pos x) st)
  exec_leads at (i.Put x) = leads_two C Here g.stack _ (λ v u st. writes_lead at v (pos x) u st)
  exec_leads at i.Elem = leads_two C Here g.stack _ (λ v u st. reads_lead at v (number u) st)
  exec_leads at i.PutElem = leads_three C Here g.stack _ (λ v j u st. writes_lead at v (number j) u st)
  exec_leads at i.Length = leads_one C Here g.stack _ (λ v st. leads_or C Here trap.Null at (reference v)
      (λ n. Waits (Do (Look n)) (λ a. next g (Int (pos (length_seen a)) ∷ st) fs)) (λ n. record { is = λ x. refl }))
  exec_leads at (i.Call s) = call_leads at (slice_get C.sites s)
  exec_leads at (i.New s) = create_leads at (slice_get C.sites s)
  exec_leads at (i.Array s) = makes_lead at (slice_get C.sites s)
  exec_leads at i.Return = leads_one C Here g.stack _ (λ v st. record { is = returned_on C Here v fs })
  exec_leads at i.Leave = record { is = left_on C Here none fs }
  exec_leads at i.Print = leads_one C Here g.stack _ (λ v st. record { is = λ x. refl })
  exec_leads at (i.Text t) = record { is = λ x. refl }
  exec_leads at (i.Fork s) = fork_leads at (slice_get C.sites s)
  exec_leads at (i.Spread s) = spread_leads at (slice_get C.sites s)
  exec_leads at i.Join = joins_lead (site_of (line_before (body_at C g.body).lines g.at))
  exec_leads at (i.Enter s) = record { is = λ x. refl }
  exec_leads at i.Exit = record { is = λ x. refl }
  exec_leads at i.End = end_leads fs
  exec_leads at (i.Region r) = record { is = λ l. refl }
  exec_leads at (i.Part x) = record { is = refl }
  exec_leads at (i.InPart x) = leads_one C Here g.stack _ (λ v st. part_leads at x v (λ p a. Goes (next g (Int p ∷ a ∷ st) fs)) (λ p a. record { is = refl }))
  exec_leads at (i.InParts x) = leads_two C Here g.stack _ (λ v u st. part_leads at x v (λ p a. Goes (next g (u ∷ Int p ∷ a ∷ st) fs)) (λ p a. record { is = refl }))

  line_leads : (o : Option Line) → Leading C Here (exec_line (names_of k) C o g fs)
  line_leads None = record { is = tt }
  line_leads (Some l) = exec_leads l.place l.instr

  -- after its rest
  block_leads : (o : Option Site) → entry_next C (Rested g fs) ≡ effects_of g (accesses_of o) → Leading C (Rested g fs) (enters_block (names_of k) o g fs)
  block_leads None e = record { is = tt }
  block_leads (Some (fork_site forking js copies)) e = record { is = tt }
  block_leads (Some (spread_site forking j x)) e = record { is = tt }
  block_leads (Some (block_site effects)) e = record { is = (e, λ x. refl) }
  block_leads (Some (call_site c r formals regions)) e = record { is = tt }
  block_leads (Some (new_site c n regions)) e = record { is = tt }
  block_leads (Some (array_site region first)) e = record { is = tt }

  rested_leads : (x : Instr) → entry_next C (Rested g fs) ≡ entry_by C g x → Leading C (Rested g fs) (rested_at (names_of k) C x g fs)
  rested_leads (i.Enter s) e = block_leads (slice_get C.sites s) e
  rested_leads x e = record { is = tt }

  rest_leads : (o : Option Line) → entry_next C (Rested g fs) ≡ entry_of C g o → Leading C (Rested g fs) (rested_line (names_of k) C o g fs)
  rest_leads None e = record { is = tt }
  rest_leads (Some l) e = rested_leads l.instr e

pub step_leads : (C : PlainCode) (k : ℕ) (z : StateIn) → Leading C z (step (names_of k) C z)
unfolding step
step_leads C k (On g fs) = line_leads C k g fs (slice_get (body_at C g.body).lines g.at)
step_leads C k (Rested g fs) = rest_leads C k g fs (slice_get (body_at C g.body).lines g.at) refl
step_leads C k (Off e) = record { is = tt }
step_leads C k Nowhere = record { is = tt }

-- a way that ends in front of nothing but a rest: an entry is that of its start, and after the last tick no entry follows
abbrev EndsAt : PlainCode → StateIn → Halt ℕ (ℕ × ℕ) → Type 0
EndsAt C s (Asks n m a f) = ((E : List (Effect (ℕ × ℕ))) → a ≡ Do (Enter E) → entry_next C s ≡ Some E) × ((n == most_ticks) ≡ true → NoEntry C f)
EndsAt C s (Finished n e) = Unit {0}
EndsAt C s Dead = Unit {0}

-- from a state that is in front of no entry
ends_before : (C : PlainCode) (s t : StateIn) (h : Halt ℕ (ℕ × ℕ)) → entry_next C t ≡ None → EndsAt C t h → EndsAt C s h
ends_before C s t (Asks n m a f) none e = (λ E i. absurd (let x = e.0 E i in let both : None ≡ Some E = sym none ∙ x in cc), e.1)
ends_before C s t (Finished n x) none e = tt
ends_before C s t Dead none e = tt

after_entry : (C : PlainCode) (z : StateIn) (a : ActionIn) (f : ThenIn) → Following C z a f → (E : List (Effect (ℕ × ℕ))) → a ≡ Do (Enter E) → entry_next C z ≡ Some E
after_entry C z a f h E e = (subst (λ b. Following C z b f) e h).0

-- but after a rest
pub after_others : (C : PlainCode) (z : StateIn) (a : ActionIn) (f : ThenIn) → Following C z a f → (a ≡ Do Rest → ⊥) → ((e : _) → a ≡ End e → ⊥) → NoEntry C f
after_others C z (Do Rest) f h n m = absurd (n refl)
after_others C z (Do (Enter E)) f h n m = h.1
after_others C z (Do (Read k j)) f h n m = h
after_others C z (Do (Write k j v)) f h n m = h
after_others C z (Do (Look k)) f h n m = h
after_others C z (Do (New t c)) f h n m = h
after_others C z (Do (Print bytes)) f h n m = h
after_others C z (Do Exit) f h n m = h
after_others C z (Fork bs) f h n m = h
after_others C z (Begin b) f h n m = h
after_others C z Join f h n m = h
after_others C z (End e) f h n m = absurd (m e refl)

module _ (C : PlainCode) (k : ℕ) where
  RunsEnd : (ℕ → ℕ → StateIn → Option (Halt ℕ (ℕ × ℕ))) → Type 0
  RunsEnd more = (ticks made : ℕ) (s : StateIn) (h : Halt ℕ (ℕ × ℕ)) → (ticks == most_ticks) ≡ false → more ticks made s ≡ Some h → EndsAt C s h

  tick_ends : (more : ℕ → ℕ → StateIn → Option (Halt ℕ (ℕ × ℕ))) → RunsEnd more → (ticks made : ℕ) (s t : StateIn) (h : Halt ℕ (ℕ × ℕ)) → entry_next C t ≡ None
      → ran_on_tick more ticks made t ≡ Some h → EndsAt C s h
  unfolding RunsEnd
  tick_ends more rec ticks made s t h none e = go (suc ticks == most_ticks) refl e
    where
      go : (b : Bool) → (suc ticks == most_ticks) ≡ b → (if b then Some (Asks (suc ticks) made (Do Rest) (λ x. t)) else more (suc ticks) made t) ≡ Some h → EndsAt C s h
      go true i e = (let same : Asks (suc ticks) made (Do Rest) (λ x. t) ≡ h = cc in subst (λ h. EndsAt C s h) same (λ E j. absurd (cc), λ j x. none))
      go false i e = ends_before C s t h none (rec (suc ticks) made t h i e)

  stand_ends : (more : ℕ → ℕ → StateIn → Option (Halt ℕ (ℕ × ℕ))) → RunsEnd more → (ticks made : ℕ) (s : StateIn) (o : StandIn) (h : Halt ℕ (ℕ × ℕ)) → Leading C s o
      → (ticks == most_ticks) ≡ false → ran_on (names_of k) more ticks made o ≡ Some h → EndsAt C s h
  unfolding RunsEnd
  stand_ends more rec ticks made s (Goes t) h l n e = ends_before C s t h l.is (rec ticks made t h n e)
  stand_ends more rec ticks made s (Ticks t) h l n e = tick_ends more rec ticks made s t h l.is e
  stand_ends more rec ticks made s (Makes f) h l n e = tick_ends more rec ticks (suc made) s (f ((names_of k).made made)) h (l.is ((names_of k).made made)) e
  stand_ends more rec ticks made s (Waits a f) h l n e =
      let same : Asks ticks made a f ≡ h = cc in
      subst (λ h. EndsAt C s h) same (λ E i. after_entry C s a f l.is E i, λ i. absurd (let both : false ≡ true = sym n ∙ i in cc))
  stand_ends more rec ticks made s (Ends x) h l n e = (let same : Finished ticks x ≡ h = cc in subst (λ h. EndsAt C s h) same tt)
  stand_ends more rec ticks made s Stuck h l n e = (let same : Dead ≡ h = cc in subst (λ h. EndsAt C s h) same tt)

  run_ends : (fuel : ℕ) → RunsEnd (λ n m s. run_to_action (names_of k) C fuel n m s)
  unfolding RunsEnd
  run_ends zero ticks made s h n e = absurd (cc)
  run_ends (suc fuel) ticks made s h n e =
      stand_ends (λ n m s. run_to_action (names_of k) C fuel n m s) (run_ends fuel) ticks made s (step (names_of k) C s) h (step_leads C k s) n e

  at_first : (0 == most_ticks) ≡ false
  unfolding most_ticks
  at_first = refl

  ends_run : (made : ℕ) (s : StateIn) (h : Halt ℕ (ℕ × ℕ)) → RunsToAction (names_of k) C made s h → EndsAt C s h
  unfolding RunsEnd
  ends_run made s h l = run_ends l.fuel 0 made s h at_first l.runs

  -- an entry is that in front of which the task has rested
  pub run_entry : (made : ℕ) (s : StateIn) (h : Halt ℕ (ℕ × ℕ)) (n m : ℕ) (E : List (Effect (ℕ × ℕ))) (f : ThenIn) → RunsToAction (names_of k) C made s h
      → h ≡ Asks n m (Do (Enter E)) f → entry_next C s ≡ Some E
  run_entry made s h n m E f l e = (subst (λ h. EndsAt C s h) e (ends_run made s h l)).0 E refl

  -- after the last tick no entry follows
  pub run_spent : (made : ℕ) (s : StateIn) (h : Halt ℕ (ℕ × ℕ)) (n m : ℕ) (a : ActionIn) (f : ThenIn) → RunsToAction (names_of k) C made s h
      → h ≡ Asks n m a f → (n == most_ticks) ≡ true → (x : Answer ℕ (ℕ × ℕ)) → entry_next C (f x) ≡ None
  run_spent made s h n m a f l e t x = (subst (λ h. EndsAt C s h) e (ends_run made s h l)).1 t x

-- a task that has rested in front of an entry makes it next
module _ (C : PlainCode) (k : ℕ) (g : LevelIn) (fs : List LevelIn) (E : List (Effect (ℕ × ℕ))) where
  abbrev Makes_entry : StandIn → Type 0
  Makes_entry o = (f : ThenIn) × (o ≡ Waits (Do (Enter E)) f)

  block_entry : (o : Option Site) → effects_of g (accesses_of o) ≡ Some E → Makes_entry (enters_block (names_of k) o g fs)
  block_entry None e = absurd (cc)
  block_entry (Some (fork_site forking js copies)) e = absurd (cc)
  block_entry (Some (spread_site forking j x)) e = absurd (cc)
  block_entry (Some (call_site c r formals regions)) e = absurd (cc)
  block_entry (Some (new_site c n regions)) e = absurd (cc)
  block_entry (Some (array_site region first)) e = absurd (cc)
  block_entry (Some (block_site effects)) e =
      let same : map (concrete_effect (names_of 0) (around g.frame)) effects ≡ E = cc in
      ((λ a. next g g.stack fs), ap (λ F. Waits (Do (Enter F)) (λ a. next g g.stack fs)) same)

  instr_entry : (x : Instr) → entry_by C g x ≡ Some E → Makes_entry (rested_at (names_of k) C x g fs)
  instr_entry (i.Enter s) e = block_entry (slice_get C.sites s) e
  instr_entry x e = absurd (cc)

  line_entry : (o : Option Line) → entry_of C g o ≡ Some E → Makes_entry (rested_line (names_of k) C o g fs)
  line_entry None e = absurd (cc)
  line_entry (Some l) e = instr_entry l.instr e

step_entry : (C : PlainCode) (k : ℕ) (z : StateIn) (E : List (Effect (ℕ × ℕ))) → entry_next C z ≡ Some E → (f : ThenIn) × (step (names_of k) C z ≡ Waits (Do (Enter E)) f)
unfolding step
step_entry C k (Rested g fs) E e = line_entry C k g fs E (slice_get (body_at C g.body).lines g.at) e
step_entry C k (On g fs) E e = absurd (cc)
step_entry C k (Off x) E e = absurd (cc)
step_entry C k Nowhere E e = absurd (cc)

-- so its way ends there
pub run_rested : (C : PlainCode) (k made : ℕ) (z : StateIn) (h : Halt ℕ (ℕ × ℕ)) (E : List (Effect (ℕ × ℕ))) → entry_next C z ≡ Some E → RunsToAction (names_of k) C made z h
    → (f : ThenIn) × (h ≡ Asks 0 made (Do (Enter E)) f)
run_rested C k made z h E e l = go l.fuel l.runs
  where
    go : (fuel : ℕ) → run_to_action (names_of k) C fuel 0 made z ≡ Some h → (f : ThenIn) × (h ≡ Asks 0 made (Do (Enter E)) f)
    go zero r = absurd (cc)
    go (suc fuel) r =
        let s = step_entry C k z E e in
        let at : ran_on (names_of k) (λ n m t. run_to_action (names_of k) C fuel n m t) 0 made (Waits (Do (Enter E)) s.0) ≡ Some h =
        ap (λ o. ran_on (names_of k) (λ n m t. run_to_action (names_of k) C fuel n m t) 0 made o) (sym s.1) ∙ r in
        (s.0, (let same : Asks 0 made (Do (Enter E)) s.0 ≡ h = cc in sym same))
