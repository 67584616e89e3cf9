-- A task that has forked stands at its join until it joins, and its branches start as its fork told.
use Rattle.std.specs.Int.{w32, int_wrapping_add, int_wrapping_sub}
use Rattle.std.proofs.Common.{◌≡◌, ◌≤◌, ◌<◌, ℕ, zero, suc, ◌-◌, ℤ, pos, negsuc, Bool, true, false, List, [], ◌∷◌, map, length, reverse, refl, sym, ap, ap₂, ◌∙◌, subst, Option, Some, None, slice_get, arith}
use Rattle.std.specs.Prelude.{slice_set}
use Rattle.lang_base.specs.declared.place.Place.{Place}
use Rattle.lang_base.specs.declared.value.Trap.{Trap}
use Rattle.lang_base.specs.declared.value.Trap.TheVariants as trap
use Rattle.lang_base.specs.declared.value.FirstValue.{FirstValue}
use Rattle.lang_typed.specs.declared.stmt.Forking.{Forking}
use Rattle.lang_base.specs.declared.op.BinaryOp.{BinaryOp}
use Rattle.lang_meaning.specs.Values.{Value, Int, Object, Region, An_object, An_array}
use Rattle.lang_meaning.specs.Actions.{Frame, Answer, Read, Write, Look, New, Do, Fork, Begin, Join, End, Fell, Trapped}
use Rattle.lang_meaning.specs.Counts.{number, reference, value_read, is_out, length_seen, name_made, class_seen, class_entered, operated, slot_value, how_many, part_place}
use Rattle.lang_meaning.specs.Regions.{around, concrete, is_long, some_long}
use Rattle.code_instrs.specs.declared.instr.Instr.{Instr}
use Rattle.code_instrs.specs.declared.instr.Instr.TheVariants as i
use Rattle.code_instrs.specs.Fit.{site_at}
use Rattle.code_instrs.specs.RunsToActions.{Halt, ran_on, run_to_action, RunsToAction}
use Rattle.code_instrs.specs.Machine.{Level, State, On, Rested, Off, Nowhere, Stand, Goes, Ticks, Makes, Waits, Ends, Stuck, next, one, two, three, taken, or_trap, cell_read, cell_written, reads, writes, deeper, unless_long, entered, enters, calls, called, held_first, creates, created, array_of, makes_array, below, forked, each_started, waiting, spread, all_copied, joins_fork, joins_spread, joins_site, branch_site, site_of, line_before, joins, ends_branch, in_part, operates, exec, exec_line, enters_block, rested_at, rested_line, step}
use Rattle.code_instrs.specs.Plain.{Line, Site, fork_site, spread_site, block_site, call_site, new_site, array_site, PlainCode, body_at, class_at, parent_of, constructor_of, fields_of}
use Rattle.exec_task.specs.Branches.{spread_starts, starts_of, starts_at}
use Rattle.exec_task.specs.Halts.{stands}
use Rattle.exec_task.specs.Names.{names_of}
use Rattle.runs_simulation.proofs.events.Joins.{ForksAreJoined}

abbrev StandIn : Type 0
StandIn = Stand ℕ (ℕ × ℕ)

abbrev StateIn : Type 0
StateIn = State ℕ (ℕ × ℕ)

abbrev LevelIn : Type 0
LevelIn = Level ℕ (ℕ × ℕ)

-- the numbers of a spread's branches: counted from the first, and from the next one
abbrev pub FirstNumbers : Type 0
FirstNumbers = (start : ℤ) (n m : ℕ) → int_wrapping_add w32 (int_wrapping_sub w32 start (pos (n - n))) (pos m) ≡ int_wrapping_add w32 start (pos m)

abbrev pub NextNumbers : Type 0
NextNumbers = (next : ℤ) (n m : ℕ) → suc n < 2147483648
    → int_wrapping_add w32 (int_wrapping_sub w32 (int_wrapping_add w32 next (pos 1)) (pos (suc n))) (pos m) ≡ int_wrapping_add w32 (int_wrapping_sub w32 next (pos n)) (pos m)

abbrev IsJoin : Option Line → Type 0
IsJoin None = ⊥
IsJoin (Some l) = l.instr ≡ i.Join

-- no more branches of a spread are left than there are
abbrev LeftIn : Option Site → List (Value ℕ) → Type 0
LeftIn (Some (spread_site forking j x)) (left ∷ next ∷ total ∷ st) = how_many (number left) ≤ how_many (number total)
LeftIn site st = Unit {0}

-- a task stands at a join
abbrev pub AtJoin : PlainCode → StateIn → Type 0
AtJoin C (On g fs) = IsJoin (slice_get (body_at C g.body).lines g.at) × LeftIn (site_at C (site_of (line_before (body_at C g.body).lines g.at))) g.stack
AtJoin C (Rested g fs) = ⊥
AtJoin C (Off e) = ⊥
AtJoin C Nowhere = ⊥

-- of a spread fewer branches are left than there are
abbrev FewerLeft : Option Site → List (Value ℕ) → Type 0
FewerLeft (Some (spread_site forking j x)) (left ∷ next ∷ total ∷ st) = how_many (number left) < how_many (number total)
FewerLeft site st = Unit {0}

-- a task that stands at a join has begun a branch
abbrev pub HasBegun : PlainCode → StateIn → Type 0
HasBegun C (On g fs) = FewerLeft (site_at C (site_of (line_before (body_at C g.body).lines g.at))) g.stack
HasBegun C (Rested g fs) = ⊥
HasBegun C (Off e) = ⊥
HasBegun C Nowhere = ⊥

-- after a fork a task stands at its join, and its branches start as the fork told; and so it does after a begin, if there aren't too many
abbrev pub Keeps : PlainCode → StateIn → StandIn → Type 0
Keeps C z (Waits (Fork bs) f) = (x : Answer ℕ (ℕ × ℕ)) → AtJoin C (f x) × (starts_at C (f x) ≡ bs.tasks)
Keeps C z (Waits (Begin b) f) =
    (AtJoin C z → (x : Answer ℕ (ℕ × ℕ)) → AtJoin C (f x) × HasBegun C (f x))
    × ((x : Answer ℕ (ℕ × ℕ)) → HasBegun C (f x) → suc b < 2147483648 → starts_at C (f x) ≡ starts_at C z)
Keeps C z (Waits (Do o) f) = Unit {0}
Keeps C z (Waits Join f) = (t : Trap) (p : Place) → f (Fell t p) ≡ Off (Trapped t p)
Keeps C z (Waits (End e) f) = Unit {0}
Keeps C z (Goes s) = Unit {0}
Keeps C z (Ticks s) = Unit {0}
Keeps C z (Makes f) = Unit {0}
Keeps C z (Ends e) = Unit {0}
Keeps C z Stuck = Unit {0}

pub record Kept (C : PlainCode) (z : StateIn) (o : StandIn) : Type 0 where
  pub is : Keeps C z o

same_starts : (j x : ℕ) (f : Frame ℕ (ℕ × ℕ)) (a b : ℤ) → ((m : ℕ) → int_wrapping_add w32 a (pos m) ≡ int_wrapping_add w32 b (pos m)) → (m n : ℕ)
    → each_started j x f a m n ≡ each_started j x f b m n
same_starts j x f a b h m zero = refl
same_starts j x f a b h m (suc n) =
    ap₂ (λ e t. record { body = j; frame = below (record f { values = slice_set f.values x (Int e) }) } ∷ t) (h m) (same_starts j x f a b h (suc m) n)

module _ (C : PlainCode) (z : StateIn) where
  keeps_one : (st : List (Value ℕ)) (k : Value ℕ → List (Value ℕ) → StandIn) → ((v : Value ℕ) (rest : List (Value ℕ)) → Kept C z (k v rest)) → Kept C z (one st k)
  keeps_one [] k h = record { is = tt }
  keeps_one (v ∷ st) k h = h v st

  keeps_two : (st : List (Value ℕ)) (k : Value ℕ → Value ℕ → List (Value ℕ) → StandIn) → ((v u : Value ℕ) (rest : List (Value ℕ)) → Kept C z (k v u rest))
      → Kept C z (two st k)
  keeps_two st k h = keeps_one st _ (λ u more. keeps_one more _ (λ v rest. h v u rest))

  keeps_three : (st : List (Value ℕ)) (k : Value ℕ → Value ℕ → Value ℕ → List (Value ℕ) → StandIn)
      → ((v u x : Value ℕ) (rest : List (Value ℕ)) → Kept C z (k v u x rest)) → Kept C z (three st k)
  keeps_three st k h = keeps_one st _ (λ x more. keeps_two more _ (λ v u rest. h v u x rest))

  keeps_taken : (n : ℕ) (st : List (Value ℕ)) (k : List (Value ℕ) → List (Value ℕ) → StandIn) → ((vs rest : List (Value ℕ)) → Kept C z (k vs rest))
      → Kept C z (taken n st k)
  keeps_taken zero st k h = h [] st
  keeps_taken (suc n) [] k h = record { is = tt }
  keeps_taken (suc n) (v ∷ st) k h = keeps_taken n st _ (λ vs rest. h (v ∷ vs) rest)

  keeps_or : {A : Type 0} (t : Trap) (at : Place) (o : Option A) (k : A → StandIn) → ((x : A) → Kept C z (k x)) → Kept C z (or_trap t at o k)
  keeps_or t at None k h = record { is = tt }
  keeps_or t at (Some x) k h = h x

  keeps_deeper : (n : ℕ) (at : Place) (s : StandIn) → Kept C z s → Kept C z (deeper n at s)
  keeps_deeper zero at s h = record { is = tt }
  keeps_deeper (suc n) at s h = h

  keeps_long : (b : Bool) (at : Place) (s : StandIn) → Kept C z s → Kept C z (unless_long b at s)
  keeps_long true at s h = record { is = tt }
  keeps_long false at s h = h

module _ (C : PlainCode) (FJ : ForksAreJoined C) (firsts : FirstNumbers) (nexts : NextNumbers) (k : ℕ) (g : LevelIn) (fs : List LevelIn) where
  abbrev Here : StateIn
  Here = On g fs

  abbrev Lines : List Line
  Lines = (body_at C g.body).lines

  -- the site of the line in front of the next one
  site_after : (x : Instr) (at : Place) (s : ℕ) (o : Option Site) → branch_site x ≡ Some s → slice_get Lines g.at ≡ Some (record { instr = x; place = at })
      → slice_get C.sites s ≡ o → site_at C (site_of (line_before Lines (suc g.at))) ≡ o
  site_after x at s o b e f = ap (λ l. site_at C (site_of l)) e ∙ ap (λ q. site_at C q) b ∙ f

  join_after : (x : Instr) (at : Place) (s : ℕ) → branch_site x ≡ Some s → slice_get Lines g.at ≡ Some (record { instr = x; place = at })
      → IsJoin (slice_get Lines (suc g.at))
  join_after x at s b e = (let j = FJ g.body g.at s (record { instr = x; place = at }) e b in subst (λ o. IsJoin o) (sym j.1) j.2)

  fork_keeps : (at : Place) (s : ℕ) (o : Option Site) → slice_get Lines g.at ≡ Some (record { instr = i.Fork s; place = at }) → slice_get C.sites s ≡ o
      → Kept C Here (forked at o g fs)
  fork_keeps at s None e f = record { is = tt }
  fork_keeps at s (Some (spread_site forking j x)) e f = record { is = tt }
  fork_keeps at s (Some (block_site effects)) e f = record { is = tt }
  fork_keeps at s (Some (call_site c r formals regions)) e f = record { is = tt }
  fork_keeps at s (Some (new_site c n regions)) e f = record { is = tt }
  fork_keeps at s (Some (array_site region first)) e f = record { is = tt }
  fork_keeps at s (Some (fork_site forking js copies)) e f =
      keeps_deeper C Here g.frame.left at _ (record {
        is = λ x. (
          (join_after (i.Fork s) at s refl e, subst (λ o. LeftIn o (Int (pos (length js)) ∷ g.stack)) (sym (site_after (i.Fork s) at s _ refl e f)) tt),
          ap (λ o. starts_of o (record g { at = suc g.at; stack = Int (pos (length js)) ∷ g.stack })) (site_after (i.Fork s) at s _ refl e f),
        );
      })

  spread_keeps : (at : Place) (s : ℕ) (o : Option Site) → slice_get Lines g.at ≡ Some (record { instr = i.Spread s; place = at }) → slice_get C.sites s ≡ o
      → Kept C Here (spread at o g fs)
  spread_keeps at s None e f = record { is = tt }
  spread_keeps at s (Some (fork_site forking js copies)) e f = record { is = tt }
  spread_keeps at s (Some (block_site effects)) e f = record { is = tt }
  spread_keeps at s (Some (call_site c r formals regions)) e f = record { is = tt }
  spread_keeps at s (Some (new_site c n regions)) e f = record { is = tt }
  spread_keeps at s (Some (array_site region first)) e f = record { is = tt }
  spread_keeps at s (Some (spread_site forking j x)) e f =
      keeps_two C Here g.stack _ (λ start count st. keeps_deeper C Here g.frame.left at _ (record {
        is = λ a. (
          (
            join_after (i.Spread s) at s refl e,
            subst (λ o. LeftIn o (waiting (how_many (number count)) (number start) (how_many (number count)) st)) (sym (site_after (i.Spread s) at s _ refl e f)) (omega arith),
          ),
          ap (λ o. starts_of o (record g { at = suc g.at; stack = waiting (how_many (number count)) (number start) (how_many (number count)) st })) (site_after (i.Spread s) at s _ refl e f)
              ∙ same_starts j x g.frame (int_wrapping_sub w32 (number start) (pos (how_many (number count) - how_many (number count)))) (number start) (λ m. firsts (number start) (how_many (number count)) m) 0 (how_many (number count)),
        );
      }))

  -- at a join
  begin_fork : (total : ℕ) (copies : List ℕ) (forking : Forking) (js : List ℕ) (lists : List (List ℕ)) (n : ℕ) (st : List (Value ℕ))
      → site_at C (site_of (line_before Lines g.at)) ≡ Some (fork_site forking js lists) → Kept C Here (joins_fork total copies n g st fs)
  begin_fork total copies forking js lists zero st e = record { is = λ t p. refl }
  begin_fork total copies forking js lists (suc n) st e = record {
    is = (
      λ at x. ((at.0, subst (λ o. LeftIn o (Int (pos n) ∷ st)) (sym e) tt), subst (λ o. FewerLeft o (Int (pos n) ∷ st)) (sym e) tt),
      λ x fewer few. ap (λ o. starts_of o (record g { stack = Int (pos n) ∷ st })) e ∙ sym (ap (λ o. starts_of o g) e),
    );
  }

  begin_spread : (forking : Forking) (j x : ℕ) (left next total : Value ℕ) (st : List (Value ℕ)) (n : ℕ)
      → site_at C (site_of (line_before Lines g.at)) ≡ Some (spread_site forking j x) → g.stack ≡ left ∷ next ∷ total ∷ st → how_many (number left) ≡ n
      → Kept C Here (joins_spread next (how_many (number total)) n g st fs)
  begin_spread forking j x left next total st zero e f h = record { is = λ t p. refl }
  begin_spread forking j x left next total st (suc n) e f h = record { is = (at_next, starts_next) }
    where
      at_next : AtJoin C Here → (a : Answer ℕ (ℕ × ℕ)) → AtJoin C (On (record g { stack = waiting n (int_wrapping_add w32 (number next) (pos 1)) (how_many (number total)) st }) fs)
          × HasBegun C (On (record g { stack = waiting n (int_wrapping_add w32 (number next) (pos 1)) (how_many (number total)) st }) fs)
      at_next at a =
          let within : how_many (number left) ≤ how_many (number total) =
          subst (λ s. LeftIn (Some (spread_site forking j x)) s) f (subst (λ o. LeftIn o g.stack) e at.1) in (
            (at.0, subst (λ o. LeftIn o (waiting n (int_wrapping_add w32 (number next) (pos 1)) (how_many (number total)) st)) (sym e) (omega (arith, within, h))),
            subst (λ o. FewerLeft o (waiting n (int_wrapping_add w32 (number next) (pos 1)) (how_many (number total)) st)) (sym e) (omega (arith, within, h)),
          )

      starts_next : (a : Answer ℕ (ℕ × ℕ)) → HasBegun C (On (record g { stack = waiting n (int_wrapping_add w32 (number next) (pos 1)) (how_many (number total)) st }) fs)
          → suc (how_many (number total) - suc n) < 2147483648
          → starts_at C (On (record g { stack = waiting n (int_wrapping_add w32 (number next) (pos 1)) (how_many (number total)) st }) fs) ≡ starts_at C Here
      starts_next a fewer few =
          let below : n < how_many (number total) =
          subst (λ o. FewerLeft o (waiting n (int_wrapping_add w32 (number next) (pos 1)) (how_many (number total)) st)) e fewer in
          let many : how_many (number total) - n ≡ suc (how_many (number total) - suc n) = omega (arith, below) in
          ap (λ o. starts_of o (record g { stack = waiting n (int_wrapping_add w32 (number next) (pos 1)) (how_many (number total)) st })) e
          ∙ same_starts j x g.frame (int_wrapping_sub w32 (int_wrapping_add w32 (number next) (pos 1)) (pos (how_many (number total) - n)))
          (int_wrapping_sub w32 (number next) (pos (how_many (number total) - suc n)))
          (λ m. ap (λ d. int_wrapping_add w32 (int_wrapping_sub w32 (int_wrapping_add w32 (number next) (pos 1)) (pos d)) (pos m)) many
          ∙ nexts (number next) (how_many (number total) - suc n) m few) 0 (how_many (number total))
          ∙ sym (ap (λ d. each_started j x g.frame (int_wrapping_sub w32 (number next) (pos (how_many (number total) - d))) 0 (how_many (number total))) h)
          ∙ sym (ap (λ s. spread_starts j x g.frame s) f) ∙ sym (ap (λ o. starts_of o g) e)

  join_keeps : (o : Option Site) → site_at C (site_of (line_before Lines g.at)) ≡ o → Kept C Here (joins_site o g fs)
  join_keeps None e = record { is = tt }
  join_keeps (Some (block_site effects)) e = record { is = tt }
  join_keeps (Some (call_site c r formals regions)) e = record { is = tt }
  join_keeps (Some (new_site c n regions)) e = record { is = tt }
  join_keeps (Some (array_site region first)) e = record { is = tt }
  join_keeps (Some (fork_site forking js copies)) e = keeps_one C Here g.stack _ (λ left st. begin_fork (length js) _ forking js copies (how_many (number left)) st e)
  join_keeps (Some (spread_site forking j x)) e = go g.stack refl
    where
      go : (s : List (Value ℕ)) → g.stack ≡ s
          → Kept C Here (one s (λ left more. two more (λ total next st. joins_spread next (how_many (number total)) (how_many (number left)) g st fs)))
      go [] f = record { is = tt }
      go (left ∷ []) f = record { is = tt }
      go (left ∷ next ∷ []) f = record { is = tt }
      go (left ∷ next ∷ total ∷ st) f = begin_spread forking j x left next total st (how_many (number left)) e f refl

  joins_keep : (q : Option ℕ) → site_of (line_before Lines g.at) ≡ q → Kept C Here (joins C q g fs)
  joins_keep None e = record { is = tt }
  joins_keep (Some s) e = join_keeps (slice_get C.sites s) (ap (λ q. site_at C q) e)

  array_keeps : (at : Place) (r : Region (ℕ × ℕ)) (c : FirstValue) (n : ℤ) (st : List (Value ℕ)) → Kept C Here (array_of at r c n g st fs)
  array_keeps at r c (negsuc n) st = record { is = tt }
  array_keeps at r c (pos n) st = keeps_long C Here (is_long r) at (Waits (Do (New (An_array r n (held_first c)) false)) (λ a. next g (name_made a ∷ st) fs)) (record { is = tt })

  calls_keep : (at : Place) (c r : ℕ) (own : List (Region (ℕ × ℕ))) (n : ℕ) (vs st : List (Value ℕ)) → Kept C Here (calls (names_of k) C at c r own n vs g st fs)
  calls_keep at c r own n vs st =
      keeps_deeper C Here g.frame.left at _ (keeps_long C Here (some_long own) at
      (Waits (Do (Look n)) (λ a. enters (names_of k) C (class_entered (parent_of C) (length C.classes) c (class_seen a)) r (Object n ∷ vs) own (record g { at = suc g.at; stack = st }) fs))
      (record { is = tt }))

  call_keeps : (at : Place) (o : Option Site) → Kept C Here (called (names_of k) C at o g fs)
  call_keeps at None = record { is = tt }
  call_keeps at (Some (fork_site forking js copies)) = record { is = tt }
  call_keeps at (Some (spread_site forking j x)) = record { is = tt }
  call_keeps at (Some (block_site effects)) = record { is = tt }
  call_keeps at (Some (new_site c n regions)) = record { is = tt }
  call_keeps at (Some (array_site region first)) = record { is = tt }
  call_keeps at (Some (call_site c r formals regions)) =
      keeps_taken C Here formals g.stack _ (λ vs rest. keeps_one C Here rest _ (λ v st. keeps_or C Here trap.Null at (reference v)
      (λ n. calls (names_of k) C at c r (map (concrete (names_of k) (around g.frame)) regions) n (reverse vs) g st fs)
      (λ n. calls_keep at c r (map (concrete (names_of k) (around g.frame)) regions) n (reverse vs) st)))

  creates_keep : (at : Place) (c : ℕ) (rs : List (Region (ℕ × ℕ))) (vs : List (Value ℕ)) (o : Option ℕ) (st : List (Value ℕ))
      → Kept C Here (creates (names_of k) C at c rs vs o g st fs)
  creates_keep at c rs vs None st = record { is = tt }
  creates_keep at c rs vs (Some j) st = keeps_deeper C Here g.frame.left at
      (Waits (Do (New (An_object c rs (map held_first (fields_of (class_at C c)))) true)) (λ a. entered (names_of k) C j (name_made a ∷ vs) rs (record g { at = suc g.at; stack = name_made a ∷ st }) fs))
      (record { is = tt })

  create_keeps : (at : Place) (o : Option Site) → Kept C Here (created (names_of k) C at o g fs)
  create_keeps at None = record { is = tt }
  create_keeps at (Some (fork_site forking js copies)) = record { is = tt }
  create_keeps at (Some (spread_site forking j x)) = record { is = tt }
  create_keeps at (Some (block_site effects)) = record { is = tt }
  create_keeps at (Some (call_site c r formals regions)) = record { is = tt }
  create_keeps at (Some (array_site region first)) = record { is = tt }
  create_keeps at (Some (new_site c formals regions)) =
      keeps_taken C Here formals g.stack _ (λ vs st. keeps_long C Here (some_long (map (concrete (names_of k) (around g.frame)) regions)) at
      (creates (names_of k) C at c (map (concrete (names_of k) (around g.frame)) regions) (reverse vs) (constructor_of C c) g st fs)
      (creates_keep at c (map (concrete (names_of k) (around g.frame)) regions) (reverse vs) (constructor_of C c) st))

  makes_keep : (at : Place) (o : Option Site) → Kept C Here (makes_array (names_of k) at o g fs)
  makes_keep at None = record { is = tt }
  makes_keep at (Some (fork_site forking js copies)) = record { is = tt }
  makes_keep at (Some (spread_site forking j x)) = record { is = tt }
  makes_keep at (Some (block_site effects)) = record { is = tt }
  makes_keep at (Some (call_site c r formals regions)) = record { is = tt }
  makes_keep at (Some (new_site c n regions)) = record { is = tt }
  makes_keep at (Some (array_site region first)) = keeps_one C Here g.stack _ (λ v st. array_keeps at (concrete (names_of k) (around g.frame) region) first (number v) st)

  end_keeps : (gs : List LevelIn) → Kept C Here (ends_branch C g gs)
  end_keeps [] = record { is = tt }
  end_keeps (x ∷ gs) = record { is = tt }

  operates_keep : (at : Place) (o : BinaryOp) → Kept C Here (operates (names_of k) at o g fs)
  operates_keep at o = keeps_two C Here g.stack _ (λ v u st. keeps_or C Here trap.Divide at (operated (names_of k).same o v u) (λ w. Goes (next g (w ∷ st) fs)) (λ w. record { is = tt }))

  reads_keep : (at : Place) (v : Value ℕ) (j : ℤ) (st : List (Value ℕ)) → Kept C Here (reads at v j g st fs)
  reads_keep at v j st = keeps_or C Here trap.Null at (reference v) (λ n. Waits (Do (Read n j)) (λ a. cell_read at (value_read a) g st fs)) (λ n. record { is = tt })

  writes_keep : (at : Place) (v : Value ℕ) (j : ℤ) (u : Value ℕ) (st : List (Value ℕ)) → Kept C Here (writes at v j u g st fs)
  writes_keep at v j u st =
      keeps_or C Here trap.Null at (reference v) (λ n. Waits (Do (Write n j u)) (λ a. cell_written at (is_out a) g st fs)) (λ n. record { is = tt })

  part_keeps : (at : Place) (x : ℕ) (v : Value ℕ) (f : ℤ → Value ℕ → StandIn) → ((p : ℤ) (a : Value ℕ) → Kept C Here (f p a)) → Kept C Here (in_part at x v g f)
  part_keeps at x v f h = keeps_or C Here trap.Index at (part_place x (number v) g.frame.values) (λ p. f p (slot_value g.frame.values x)) (λ p. h p _)

  exec_keeps : (at : Place) (x : Instr) → slice_get Lines g.at ≡ Some (record { instr = x; place = at }) → Kept C Here (exec (names_of k) C at x g fs)
  exec_keeps at (i.Int n) e = record { is = tt }
  exec_keeps at (i.Bool b) e = record { is = tt }
  exec_keeps at i.Null e = record { is = tt }
  exec_keeps at (i.Load x) e = record { is = tt }
  exec_keeps at (i.Store x) e = keeps_one C Here g.stack _ (λ v st. record { is = tt })
  exec_keeps at i.Pop e = keeps_one C Here g.stack _ (λ v st. record { is = tt })
  exec_keeps at (i.Unary o) e = keeps_one C Here g.stack _ (λ v st. record { is = tt })
  exec_keeps at (i.Binary o) e = operates_keep at o
  exec_keeps at (i.Jump n) e = record { is = tt }
  exec_keeps at (i.Unless n) e = keeps_one C Here g.stack _ (λ v st. record { is = tt })
  exec_keeps at i.Turn e = record { is = tt }
  exec_keeps at (i.Get x) e = keeps_one C Here g.stack _ (λ v st. reads_keep at v (pos x) st)
  exec_keeps at (i.Put x) e = keeps_two C Here g.stack _ (λ v u st. writes_keep at v (pos x) u st)
  exec_keeps at i.Elem e = keeps_two C Here g.stack _ (λ v u st. reads_keep at v (number u) st)
  exec_keeps at i.PutElem e = keeps_three C Here g.stack _ (λ v j u st. writes_keep at v (number j) u st)
  exec_keeps at i.Length e = keeps_one C Here g.stack _ (λ v st. keeps_or C Here trap.Null at (reference v) (λ n. Waits (Do (Look n)) (λ a. next g (Int (pos (length_seen a)) ∷ st) fs)) (λ n. record { is = tt }))
  exec_keeps at (i.Call s) e = call_keeps at (slice_get C.sites s)
  exec_keeps at (i.New s) e = create_keeps at (slice_get C.sites s)
  exec_keeps at (i.Array s) e = makes_keep at (slice_get C.sites s)
  exec_keeps at i.Return e = keeps_one C Here g.stack _ (λ v st. record { is = tt })
  exec_keeps at i.Leave e = record { is = tt }
  exec_keeps at i.Print e = keeps_one C Here g.stack _ (λ v st. record { is = tt })
  exec_keeps at (i.Text t) e = record { is = tt }
  exec_keeps at (i.Fork s) e = fork_keeps at s (slice_get C.sites s) e refl
  exec_keeps at (i.Spread s) e = spread_keeps at s (slice_get C.sites s) e refl
  exec_keeps at i.Join e = joins_keep (site_of (line_before Lines g.at)) refl
  exec_keeps at (i.Enter s) e = record { is = tt }
  exec_keeps at i.Exit e = record { is = tt }
  exec_keeps at i.End e = end_keeps fs
  exec_keeps at (i.Region r) e = record { is = tt }
  exec_keeps at (i.Part x) e = record { is = tt }
  exec_keeps at (i.InPart x) e = keeps_one C Here g.stack _ (λ v st. part_keeps at x v (λ p a. Goes (next g (Int p ∷ a ∷ st) fs)) (λ p a. record { is = tt }))
  exec_keeps at (i.InParts x) e = keeps_two C Here g.stack _ (λ v u st. part_keeps at x v (λ p a. Goes (next g (u ∷ Int p ∷ a ∷ st) fs)) (λ p a. record { is = tt }))

  line_keeps : (o : Option Line) → slice_get Lines g.at ≡ o → Kept C Here (exec_line (names_of k) C o g fs)
  line_keeps None e = record { is = tt }
  line_keeps (Some l) e = exec_keeps l.place l.instr e

module _ (C : PlainCode) (k : ℕ) (z : StateIn) (g : LevelIn) (fs : List LevelIn) where
  enter_keeps : (o : Option Site) → Kept C z (enters_block (names_of k) o g fs)
  enter_keeps None = record { is = tt }
  enter_keeps (Some (fork_site forking js copies)) = record { is = tt }
  enter_keeps (Some (spread_site forking j x)) = record { is = tt }
  enter_keeps (Some (block_site effects)) = record { is = tt }
  enter_keeps (Some (call_site c r formals regions)) = record { is = tt }
  enter_keeps (Some (new_site c n regions)) = record { is = tt }
  enter_keeps (Some (array_site region first)) = record { is = tt }

  rested_keeps : (x : Instr) → Kept C z (rested_at (names_of k) C x g fs)
  rested_keeps (i.Enter s) = enter_keeps (slice_get C.sites s)
  rested_keeps x = record { is = tt }

  rest_keeps : (o : Option Line) → Kept C z (rested_line (names_of k) C o g fs)
  rest_keeps None = record { is = tt }
  rest_keeps (Some l) = rested_keeps l.instr

pub step_keeps : (C : PlainCode) → ForksAreJoined C → FirstNumbers → NextNumbers → (k : ℕ) (z : StateIn) → Kept C z (step (names_of k) C z)
unfolding step
step_keeps C FJ firsts nexts k (On g fs) = line_keeps C FJ firsts nexts k g fs (slice_get (body_at C g.body).lines g.at) refl
step_keeps C FJ firsts nexts k (Rested g fs) = rest_keeps C k (Rested g fs) g fs (slice_get (body_at C g.body).lines g.at)
step_keeps C FJ firsts nexts k (Off e) = record { is = tt }
step_keeps C FJ firsts nexts k Nowhere = record { is = tt }

-- a task at a join waits there, or is stuck
abbrev OnlyWaits : StandIn → Type 0
OnlyWaits (Waits a f) = Unit {0}
OnlyWaits Stuck = Unit {0}
OnlyWaits (Goes s) = ⊥
OnlyWaits (Ticks s) = ⊥
OnlyWaits (Makes f) = ⊥
OnlyWaits (Ends e) = ⊥

fork_waits : (total : ℕ) (copies : List ℕ) (n : ℕ) (g : LevelIn) (st : List (Value ℕ)) (fs : List LevelIn) → OnlyWaits (joins_fork total copies n g st fs)
fork_waits total copies zero g st fs = tt
fork_waits total copies (suc n) g st fs = tt

spread_waits : (next : Value ℕ) (total n : ℕ) (g : LevelIn) (st : List (Value ℕ)) (fs : List LevelIn) → OnlyWaits (joins_spread next total n g st fs)
spread_waits next total zero g st fs = tt
spread_waits next total (suc n) g st fs = tt

site_waits : (o : Option Site) (g : LevelIn) (fs : List LevelIn) → OnlyWaits (joins_site o g fs)
site_waits None g fs = tt
site_waits (Some (block_site effects)) g fs = tt
site_waits (Some (call_site c r formals regions)) g fs = tt
site_waits (Some (new_site c n regions)) g fs = tt
site_waits (Some (array_site region first)) g fs = tt
site_waits (Some (fork_site forking js copies)) g fs = go g.stack
  where
    go : (s : List (Value ℕ)) → OnlyWaits (one s (λ left st. joins_fork (length js) (all_copied copies) (how_many (number left)) g st fs))
    go [] = tt
    go (left ∷ st) = fork_waits (length js) (all_copied copies) (how_many (number left)) g st fs
site_waits (Some (spread_site forking j x)) g fs = go g.stack
  where
    go : (s : List (Value ℕ)) → OnlyWaits (one s (λ left more. two more (λ total next st. joins_spread next (how_many (number total)) (how_many (number left)) g st fs)))
    go [] = tt
    go (left ∷ []) = tt
    go (left ∷ next ∷ []) = tt
    go (left ∷ next ∷ total ∷ st) = spread_waits next (how_many (number total)) (how_many (number left)) g st fs

joins_wait : (C : PlainCode) (q : Option ℕ) (g : LevelIn) (fs : List LevelIn) → OnlyWaits (joins C q g fs)
joins_wait C None g fs = tt
joins_wait C (Some s) g fs = site_waits (slice_get C.sites s) g fs

join_waits : (C : PlainCode) (k : ℕ) (z : StateIn) → AtJoin C z → OnlyWaits (step (names_of k) C z)
unfolding step
join_waits C k (Rested g fs) h = absurd h
join_waits C k (Off e) h = absurd h
join_waits C k Nowhere h = absurd h
join_waits C k (On g fs) h = go (slice_get (body_at C g.body).lines g.at) h.0
  where
    go : (o : Option Line) → IsJoin o → OnlyWaits (exec_line (names_of k) C o g fs)
    go None i = absurd i
    go (Some l) i = subst (λ x. OnlyWaits (exec (names_of k) C l.place x g fs)) (sym i) (joins_wait C (site_of (line_before (body_at C g.body).lines g.at)) g fs)

-- so its way ends there
pub join_run : (C : PlainCode) (k made : ℕ) (z : StateIn) (h : Halt ℕ (ℕ × ℕ)) → AtJoin C z → RunsToAction (names_of k) C made z h → stands 0 made (step (names_of k) C z) ≡ h
join_run C k made z h at l = go l.fuel l.runs
  where
    stand : (more : ℕ → ℕ → StateIn → Option (Halt ℕ (ℕ × ℕ))) (o : StandIn) → OnlyWaits o → ran_on (names_of k) more 0 made o ≡ Some h → stands 0 made o ≡ h
    stand more (Waits a f) w e = cc
    stand more Stuck w e = cc
    stand more (Goes s) w e = absurd w
    stand more (Ticks s) w e = absurd w
    stand more (Makes f) w e = absurd w
    stand more (Ends x) w e = absurd w

    go : (fuel : ℕ) → run_to_action (names_of k) C fuel 0 made z ≡ Some h → stands 0 made (step (names_of k) C z) ≡ h
    go zero e = absurd (cc)
    go (suc fuel) e = stand (λ n m s. run_to_action (names_of k) C fuel n m s) (step (names_of k) C z) (join_waits C k z at) e
